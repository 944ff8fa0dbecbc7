-- What is made of a connection that is taken over.
use Rattle.registry_desk.proofs.Words.{◌≡◌, ◌∙◌, ℕ, zero, suc, arith, inl, inr, ap, refl, subst, sym, false, true, List, Result, Ok, Err, IfErr, IsTrue, OnOk, survives_begin, survives_then, survives_weaker}
use Rattle.registry_desk.proofs.Words.{Database, Held, state, Shown, HasCleanDisk, IsRolledBack, KeepsCommit, Survives, Trees, Ghosts, Fault, Wrote, CommitFails, IsCommitted, Leaves, Reads}
use Rattle.registry_desk.proofs.Words.{on_answer, Contents, contents, shown, stored, fresh, schema, CanBeAdopted, IsAdopted, IsGivenBack, IsSettled, IsUndone, LeavesCommitted, MakesInside, Settles}
use Rattle.registry_desk.proofs.Words.{AreEmpty, GivesAs, IsLeftOf, IsOurs, LeavesAs, schema_as, IsAsWritten, Base, Caches}
use Rattle.registry_desk.specs.Opened.{IsMadeOf}
use Rattle.registry_desk.specs.declared.open.Base.TheVariants as base
use Rattle.registry_desk.proofs.CommitFacts.{commit_rests, failed_undone, fresh_as_written, handed_back, registry_left, rises_again, survives_nothing, undone_is}
use Rattle.registry_desk.proofs.KeptFacts.{new_cached}
use Rattle.std.proofs.lemmas.Bool.{cases_Bool}
use Rattle.sqlite.specs.declared.transaction.Transaction.{Transaction}
use Rattle.sqlite_value.specs.Order.{Row}
use Rattle.registry_tables.specs.Opening.{HasCreated, HasRun}

-- a statement that was run in a transaction found the connection open
wrote_open : (sql : List ℕ) (params : Row) (old new : Shown) → Wrote sql params old new → HasCleanDisk new → IsTrue old.is_open
wrote_open sql params old new wrote clean = elim (cases_Bool old.in_transaction) [
  | inl on ↦ (wrote.1.runs clean on).1.was_open
  | inr off ↦ absurd (let e = (wrote.1.ended off).1 in cc)
]

module _ {S : Type 0} (store : Ghosts S) where
  -- so did the first of several
  ran_open : (n : ℕ) (old new : Transaction S) → HasRun store n old new → HasCleanDisk (shown store new) → IsTrue (shown store new).is_open → IsTrue (shown store old).is_open
  ran_open zero old new same clean on = subst (λ (tx : Transaction S). IsTrue (shown store tx).is_open) same on
  ran_open (suc n) old new ran clean on =
      let mid = shown store ran.0 in
      let were : HasCleanDisk mid = omega (arith, ran.2.1.survives.clean, clean) in
      ran_open n old ran.0 ran.1 were (wrote_open _ _ mid (shown store new) ran.2 clean)

  -- and those that make the tables
  pub created_open : (old new : Transaction S) → HasCreated store old new → HasCleanDisk (shown store new) → IsTrue (shown store old).is_open
  created_open old new made clean =
      let mid = shown store made.0 in
      let were : HasCleanDisk mid = omega (arith, made.2.1.survives.clean, clean) in
      ran_open _ old made.0 made.1 were (wrote_open _ _ mid (shown store new) made.2 clean)

-- ---- what one commit makes of a connection's tables

module _ {S : Type 0} (store : Ghosts S) (old : Held S) (mid new : Shown) (IsGiven : Contents → Type 0) (IsLeft : Trees → Type 0) where
  abbrev begun : Shown
  begun = state store (record old { in_transaction = true })

  module _ (keeps : HasCleanDisk mid → KeepsCommit begun mid) (first : Survives begun mid (λ _. ⊥)) (ended : new.in_transaction ≡ false) where
    back_then : (HasCleanDisk new → HasCleanDisk mid) → (HasCleanDisk new → IsRolledBack mid new) → IsUndone (state store old) new
    back_then were back clean on =
        let kept = keeps (were clean) in
        undone_is (state store old) mid new (record { was_open = kept.was_open; committed = kept.committed }) back clean on

    -- all was made, and its commit was tried
    pub settled_by_commit : (result : Result (Unit {0}) Fault) → (HasCleanDisk mid → MakesInside begun mid IsGiven IsLeft) → Survives mid new (λ db. db ≡ mid.now.trees)
        → (HasCleanDisk new → OnOk result (IsCommitted mid new)) → (HasCleanDisk new → IfErr result (CommitFails mid new)) → Settles (state store old) new IsGiven IsLeft result
    settled_by_commit result makes last ok err = by_result result ok err
      where
        were : HasCleanDisk new → HasCleanDisk mid
        were clean = omega (arith, last.clean, clean)

        survives : Survives (state store old) new (λ db. IsTrue (state store old).is_open × IsLeft db)
        survives = survives_then (state store old) mid new _ _ (λ db. IsTrue (state store old).is_open × IsLeft db) (λ _ _ none. absurd none)
            (λ clean db is. let it = makes (were clean) in (it.was_open, subst IsLeft (sym is) it.left)) (survives_begin store old mid _ first) last

        by_result : (result : Result (Unit {0}) Fault) → (HasCleanDisk new → OnOk result (IsCommitted mid new)) → (HasCleanDisk new → IfErr result (CommitFails mid new)) → Settles (state store old) new IsGiven IsLeft result
        by_result (Ok done) ok err = record {
          rests = commit_rests (stored mid) mid new ended (λ clean. (makes (were clean)).leaves) (λ clean. (makes (were clean)).written) (λ clean. (ok clean).1);
          made = λ clean. let it = makes (were clean) in let shows = (ok clean).1 in
              (it.was_open, shows.is_open, subst IsGiven (sym (ap (λ (d : Database). contents d.trees) shows.now_is)) it.given);
          idle = ended;
          undone = tt;
          survives = survives;
        }
        by_result (Err fault) ok err = record {
          rests = tt;
          made = λ clean. tt;
          idle = ended;
          undone = back_then were (λ clean. failed_undone mid new (err clean).0 (makes (were clean)).leaves.mode (err clean).1);
          survives = survives;
        }

    -- it was broken off
    pub unsettled : (fault : Fault) → Survives mid new (λ _. ⊥) → (HasCleanDisk new → IsRolledBack mid new) → Settles (state store old) new {A = Unit {0}} IsGiven IsLeft (Err fault)
    unsettled fault last back = record {
      rests = tt;
      made = λ clean. tt;
      idle = ended;
      undone = back_then (λ clean. omega (arith, last.clean, clean)) back;
      survives = survives_then (state store old) mid new _ _ (λ db. IsTrue (state store old).is_open × IsLeft db) (λ _ _ none. absurd none) (λ _ _ none. absurd none) (survives_begin store old mid _ first) last;
    }

-- nothing was tried
pub settles_not : (s : Shown) (IsGiven : Contents → Type 0) (IsLeft : Trees → Type 0) (fault : Fault) → s.in_transaction ≡ false → IsSettled s → Settles s s {A = Unit {0}} IsGiven IsLeft (Err fault)
settles_not s IsGiven IsLeft fault idle settled = record {
  rests = tt;
  made = λ clean. tt;
  idle = idle;
  undone = λ clean on. (on, settled on, refl);
  survives = survives_nothing s _;
}

-- ---- what is inside the transaction

-- a fresh registry was made
pub creates : (old new : Shown) → IsTrue old.is_open → Leaves schema contents fresh new → MakesInside old new (GivesAs base.Empty old.now.trees) (LeavesAs base.Empty old.now.trees)
creates old new was_open left = record {
  was_open = was_open;
  leaves = record { holds = refl; ready = left.ready; mode = left.mode };
  written = subst IsAsWritten (sym left.holds) fresh_as_written;
  given = left.holds;
  left = registry_left new new.now.trees fresh left.ready refl left.holds;
}

-- one was found
pub finds_ours : (old new : Shown) → IsTrue old.in_transaction → Reads schema old new → IsOurs (stored old) → MakesInside old new (GivesAs base.Ours old.now.trees) (LeavesAs base.Ours old.now.trees)
finds_ours old new going reads ours =
    let same = ap (λ (d : Database). contents d.trees) reads.same in
    record {
      was_open = reads.was_open;
      leaves = record { holds = refl; ready = reads.ready; mode = reads.mode ∙ going };
      written = subst IsAsWritten (sym same) ours.written;
      given = (ours, same);
      left = ap (λ (d : Database). d.trees) reads.same;
    }

-- ---- by what tables the database has

gives_as : (is : Base) (db : Database) (c : Contents) → db.schema ≡ schema_as is → GivesAs is db.trees c → IsMadeOf db c
gives_as base.Empty db c has gives = inr (inl (has, gives))
gives_as base.Ours db c has gives = inl (has, gives.0, gives.1)
gives_as (base.Older older) db c has gives = inr (inr (older, has, gives))

leaves_as : (is : Base) (db : Database) (left : Trees) → db.schema ≡ schema_as is → LeavesAs is db.trees left → IsLeftOf db left
leaves_as base.Empty db left has leaves = inr (inl (has, leaves))
leaves_as base.Ours db left has leaves = inl leaves
leaves_as (base.Older older) db left has leaves = inr (inr (older, has, leaves))

pub settles_as : (is : Base) (old new : Shown) (result : Result (Unit {0}) Fault) → old.now.schema ≡ schema_as is → Settles old new (GivesAs is old.now.trees) (LeavesAs is old.now.trees) result
    → Settles old new (IsMadeOf old.now) (IsLeftOf old.now) result
settles_as is old new result has it = record {
  rests = it.rests;
  made = λ clean. on_answer result (λ made. (made.0, made.1, gives_as is old.now (stored new) has made.2)) (it.made clean);
  idle = it.idle;
  undone = it.undone;
  survives = survives_weaker old new _ _ (λ clean db left. (left.0, leaves_as is old.now db has left.1)) it.survives;
}

-- ---- what is given back

-- what was committed is all that a crash leaves
module _ {S : Type 0} (store : Ghosts S) (h : Held S) (only : (db : Trees) → IsTrue (state store h).is_open → (state store h).may_leave db → db ≡ (state store h).committed.trees) where
  committed_left : (old : Shown) → (IsTrue (state store h).is_open → (state store h).committed ≡ old.committed) → LeavesCommitted old (state store h)
  committed_left old same clean on db left = only db on left ∙ ap (λ (d : Database). d.trees) (same on)

  -- it is as it was
  pub given_back_same : ((state store h).in_transaction ≡ false → CanBeAdopted (state store h)) → IsGivenBack (state store h) (state store h)
  given_back_same rises = record {
    back = (refl, λ clean on. (on, refl));
    again = rises;
    left = survives_nothing (state store h) _;
    alone = committed_left (state store h) (λ on. refl);
  }

  -- nothing was made of it
  pub given_back : (old : Shown) (fault : Fault) → old.in_transaction ≡ false → CanBeAdopted old → IsSettled old → Settles old (state store h) {A = Unit {0}} (IsMadeOf old.now) (IsLeftOf old.now) (Err fault) → IsGivenBack old (state store h)
  given_back old fault was rises settled it =
      let back = handed_back old (state store h) was it.idle settled it.undone in
      record {
        back = back;
        again = λ idle. rises_again old (state store h) rises (λ clean. omega (arith, it.survives.clean, clean)) back;
        left = it.survives;
        alone = λ clean on. committed_left old (λ on. (it.undone clean on).2) clean on;
      }

-- and all of it
pub adopted : (old new : Shown) (caches : Caches) → AreEmpty caches → Settles old new {A = Unit {0}} {E = Fault} (IsMadeOf old.now) (IsLeftOf old.now) (Ok tt) → IsAdopted old new caches
adopted old new caches empty it = record {
  cached = new_cached new caches it.rests empty;
  made = λ clean. let made = it.made clean in (omega (arith, it.survives.clean, clean), made.0, made.2);
  served = λ clean. (it.made clean).1;
  carried = it.survives;
}
