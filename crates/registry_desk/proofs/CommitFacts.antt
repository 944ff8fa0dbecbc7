-- The first tables, and what a commit leaves.
use Rattle.registry_desk.proofs.Words.{◌≡◌, ◌⊎◌, ◌∙◌, ◌+◌, ◌-◌, ◌^◌, ◌≤◌, Bool, min, arith, inl, inr, IsTrue, true, false, true≢false, refl, sym, ap, subst}
use Rattle.registry_desk.proofs.Words.{AllByRecursion, Database, IsDatabase, Held, state, Shown, HasCleanDisk, IsRolledBack, KeepsCommit, Shows, Survives, Error, Trees}
use Rattle.registry_desk.proofs.Words.{Ghosts, IsSound, State, nothing_sound, IsReady, Leaves, Ready, Contents, contents, stored, fresh, schema}
use Rattle.registry_desk.proofs.Words.{fresh_is_nothing, CanBeAdopted, IsHandedBack, IsSettled, IsUndone, IsSure, GrantsInScope, IsAsWritten, IsRegistryOf, Rests}
use Rattle.sqlite.specs.Steps.{FailsToCommit}
use Rattle.sqlite_catalog.specs.Listing as listing
use Rattle.sqlite_schema.specs.declared.schema.Schema.{Schema}
use Rattle.registry_rows.specs.Rows.{HasRowids}
use Rattle.registry_tables.proofs.TeamFacts.{sound_teams}
use Rattle.registry_tables.proofs.RangeFacts.{fresh_in_range}

-- so it is once a transaction is begun
pub begun_ready : {S : Type 0} (store : Ghosts S) (h : Held S) (k : Schema) → Ready k (state store h) → Ready k (state store (record h { in_transaction = true }))
begun_ready store h k ready clean on = let it = ready clean on in record { schema_is = it.schema_is; sound = it.sound; rowids = it.rowids }

pub ready_again : (mid new : Shown) → new.now ≡ mid.now → IsReady schema mid → IsReady schema new
ready_again mid new same ready = record {
  schema_is = ap (λ (d : Database). d.schema) same ∙ ready.schema_is;
  sound = subst IsDatabase (sym same) ready.sound;
  rowids = subst (λ (d : Database). AllByRecursion (λ t. HasRowids (d.trees t.tree)) schema.tables) (sym same) ready.rowids;
}

-- a database that is seen so is left so
pub registry_left : (s : Shown) (db : Trees) (c : Contents) → IsReady schema s → db ≡ s.now.trees → stored s ≡ c → IsRegistryOf db c
registry_left s db c ready is holds = (subst (listing.IsSound schema) (sym is) (subst (λ k. listing.IsSound k s.now.trees) ready.schema_is ready.sound), ap contents is ∙ holds)

-- so it is where what is seen was committed
pub rests_sure : {S : Type 0} (store : Ghosts S) (h : Held S) → ((db : Trees) → (state store h).may_leave db → db ≡ (state store h).committed.trees) → Rests (state store h)
    → HasCleanDisk (state store h) → IsTrue (state store h).is_open → IsSure (state store h)
rests_sure store h settled rests clean on db left =
    registry_left (state store h) db _ (rests.in_form clean on) (settled db left ∙ ap (λ (d : Database). d.trees) (sym (rests.settled clean on))) refl

-- a transaction that is begun finds the tables in form
pub begun_in_form : {S : Type 0} (store : Ghosts S) (h : Held S) → Ready schema (state store h) → Ready schema (state store (record h { in_transaction = true }))
begun_in_form store h ready clean on = ready_again (state store h) (state store (record h { in_transaction = true })) refl (ready clean on)

-- a fresh registry grants nothing
pub fresh_in_scope : GrantsInScope fresh
fresh_in_scope = (sound_teams fresh (subst (λ (S : State). IsSound S.access) (sym fresh_is_nothing) nothing_sound)).grants

-- and holds no number
pub fresh_as_written : IsAsWritten fresh
fresh_as_written = record { grants = fresh_in_scope; numbers = fresh_in_range }

-- what a commit leaves, however the disk is
pub commit_rests : (left : Contents) (mid new : Shown) → new.in_transaction ≡ false → (HasCleanDisk new → Leaves schema contents left mid) → (HasCleanDisk new → IsAsWritten left) → (HasCleanDisk new → Shows mid new mid.now mid.now false) → Rests new
commit_rests left mid new ended leaves scoped shows = record {
  idle = ended;
  written = λ clean _. subst IsAsWritten (sym (ap (λ (d : Database). contents d.trees) (shows clean).now_is ∙ (leaves clean).holds)) (scoped clean);
  in_form = λ clean _. ready_again mid new (shows clean).now_is (leaves clean).ready;
  settled = λ clean _. (shows clean).now_is ∙ sym (shows clean).committed_is;
}

-- ---- what is left where nothing was committed

-- nor tried
pub survives_nothing : (s : Shown) (Commits : Trees → Type 0) → Survives s s Commits
survives_nothing s Commits = record {
  clean = omega arith;
  shield = λ shielded. shielded;
  counts = omega arith;
  limit = refl;
  closes = λ clean on. inl on;
  crash = λ clean db may. inl may;
}

-- a commit that fails in a transaction rolls back
pub failed_undone : (mid new : Shown) (e : Error) → mid.in_transaction ≡ true → FailsToCommit mid new e → IsRolledBack mid new
failed_undone mid new e mode (inl fails) = fails.3
failed_undone mid new e mode (inr ended) = absurd (true≢false (sym mode ∙ ended.1))

module _ (old mid new : Shown) where
  undone : KeepsCommit old mid → IsRolledBack mid new → IsTrue new.is_open → IsTrue old.is_open × (new.now ≡ old.committed) × (new.committed ≡ old.committed)
  undone keeps back on =
      let same = keeps.committed (back.was_open on) in
      (keeps.was_open (back.was_open on), (back.undone on).0 ∙ same, (back.undone on).1 ∙ same)

  pub undone_open : KeepsCommit old mid → IsRolledBack mid new → IsTrue new.is_open → IsTrue old.is_open
  undone_open keeps back on = (undone keeps back on).0

  -- what was committed is seen again
  pub undone_is : KeepsCommit old mid → (HasCleanDisk new → IsRolledBack mid new) → IsUndone old new
  undone_is keeps back clean on = undone keeps (back clean) on

  undone_now : Rests old → HasCleanDisk old → KeepsCommit old mid → IsRolledBack mid new → IsTrue new.is_open → new.now ≡ old.now
  undone_now rests clean keeps back on = let left = undone keeps back on in left.1 ∙ sym (rests.settled clean left.0)

  pub undone_stored : Rests old → HasCleanDisk old → KeepsCommit old mid → IsRolledBack mid new → IsTrue new.is_open → stored new ≡ stored old
  undone_stored rests clean keeps back on = ap (λ (d : Database). contents d.trees) (undone_now rests clean keeps back on)

  pub undone_rests : Rests old → new.in_transaction ≡ false → (HasCleanDisk new → HasCleanDisk old × KeepsCommit old mid × IsRolledBack mid new) → Rests new
  undone_rests rests ended back = record {
    idle = ended;
    written = λ clean on. let b = back clean in
        subst IsAsWritten (sym (undone_stored rests b.0 b.1 b.2 on)) (rests.written b.0 (undone b.1 b.2 on).0);
    in_form = λ clean on. let b = back clean in
        ready_again old new (undone_now rests b.0 b.1 b.2 on) (rests.in_form b.0 (undone b.1 b.2 on).0);
    settled = λ clean on. let b = back clean in let left = undone b.1 b.2 on in left.1 ∙ sym left.2;
  }

-- ---- a connection that is given away

-- between requests the rowids rise
pub rests_rises : (s : Shown) → Rests s → CanBeAdopted s
rests_rises s rests clean on =
    let it = rests.in_form clean on in
    subst (λ (k : Schema). AllByRecursion (λ t. HasRowids (s.now.trees t.tree)) k.tables) (sym it.schema_is) it.rowids

module _ (old new : Shown) where
  -- where what it saw was committed, it sees it again
  pub handed_back : old.in_transaction ≡ false → new.in_transaction ≡ false → IsSettled old → IsUndone old new → IsHandedBack old new
  handed_back was is settled undone = (is ∙ sym was, λ clean on. let it = undone clean on in (it.0, it.1 ∙ sym (settled it.0)))

  -- so it can be adopted as before
  pub rises_again : CanBeAdopted old → (HasCleanDisk new → HasCleanDisk old) → IsHandedBack old new → CanBeAdopted new
  rises_again rises were back clean on =
      let it = back.1 clean on in
      subst (λ (d : Database). AllByRecursion (λ t. HasRowids (d.trees t.tree)) d.schema.tables) (sym it.1) (rises (were clean) it.0)

-- ---- a store without faults

-- where no fault may come, nothing shuts the registry
pub stays_open : (is : Bool) → IsTrue is ⊎ (min (0 + 1) (2 ^ 64 - 1) ≤ 0) → IsTrue is
stays_open is (inl on) = on
stays_open is (inr more) = absurd (omega arith)
