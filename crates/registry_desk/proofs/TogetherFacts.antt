-- What commands that are answered together come to: each was asked in its turn.
use Rattle.registry_desk.proofs.Words.{◌≡◌, ◌⊎◌, ◌∙◌, ◌<◌, ◌≤◌, ℕ, zero, suc, arith, inl, inr, Bool, true, false, true≢false, List, [], ◌∷◌, ◌++◌, length, Result, Ok, Err, OnOk, IfErr, IsTrue, refl, sym, ap, subst}
use Rattle.registry_desk.proofs.Words.{AllByRecursion, Database, IsRolledBack, KeepsCommit, CommitFails, IsCommitted, HasAnswers, AreAnswers, schema, Held, state, Shown, HasCleanDisk, Survives, Trees, Ghosts, Stays, survives_begin, survives_then, survives_weaker, Fault, is_command, IsKept, State, Action, Reply, Request}
use Rattle.registry_desk.proofs.Words.{HeldAreStored, HoldsArchives, Contents, contents, registry_of, registry_in, stored, HoldsNeeds, held_stored, IsReady, answer, IsAnswer, Outcome, next, apply_says, state_without}
use Rattle.registry_desk.proofs.Words.{NeedsFor, NeedsForEach, Answered, Applied, Served, Stepped, Unchanged, IsAsWritten, IsRegistryOf, Rests, next_stored, settled_by, IsAnyPackument, KeepNoMore, KeepsNoMore, texts_of, LeavesAll}
use Rattle.std.proofs.Common.{get_or}
use Rattle.std.proofs.lemmas.Bool.{cases_Bool}
use Rattle.sqlite_trees.specs.View.{doubt}
use Rattle.sqlite.specs.declared.transaction.Transaction.{Transaction}
use Rattle.registry_cache.specs.Caches.{Cache}
use Rattle.registry_laws_hidden.proofs.UnheardFacts.{replies_are_alike}
use Rattle.registry_desk.specs.Lives.{AskedInTurn}
use Rattle.registry_desk.specs.Promises.{IsLost, Keeps, KeepsForm, Moves, StaysSure, SurvivesInTurn, WasOpen}
use Rattle.registry_desk.specs.Resting.{HoldsAsWritten}
use Rattle.registry_desk.specs.Together.{AnsweredTogether, AreAnsweredInside, AreReplies, FailTogether, IsAnsweredInside, LeavesTogether, MeetFault, Point, all_settled, as_committed, as_lost, at_rest, shown_at}
use Rattle.registry_desk.specs.declared.cache.Caches.{Caches}
use Rattle.registry_desk.proofs.CommitFacts.{commit_rests, failed_undone, registry_left, rests_sure, undone_open, undone_rests, undone_stored}
use Rattle.registry_desk.proofs.HiddenFacts.{leaves_the_rest, same_answer}
use Rattle.registry_desk.proofs.KeepingFacts.{IsKeptByChanges, archives_kept, holds_next, kept_next, needs_kept, registry_next, sound_next}
use Rattle.registry_desk.proofs.KeptFacts.{right_unchanged}
use Rattle.registry_desk.proofs.SendingFacts.{is_clean, never_enters, no_command}
use Rattle.registry_desk.proofs.SettlingFacts.{faulted_next, settled_next}
use Rattle.registry_desk.proofs.StoredFacts.{needs_stay}

-- a command asks for no packument
pub command_is_other : (what : Action) → is_command what ≡ true → ¬ IsAnyPackument what
command_is_other what is (view, p, asks) = absurd (true≢false (sym is ∙ no_command view what p asks))

pub each_is : (P : Request → Type 0) (rs : List Request) (n : ℕ) (r : Request) → n < length rs → r ≡ get_or rs n r → AllByRecursion P rs → P r
each_is P [] n r some is all = absurd (omega (arith, some))
each_is P (q ∷ rs) zero r some is all = subst P (sym is) all.0
each_is P (q ∷ rs) (suc n) r some is all = each_is P rs n r (omega (arith, some)) is all.1

-- one outcome more meets the fault
pub met_push : (fault : Fault) (os : List Outcome) → MeetFault fault os → MeetFault fault (os ++ Err fault ∷ [])
met_push fault [] met = (refl, tt)
met_push fault (o ∷ os) met = (met.0, met_push fault os met.1)

-- ---- what is kept, after one request more

no_more_then : (a b c : Cache) → KeepsNoMore a b → KeepsNoMore b c → KeepsNoMore a c
no_more_then a b c one two = record { limit = two.limit ∙ one.limit; before = λ p text is. one.before p text (two.before p text is) }

pub keep_no_more_then : (a b c : Caches) → KeepNoMore a b → KeepNoMore b c → KeepNoMore a c
keep_no_more_then a b c one two = record {
  texts = λ view. no_more_then (texts_of view a) (texts_of view b) (texts_of view c) (one.texts view) (two.texts view);
  archives = no_more_then a.archives b.archives c.archives one.archives two.archives;
}

-- ---- all that is promised of a request

shut_is_not_open : {b : Bool} → b ≡ false → IsTrue b → ⊥
shut_is_not_open shut on = true≢false (sym on ∙ shut)

module _ (s t : Shown) (r : Request) (o : Outcome) where
  -- from what is said of its outcome alone
  applied_by : (HasCleanDisk t → IsTrue t.is_open → HeldAreStored (stored s)) → ((P : Contents → Type 0) → IsKeptByChanges P → Keeps s t r P) → KeepsForm s t r
      → Answered s t r o → Served s t o → WasOpen s t → Unchanged s t r o → Stepped s t r o → HoldsAsWritten t → SurvivesInTurn s t r → StaysSure t → Applied s t r o
  applied_by held kept form told served opened unchanged step written survives durable =
      let moves : Moves s t r o = λ needs clean on. registry_next (stored s) (stored t) r o (held clean on) (step needs clean on) in
      record {
        answer = told;
        served = served;
        opened = opened;
        unchanged = unchanged;
        step = step;
        moves = moves;
        history = λ needs clean on h legal is. apply_says h _ _ r o (told needs clean) (moves needs clean on) legal is;
        hidden = λ needs clean h legal is p stranger quiet.
            let given = subst (λ (S : State). IsAnswer S r o) is (told needs clean) in (
              same_answer _ _ r o (replies_are_alike h p r legal stranger quiet) given,
              λ on.
                  ap (λ (S : State). state_without S p) (moves needs clean on ∙ ap (λ (S : State). next S r o) is)
                  ∙ leaves_the_rest h p r o legal stranger quiet given,
            );
        written = written;
        needs = kept HoldsNeeds needs_kept;
        refers = λ needs clean on holds. sound_next _ _ r o (told needs clean) (moves needs clean on) holds;
        archives = kept HoldsArchives archives_kept;
        form = form;
        survives = survives;
        durable = durable;
      }

  -- nothing is promised where the disk didn't return what was written to it
  unclean_applied : (HasCleanDisk t → ⊥) → Survives s t (λ db. Unit {0}) → Applied s t r o
  unclean_applied unclean survives =
      applied_by (λ clean on. absurd (unclean clean)) (λ P keeps needs clean on holds. absurd (unclean clean)) (λ needs clean on kept. absurd (unclean clean))
      (λ needs clean. absurd (unclean clean)) (λ clean. absurd (unclean clean)) (λ clean on. absurd (unclean clean)) (λ clean on none. absurd (unclean clean)) (λ needs clean on. absurd (unclean clean))
      (λ clean on. absurd (unclean clean)) (record { closes = survives; shut = λ clean shut db left. absurd (unclean clean); lost = λ clean lost. absurd (unclean clean) }) (λ clean on. absurd (unclean clean))

-- a request that met a fault, which changed nothing
faulted : (s t : Shown) (r : Request) (fault : Fault) → (HasCleanDisk t → IsTrue t.is_open → HeldAreStored (stored s)) → WasOpen s t → (HasCleanDisk t → IsTrue t.is_open → stored t ≡ stored s)
    → HoldsAsWritten t → SurvivesInTurn s t r → StaysSure t → Applied s t r (Err fault)
faulted s t r fault held opened same written survives durable =
    applied_by s t r (Err fault) held (λ P keeps needs clean on holds. subst P (sym (same clean on)) holds)
    (λ needs clean on kept. subst (λ (d : Contents). IsKept (registry_of d)) (sym (same clean on)) kept)
    (λ needs clean. tt) (λ clean. tt) opened (λ clean on none. same clean on) (λ needs clean on. same clean on ∙ faulted_next (stored s) r fault) written survives durable

-- ---- a request that was answered in the transaction

module _ (r : Request) (reply : Reply) (old new : Shown) (it : IsAnsweredInside r reply old new) (clean : HasCleanDisk new) where
  makes_next : NeedsFor r.what (stored old) → stored new ≡ next_stored r (Ok reply) (stored old)
  makes_next needs = it.settled needs clean ∙ settled_next (stored old) r reply (it.answer needs clean)

  keeps_needs : NeedsFor r.what (stored old) → HoldsNeeds (stored old) → HoldsNeeds (stored new)
  keeps_needs needs = holds_next HoldsNeeds needs_kept (stored old) (stored new) r (Ok reply) it.form (it.answer needs clean) (makes_next needs)

  left_in : (db : Trees) → db ≡ new.now.trees → IsRegistryOf db (stored new)
  left_in db is = registry_left new db (stored new) (it.leaves clean).0 is refl

  -- from where it counts as asked to where it counts as answered
  module _ (s t : Shown) (found : stored s ≡ stored old) where
    needs_there : NeedsFor r.what (stored s) → NeedsFor r.what (stored old)
    needs_there = subst (λ (d : Contents). NeedsFor r.what d) found

    settles_there : NeedsFor r.what (stored s) → stored new ≡ settled_by r (stored s)
    settles_there needs = it.settled (needs_there needs) clean ∙ ap (settled_by r) (sym found)

    -- where all are committed
    replied : IsTrue s.is_open → IsTrue t.is_open → stored t ≡ stored new → StaysSure t → Survives s t (λ db. Unit {0}) → Applied s t r (Ok reply)
    replied was_open is_open left sure survives =
        let told : Answered s t r (Ok reply) = λ needs _. it.answer (needs_there needs) clean ∙ ap (λ (d : Contents). answer (registry_of d) r) (sym found) in
        let held : HeldAreStored (stored s) = subst HeldAreStored (sym found) (held_stored old (it.finds clean).1) in
        let step : NeedsFor r.what (stored s) → stored t ≡ next_stored r (Ok reply) (stored s) = λ needs. left ∙ makes_next (needs_there needs) ∙ ap (next_stored r (Ok reply)) (sym found) in
        applied_by s t r (Ok reply) (λ _ _. held)
        (λ P keeps needs end on. holds_next P keeps (stored s) (stored t) r (Ok reply) it.form (told needs end) (step needs))
        (λ needs end on. kept_next (registry_in s) (registry_in t) r (Ok reply) it.form (told needs end) (registry_next (stored s) (stored t) r (Ok reply) held (step needs)))
        told (λ _. (was_open, is_open)) (λ _ _. was_open) (λ _ _ none. left ∙ it.unchanged clean none ∙ sym found) (λ needs _ _. step needs)
        (λ _ _. subst IsAsWritten (sym left) (it.leaves clean).1)
        (record { closes = survives; shut = λ _ shut. absurd (shut_is_not_open shut is_open); lost = λ _ lost. absurd (shut_is_not_open lost.0 is_open) }) sure

    -- where the commit of all is lost
    lost : (fault : Fault) → IsTrue s.is_open ⊎ IsLost s → t.is_open ≡ false → ((db : Trees) → t.may_leave db → s.may_leave db ⊎ (db ≡ new.now.trees)) → (IsLost t → stored t ≡ stored new)
        → Survives s t (λ db. Unit {0}) → Applied s t r (Err fault)
    lost fault was shut may left survives =
        let off = shut_is_not_open shut in
        faulted s t r fault (λ _ on. absurd (off on)) (λ _ on. absurd (off on)) (λ _ on. absurd (off on)) (λ _ on. absurd (off on))
        (record {
          closes = survives;
          shut = λ _ _ db end. elim (may db end) [
            | inl earlier ↦ inl earlier
            | inr is ↦ inr (elim was [
              | inl on ↦ inl (record {
                was_open = on;
                form = (left_in db is).0;
                query = λ asks. (left_in db is).1 ∙ it.unchanged clean (never_enters r asks (Ok reply)) ∙ sym found;
                settled = λ needs. (left_in db is).1 ∙ settles_there needs;
              })
              | inr gone ↦ inr (record { was_lost = gone; form = (left_in db is).0; settled = λ needs. (left_in db is).1 ∙ settles_there needs })
            ])
          ];
          lost = λ _ gone. record {
            was = was;
            made = λ needs. left gone ∙ settles_there needs;
            needs = λ needs holds. subst HoldsNeeds (sym (left gone)) (keeps_needs (needs_there needs) (subst HoldsNeeds found holds));
          };
        })
        (λ _ on. absurd (off on))

-- ---- all that were answered in the transaction

survives_same : (s : Shown) (P : Trees → Type 0) → Survives s s P
survives_same s P = record { clean = omega arith; shield = λ h. h; counts = omega arith; limit = refl; closes = λ _ on. inl on; crash = λ _ db left. inl left }

loosened : (s t : Shown) (P : Trees → Type 0) → Survives s t P → Survives s t (λ db. Unit {0})
loosened s t P = survives_weaker s t P (λ db. Unit {0}) (λ _ _ _. tt)

pub stays_same : {S : Type 0} (store : Ghosts S) (tx : Transaction S) → Stays store tx tx
stays_same store tx = record {
  same_reference = refl;
  committed = λ _. record { was_open = λ on. on; committed = λ _. refl };
  survives = survives_same (state store tx.conn.now) (λ db. ⊥);
}

module _ {S : Type 0} (store : Ghosts S) where
  -- one request more
  pub inside_push : (rs : List Request) (os : List Outcome) (r : Request) (reply : Reply) (first mid last : Held S) → AreAnsweredInside store rs os first mid
      → IsAnsweredInside r reply (state store mid) (state store last) → AreAnsweredInside store (rs ++ r ∷ []) (os ++ Ok reply ∷ []) first last
  inside_push [] [] r reply first mid last same one = (last, subst (λ (h : Held S). IsAnsweredInside r reply (state store h) (state store last)) same one, refl)
  inside_push (q ∷ rs) (Ok told ∷ os) r reply first mid last (next, turn, rest) one = (next, turn, inside_push rs os r reply next mid last rest one)
  inside_push (q ∷ rs) (Err fault ∷ os) r reply first mid last none one = absurd none
  inside_push [] (o ∷ os) r reply first mid last none one = absurd none
  inside_push (q ∷ rs) [] r reply first mid last none one = absurd none

  -- a crash leaves nothing of them before the commit
  inside_survives : (rs : List Request) (os : List Outcome) (first last : Held S) → AreAnsweredInside store rs os first last → Survives (state store first) (state store last) (λ db. ⊥)
  inside_survives [] [] first last same = subst (λ (h : Held S). Survives (state store first) (state store h) (λ db. ⊥)) (sym same) (survives_same (state store first) (λ db. ⊥))
  inside_survives (r ∷ rs) (Ok reply ∷ os) first last (next, turn, rest) =
      survives_then (state store first) (state store next) (state store last) _ _ (λ db. ⊥) (λ _ _ none. none) (λ _ _ none. none) turn.survives (inside_survives rs os next last rest)
  inside_survives (r ∷ rs) (Err fault ∷ os) first last none = absurd none
  inside_survives [] (o ∷ os) first last none = absurd none
  inside_survives (r ∷ rs) [] first last none = absurd none

  clean_first : (rs : List Request) (os : List Outcome) (first last : Held S) → AreAnsweredInside store rs os first last → HasCleanDisk (state store last) → HasCleanDisk (state store first)
  clean_first rs os first last inside clean = omega (arith, (inside_survives rs os first last inside).clean, clean)

  -- the first one found it open
  first_open : (r : Request) (rs : List Request) (os : List Outcome) (first last : Held S) → AreAnsweredInside store (r ∷ rs) os first last → HasCleanDisk (state store last) → IsTrue (state store first).is_open
  first_open r rs (Ok reply ∷ os) first last (next, turn, rest) clean = (turn.finds (clean_first rs os next last rest clean)).0
  first_open r rs (Err fault ∷ os) first last none clean = absurd none
  first_open r rs [] first last none clean = absurd none

  -- the last one left it in form
  last_ready : (r : Request) (rs : List Request) (os : List Outcome) (first last : Held S) → AreAnsweredInside store (r ∷ rs) os first last → HasCleanDisk (state store last)
      → IsReady schema (state store last) × IsAsWritten (stored (state store last))
  last_ready r [] (Ok reply ∷ []) first last (next, turn, same) clean =
      subst (λ (h : Held S). IsReady schema (state store h) × IsAsWritten (stored (state store h))) (sym same) (turn.leaves (subst (λ (h : Held S). HasCleanDisk (state store h)) same clean))
  last_ready r (q ∷ rs) (Ok reply ∷ os) first last (next, turn, rest) clean = last_ready q rs os next last rest clean
  last_ready r [] (Ok reply ∷ o ∷ os) first last (next, turn, none) clean = absurd none
  last_ready r rs (Err fault ∷ os) first last none clean = absurd none
  last_ready r rs [] first last none clean = absurd none

  pub last_is_ready : (rs : List Request) (os : List Outcome) (first last : Held S) → 0 < length rs → AreAnsweredInside store rs os first last → HasCleanDisk (state store last)
      → IsReady schema (state store last) × IsAsWritten (stored (state store last))
  last_is_ready [] os first last some inside clean = absurd (omega (arith, some))
  last_is_ready (r ∷ rs) os first last some inside clean = last_ready r rs os first last inside clean

  -- what is stored at last is what they make, one after another
  needs_stay_each : (rs : List Request) (c d : Contents) → (HoldsNeeds c → HoldsNeeds d) → NeedsForEach rs c → NeedsForEach rs d
  needs_stay_each [] c d stay needs = tt
  needs_stay_each (r ∷ rs) c d stay needs = (needs_stay r.what c d stay needs.0, needs_stay_each rs c d stay needs.1)

  all_made : (rs : List Request) (os : List Outcome) (first last : Held S) → AreAnsweredInside store rs os first last → HasCleanDisk (state store last) → NeedsForEach rs (stored (state store first))
      → stored (state store last) ≡ all_settled rs (stored (state store first))
  all_made [] [] first last same clean needs = ap (λ (h : Held S). stored (state store h)) same
  all_made (r ∷ rs) (Ok reply ∷ os) first last (next, turn, rest) clean needs =
      let were : HasCleanDisk (state store next) = clean_first rs os next last rest clean in
      let stay : HoldsNeeds (stored (state store first)) → HoldsNeeds (stored (state store next)) = keeps_needs r reply (state store first) (state store next) turn were needs.0 in
      all_made rs os next last rest clean (needs_stay_each rs (stored (state store first)) (stored (state store next)) stay needs.1) ∙ ap (all_settled rs) (turn.settled needs.0 were)
  all_made (r ∷ rs) (Err fault ∷ os) first last none clean needs = absurd none
  all_made [] (o ∷ os) first last none clean needs = absurd none
  all_made (r ∷ rs) [] first last none clean needs = absurd none

  all_replies : (rs : List Request) (os : List Outcome) (first last : Held S) → AreAnsweredInside store rs os first last → AreReplies os
  all_replies [] [] first last same = tt
  all_replies (r ∷ rs) (Ok reply ∷ os) first last (next, turn, rest) = all_replies rs os next last rest
  all_replies (r ∷ rs) (Err fault ∷ os) first last none = absurd none
  all_replies [] (o ∷ os) first last none = absurd none
  all_replies (r ∷ rs) [] first last none = tt

  -- ---- where each is asked

  abbrev committed_at : Held S → Point S
  committed_at h = record { conn = h; counts = as_committed }

  abbrev lost_at : Held S → Held S → Point S
  lost_at end h = record { conn = h; counts = as_lost end }

  abbrev begun : Held S → Held S
  begun old = record old { in_transaction = true }

  -- a point that shows what this connection shows
  record IsAt (p : Point S) (h : Held S) : Type 1 where
    found : stored (shown_at store p) ≡ stored (state store h)
    on : IsTrue (state store h).is_open → IsTrue (shown_at store p).is_open
    loosely : (t : Shown) → Survives (state store h) t (λ db. Unit {0}) → Survives (shown_at store p) t (λ db. Unit {0})

  rest_is_at : (old : Held S) → IsAt (at_rest old) (begun old)
  rest_is_at old = record { found = refl; on = λ on. on; loosely = λ t ahead. survives_begin store old t _ ahead }

  committed_is_at : (h : Held S) → IsAt (committed_at h) h
  committed_is_at h = record {
    found = refl;
    on = λ on. on;
    loosely = λ t ahead. record { clean = ahead.clean; shield = ahead.shield; counts = ahead.counts; limit = ahead.limit; closes = ahead.closes; crash = λ _ _ _. inr tt };
  }

  -- as if it was committed there
  to_committed : (s : Shown) (h : Held S) → Survives s (state store h) (λ db. ⊥) → Survives s (shown_at store (committed_at h)) (λ db. Unit {0})
  to_committed s h ahead = record { clean = ahead.clean; shield = ahead.shield; counts = ahead.counts; limit = ahead.limit; closes = ahead.closes; crash = λ _ _ _. inr tt }

  -- ---- all were committed

  module _ (new : Held S) (clean : HasCleanDisk (state store new)) (on : IsTrue (state store new).is_open) (sure : StaysSure (state store new)) where
    committed_turns : (r : Request) (rs : List Request) (os : List Outcome) (p : Point S) (first last : Held S) → IsAt p first → AreAnsweredInside store (r ∷ rs) os first last
        → HasCleanDisk (state store last) → stored (state store new) ≡ stored (state store last) → Survives (state store last) (state store new) (λ db. Unit {0}) → AskedInTurn (shown_at store) (r ∷ rs) os p (at_rest new)
    committed_turns r [] (Ok reply ∷ []) p first last is_at (next, turn, same) were left ahead =
        let here : HasCleanDisk (state store next) = subst (λ (h : Held S). HasCleanDisk (state store h)) same were in (
          at_rest new,
          replied r reply (state store first) (state store next) turn here (shown_at store p) (state store new) is_at.found (is_at.on (turn.finds here).0) on
              (left ∙ ap (λ (h : Held S). stored (state store h)) same) sure
              (is_at.loosely (state store new) (survives_then (state store first) (state store next) (state store new) _ _ (λ db. Unit {0}) (λ _ _ _. tt) (λ _ _ _. tt) turn.survives
              (subst (λ (h : Held S). Survives (state store h) (state store new) (λ db. Unit {0})) same ahead))),
          refl,
        )
    committed_turns r (q ∷ rs) (Ok reply ∷ os) p first last is_at (next, turn, rest) were left ahead =
        let here : HasCleanDisk (state store next) = clean_first (q ∷ rs) os next last rest were in (
          committed_at next,
          replied r reply (state store first) (state store next) turn here (shown_at store p) (shown_at store (committed_at next)) is_at.found (is_at.on (turn.finds here).0)
              (first_open q rs os next last rest were) refl (λ _ _ db is. left_in r reply (state store first) (state store next) turn here db is)
              (is_at.loosely (shown_at store (committed_at next)) (to_committed (state store first) next turn.survives)),
          committed_turns q rs os (committed_at next) next last (committed_is_at next) rest were left ahead,
        )
    committed_turns r [] (Ok reply ∷ o ∷ os) p first last is_at (next, turn, none) were left ahead = absurd none
    committed_turns r rs (Err fault ∷ os) p first last is_at none were left ahead = absurd none
    committed_turns r rs [] p first last is_at none were left ahead = absurd none

  -- ---- the commit was lost

  module _ (new : Held S) where
    -- what is shut by the same faults
    record IsEnd (t : Shown) : Type 0 where
      clean : t.is_clean ≡ (state store new).is_clean
      faults : t.faults ≡ (state store new).faults
      shut : t.is_open ≡ false

    record IsLostAt (p : Point S) (h : Held S) : Type 1 where
      found : stored (shown_at store p) ≡ stored (state store h)
      was : IsTrue (state store h).is_open → IsTrue (shown_at store p).is_open ⊎ IsLost (shown_at store p)
      left : (db : Trees) → (state store h).may_leave db → (shown_at store p).may_leave db
      ends : (t : Shown) → IsEnd t → ((state store h).IsShielded → t.IsShielded) → t.step_limit ≡ (state store h).step_limit → Survives (shown_at store p) t (λ db. Unit {0})

    lost_is_at : (h : Held S) → IsLostAt (lost_at new h) h
    lost_is_at h = record {
      found = refl;
      was = λ _. inr (refl, refl);
      left = λ db may. inl may;
      ends = λ t end shield limit. record {
        clean = subst (λ b. doubt (state store new).is_clean ≤ doubt b) (sym end.clean) (omega arith);
        shield = shield;
        counts = omega (arith, end.faults);
        limit = limit;
        closes = λ _ on. absurd (shut_is_not_open refl on);
        crash = λ _ _ _. inr tt;
      };
    }

    module _ (clean : HasCleanDisk (state store new)) (shut : (state store new).is_open ≡ false) (idle : (state store new).in_transaction ≡ false) where
      rest_is_lost_at : (old : Held S) → Survives (state store old) (state store new) (λ db. Unit {0}) → IsLostAt (at_rest old) (begun old)
      rest_is_lost_at old whole = record {
        found = refl;
        was = λ on. inl on;
        left = λ db may. may;
        ends = λ t end shield limit. record {
          clean = subst (λ b. doubt (state store old).is_clean ≤ doubt b) (sym end.clean) whole.clean;
          shield = shield;
          counts = omega (arith, end.faults, whole.counts);
          limit = limit;
          closes = λ _ on. elim (whole.closes clean on) [ inl still ↦ absurd (shut_is_not_open shut still) | inr more ↦ inr (omega (arith, end.faults, more)) ];
          crash = λ _ _ _. inr tt;
        };
      }

      lost_turns : (fault : Fault) (r : Request) (rs : List Request) (ps os : List Outcome) (p : Point S) (first last : Held S) → IsLostAt p first → AreAnsweredInside store (r ∷ rs) ps first last
          → HasCleanDisk (state store last) → Survives (state store last) (state store new) (λ db. db ≡ (state store last).now.trees) → length os ≡ length (r ∷ rs) → MeetFault fault os
          → AskedInTurn (shown_at store) (r ∷ rs) os p (at_rest new)
      lost_turns fault r [] (Ok reply ∷ []) (o ∷ []) p first last is_at (next, turn, same) were ahead many met =
          let here : HasCleanDisk (state store next) = subst (λ (h : Held S). HasCleanDisk (state store h)) same were in
          let from : Survives (state store next) (state store new) (λ db. db ≡ (state store next).now.trees) =
          subst (λ (h : Held S). Survives (state store h) (state store new) (λ db. db ≡ (state store h).now.trees)) same ahead in (
            at_rest new,
            subst (λ (e : Outcome). Applied (shown_at store p) (state store new) r e) (sym met.0)
                (lost r reply (state store first) (state store next) turn here (shown_at store p) (state store new) is_at.found fault (is_at.was (turn.finds here).0) shut
                (λ db may. elim (from.crash clean db may) [
                  | inl earlier ↦ elim (turn.survives.crash here db earlier) [ inl before ↦ inl (is_at.left db before) | inr none ↦ absurd none ]
                  | inr is ↦ inr is
                ])
                (λ gone. absurd (shut_is_not_open idle gone.1))
                (is_at.ends (state store new) (record { clean = refl; faults = refl; shut = shut }) (λ shielded. from.shield (turn.survives.shield shielded)) (from.limit ∙ turn.survives.limit))),
            refl,
          )
      lost_turns fault r (q ∷ rs) (Ok reply ∷ ps) (o ∷ os) p first last is_at (next, turn, rest) were ahead many met =
          let here : HasCleanDisk (state store next) = clean_first (q ∷ rs) ps next last rest were in (
            lost_at new next,
            subst (λ (e : Outcome). Applied (shown_at store p) (shown_at store (lost_at new next)) r e) (sym met.0)
                (lost r reply (state store first) (state store next) turn here (shown_at store p) (shown_at store (lost_at new next)) is_at.found fault (is_at.was (turn.finds here).0) refl
                (λ db may. elim may [
                  | inl earlier ↦ elim (turn.survives.crash here db earlier) [ inl before ↦ inl (is_at.left db before) | inr none ↦ absurd none ]
                  | inr is ↦ inr is
                ])
                (λ gone. refl)
                (is_at.ends (shown_at store (lost_at new next)) (record { clean = refl; faults = refl; shut = refl }) turn.survives.shield turn.survives.limit)),
            lost_turns fault q rs ps os (lost_at new next) next last (lost_is_at next) rest were ahead (omega (arith, many)) met.1,
          )
      lost_turns fault r [] (Ok reply ∷ []) (o ∷ p ∷ os) q first last is_at inside were ahead many met = absurd (omega (arith, many))
      lost_turns fault r [] (Ok reply ∷ a ∷ ps) os p first last is_at (next, turn, none) were ahead many met = absurd none
      lost_turns fault r rs (Ok reply ∷ ps) [] p first last is_at inside were ahead many met = absurd (omega (arith, many))
      lost_turns fault r rs (Err other ∷ ps) os p first last is_at none were ahead many met = absurd none
      lost_turns fault r rs [] os p first last is_at none were ahead many met = absurd none

  -- ---- a fault, again and again

  -- nothing is promised where the disk didn't return what was written to it
  module _ (new : Held S) (unclean : HasCleanDisk (state store new) → ⊥) where
    unclean_again : (rs : List Request) (os : List Outcome) → length os ≡ length rs → AskedInTurn (shown_at store) rs os (at_rest new) (at_rest new)
    unclean_again [] [] many = refl
    unclean_again (r ∷ rs) (o ∷ os) many =
        (at_rest new, unclean_applied (state store new) (state store new) r o unclean (survives_same (state store new) (λ db. Unit {0})), unclean_again rs os (omega (arith, many)))
    unclean_again [] (o ∷ os) many = absurd (omega (arith, many))
    unclean_again (r ∷ rs) [] many = absurd (omega (arith, many))

    unclean_turns : (old : Held S) (r : Request) (rs : List Request) (os : List Outcome) → Survives (state store old) (state store new) (λ db. Unit {0}) → length os ≡ length (r ∷ rs)
        → AskedInTurn (shown_at store) (r ∷ rs) os (at_rest old) (at_rest new)
    unclean_turns old r rs (o ∷ os) whole many = (at_rest new, unclean_applied (state store old) (state store new) r o unclean whole, unclean_again rs os (omega (arith, many)))
    unclean_turns old r rs [] whole many = absurd (omega (arith, many))

  -- a fault that changed nothing
  module _ (new : Held S) (rests : Rests (state store new)) (sure : StaysSure (state store new)) (fault : Fault) where
    fault_stays : (r : Request) → Applied (state store new) (state store new) r (Err fault)
    fault_stays r = faulted (state store new) (state store new) r fault (λ clean on. held_stored (state store new) (rests.in_form clean on)) (λ _ on. on) (λ _ _. refl) rests.written
        (record { closes = survives_same (state store new) (λ db. Unit {0}); shut = λ _ _ db may. inl may; lost = λ _ gone. absurd (shut_is_not_open rests.idle gone.1) }) sure

    fault_again : (rs : List Request) (os : List Outcome) → length os ≡ length rs → MeetFault fault os → AskedInTurn (shown_at store) rs os (at_rest new) (at_rest new)
    fault_again [] [] many met = refl
    fault_again (r ∷ rs) (o ∷ os) many met =
        (at_rest new, subst (λ (e : Outcome). Applied (state store new) (state store new) r e) (sym met.0) (fault_stays r), fault_again rs os (omega (arith, many)) met.1)
    fault_again [] (o ∷ os) many met = absurd (omega (arith, many))
    fault_again (r ∷ rs) [] many met = absurd (omega (arith, many))

    fault_turns : (old : Held S) (r : Request) (rs : List Request) (os : List Outcome) → Applied (state store old) (state store new) r (Err fault) → length os ≡ length (r ∷ rs) → MeetFault fault os
        → AskedInTurn (shown_at store) (r ∷ rs) os (at_rest old) (at_rest new)
    fault_turns old r rs (o ∷ os) first many met = (at_rest new, subst (λ (e : Outcome). Applied (state store old) (state store new) r e) (sym met.0) first, fault_again rs os (omega (arith, many)) met.1)
    fault_turns old r rs [] first many met = absurd (omega (arith, many))

-- ---- all of this

module _ {S : Type 0} (store : Ghosts S) (old mid new : Held S) where
  -- what a crash leaves of a commit of all that was made
  module _ (r : Request) (rs : List Request) (os : List Outcome) (inside : AreAnsweredInside store (r ∷ rs) os (begun store old) mid)
      (ahead : Survives (state store mid) (state store new) (λ db. db ≡ (state store mid).now.trees)) where
    were : HasCleanDisk (state store new) → HasCleanDisk (state store mid)
    were clean = omega (arith, ahead.clean, clean)

    was_open : HasCleanDisk (state store new) → IsTrue (state store old).is_open
    was_open clean = first_open store r rs os (begun store old) mid inside (were clean)

    survive_together : Survives (state store old) (state store new) (LeavesTogether (r ∷ rs) (state store old))
    survive_together =
        survives_then (state store old) (state store mid) (state store new) _ _ (LeavesTogether (r ∷ rs) (state store old)) (λ _ _ none. absurd none)
        (λ clean db is.
        let whole : IsRegistryOf db (stored (state store mid)) = registry_left (state store mid) db (stored (state store mid)) (last_ready store r rs os (begun store old) mid inside (were clean)).0 is refl in
        record {
          was_open = was_open clean;
          form = whole.0;
          settled = λ needs. whole.1 ∙ all_made store (r ∷ rs) os (begun store old) mid inside (were clean) needs;
        })
        (survives_begin store old (state store mid) _ (inside_survives store (r ∷ rs) os (begun store old) mid inside)) ahead

    whole_survives : Survives (state store old) (state store new) (λ db. Unit {0})
    whole_survives = loosened (state store old) (state store new) _ survive_together

  answered_some : (r : Request) (rs : List Request) (os : List Outcome) → AreAnsweredInside store (r ∷ rs) os (begun store old) mid
      → Survives (state store mid) (state store new) (λ db. db ≡ (state store mid).now.trees) → (HasCleanDisk (state store new) → IsTrue (state store new).is_open × (stored (state store new) ≡ stored (state store mid)))
      → StaysSure (state store new) → length os ≡ length (r ∷ rs) → AnsweredTogether store old new (r ∷ rs) os
  answered_some r rs os inside ahead shows sure many = record {
    one = inl (all_replies store (r ∷ rs) os (begun store old) mid inside);
    in_turn = elim (is_clean (state store new).is_clean) [
      | inl clean ↦ committed_turns store new clean (shows clean).0 sure r rs os (at_rest old) (begun store old) mid (rest_is_at store old) inside (were r rs os inside ahead clean) (shows clean).1
          (loosened (state store mid) (state store new) _ ahead)
      | inr unclean ↦ unclean_turns store new unclean old r rs os (whole_survives r rs os inside ahead) many
    ];
    survives = survive_together r rs os inside ahead;
  }

  -- all were answered
  pub answered_together : (rs : List Request) (os : List Outcome) → 0 < length rs → length os ≡ length rs → AreAnsweredInside store rs os (begun store old) mid
      → Survives (state store mid) (state store new) (λ db. db ≡ (state store mid).now.trees) → (HasCleanDisk (state store new) → IsTrue (state store new).is_open × (stored (state store new) ≡ stored (state store mid)))
      → StaysSure (state store new) → AnsweredTogether store old new rs os
  answered_together [] os some many inside ahead shows sure = absurd (omega (arith, some))
  answered_together (r ∷ rs) os some many inside ahead shows sure = answered_some r rs os inside ahead shows sure many

  module _ (before : Rests (state store old)) (rests : Rests (state store new)) (sure : StaysSure (state store new)) (opened : WasOpen (state store old) (state store new))
      (same : HasCleanDisk (state store new) → IsTrue (state store new).is_open → stored (state store new) ≡ stored (state store old)) (fault : Fault) where
    -- the first one met the fault
    met_first : (r : Request) → Survives (state store old) (state store new) (λ db. Unit {0})
        → (HasCleanDisk (state store new) → (state store new).is_open ≡ false → (db : Trees) → (state store new).may_leave db → (state store old).may_leave db) → Applied (state store old) (state store new) r (Err fault)
    met_first r whole shut =
        faulted (state store old) (state store new) r fault (λ clean on. held_stored (state store old) (before.in_form (omega (arith, whole.clean, clean)) (opened clean on))) opened same rests.written
        (record { closes = whole; shut = λ clean off db may. inl (shut clean off db may); lost = λ _ gone. absurd (shut_is_not_open rests.idle gone.1) }) sure

    failed_some : (r : Request) (rs : List Request) (ps os : List Outcome) → AreAnsweredInside store (r ∷ rs) ps (begun store old) mid
        → Survives (state store mid) (state store new) (λ db. db ≡ (state store mid).now.trees) → length os ≡ length (r ∷ rs) → MeetFault fault os → AnsweredTogether store old new (r ∷ rs) os
    failed_some r rs ps os inside ahead many met = record {
      one = inr (fault, met);
      in_turn = elim (is_clean (state store new).is_clean) [
        | inl clean ↦ elim (cases_Bool (state store new).is_open) [
          | inl on ↦ fault_turns store new rests sure fault old r rs os (met_first r (whole_survives r rs ps inside ahead) (λ _ off. absurd (shut_is_not_open off on))) many met
          | inr off ↦ lost_turns store new clean off rests.idle fault r rs ps os (at_rest old) (begun store old) mid
              (rest_is_lost_at store new clean off rests.idle old (whole_survives r rs ps inside ahead)) inside (were r rs ps inside ahead clean) ahead many met
        ]
        | inr unclean ↦ unclean_turns store new unclean old r rs os (whole_survives r rs ps inside ahead) many
      ];
      survives = survive_together r rs ps inside ahead;
    }

    -- they couldn't be committed
    pub failed_together : (rs : List Request) (ps : List Outcome) → 0 < length rs → AreAnsweredInside store rs ps (begun store old) mid
        → Survives (state store mid) (state store new) (λ db. db ≡ (state store mid).now.trees) → FailTogether store old new rs fault
    failed_together [] ps some inside ahead os many met = absurd (omega (arith, some))
    failed_together (r ∷ rs) ps some inside ahead os many met = failed_some r rs ps os inside ahead many met

    broken_some : (r : Request) (rs : List Request) (os : List Outcome) → Survives (state store old) (state store new) (λ db. ⊥) → length os ≡ length (r ∷ rs) → MeetFault fault os
        → AnsweredTogether store old new (r ∷ rs) os
    broken_some r rs os whole many met = record {
      one = inr (fault, met);
      in_turn = fault_turns store new rests sure fault old r rs os
          (met_first r (loosened (state store old) (state store new) _ whole) (λ clean _ db may. elim (whole.crash clean db may) [ inl earlier ↦ earlier | inr none ↦ absurd none ])) many met;
      survives = survives_weaker (state store old) (state store new) (λ db. ⊥) (LeavesTogether (r ∷ rs) (state store old)) (λ _ _ none. absurd none) whole;
    }

    -- one of them met the fault before the commit
    pub broken_together : (rs : List Request) → 0 < length rs → Survives (state store old) (state store new) (λ db. ⊥) → FailTogether store old new rs fault
    broken_together [] some whole os many met = absurd (omega (arith, some))
    broken_together (r ∷ rs) some whole os many met = broken_some r rs os whole many met

-- ---- after the commit

module _ {S : Type 0} (store : Ghosts S) (settled : (h : Held S) (db : Trees) → IsTrue (state store h).is_open → (state store h).may_leave db → db ≡ (state store h).committed.trees)
    (old mid new : Held S) (was is_now : Caches) (rs : List Request) (os : List Outcome) where
  pub record LeavesAfter {A : Type 0} (result : Result A Fault) : Type 0 where
    pub rests : Rests (state store new)
    pub right : HasAnswers (state store new) is_now
    pub ok : OnOk result (AnsweredTogether store old new rs os)
    pub err : IfErr result (FailTogether store old new rs)

  sure_of : Rests (state store new) → StaysSure (state store new)
  sure_of rests clean on = rests_sure store new (λ db. settled new db on) rests clean on

  module _ (some : 0 < length rs) (many : length os ≡ length rs) (inside : AreAnsweredInside store rs os (begun store old) mid) (before : Rests (state store old)) (right : HasAnswers (state store old) was)
      (no_more : KeepNoMore was is_now) (right_still : HasAnswers (state store mid) is_now) (goes_on : HasCleanDisk (state store mid) → IsTrue (state store mid).in_transaction)
      (keeps : HasCleanDisk (state store mid) → KeepsCommit (state store old) (state store mid)) (ended : (state store new).in_transaction ≡ false)
      (ahead : Survives (state store mid) (state store new) (λ db. db ≡ (state store mid).now.trees)) where
    clean_mid : HasCleanDisk (state store new) → HasCleanDisk (state store mid)
    clean_mid clean = omega (arith, ahead.clean, clean)

    clean_old : HasCleanDisk (state store new) → HasCleanDisk (state store old)
    clean_old clean = clean_first store rs os (begun store old) mid inside (clean_mid clean)

    after_commit : (HasCleanDisk (state store new) → IsCommitted (state store mid) (state store new)) → Rests (state store new) × HasAnswers (state store new) is_now × AnsweredTogether store old new rs os
    after_commit commits =
        let same : HasCleanDisk (state store new) → stored (state store new) ≡ stored (state store mid) = λ clean. ap (λ (d : Database). contents d.trees) (commits clean).1.now_is in
        let ready : HasCleanDisk (state store new) → IsReady schema (state store mid) × IsAsWritten (stored (state store mid)) = λ clean. last_is_ready store rs os (begun store old) mid some inside (clean_mid clean) in
        let rests : Rests (state store new) = commit_rests (stored (state store mid)) (state store mid) (state store new) ended
        (λ clean. record { holds = refl; ready = (ready clean).0; mode = goes_on (clean_mid clean) }) (λ clean. (ready clean).1) (λ clean. (commits clean).1) in (
          rests,
          (λ clean on. subst (λ (d : Contents). AreAnswers d is_now) (sym (same clean)) (right_still (clean_mid clean) (commits clean).1.was_open)),
          answered_together store old mid new rs os some many inside ahead (λ clean. ((commits clean).1.is_open, same clean)) (sure_of rests),
        )

    after_failure : (fault : Fault) → (HasCleanDisk (state store new) → CommitFails (state store mid) (state store new) fault) → Rests (state store new) × HasAnswers (state store new) is_now × FailTogether store old new rs fault
    after_failure fault fails =
        let back : HasCleanDisk (state store new) → IsRolledBack (state store mid) (state store new) = λ clean. failed_undone (state store mid) (state store new) _ (goes_on (clean_mid clean)) (fails clean).1 in
        let kept : HasCleanDisk (state store new) → KeepsCommit (state store old) (state store mid) = λ clean. keeps (clean_mid clean) in
        let rests : Rests (state store new) = undone_rests (state store old) (state store mid) (state store new) before ended (λ clean. (clean_old clean, kept clean, back clean)) in
        let opened : WasOpen (state store old) (state store new) = λ clean on. undone_open (state store old) (state store mid) (state store new) (kept clean) (back clean) on in
        let same : HasCleanDisk (state store new) → IsTrue (state store new).is_open → stored (state store new) ≡ stored (state store old) =
        λ clean on. undone_stored (state store old) (state store mid) (state store new) before (clean_old clean) (kept clean) (back clean) on in (
          rests,
          right_unchanged (state store old) (state store new) was is_now (λ clean on. (clean_old clean, opened clean on, same clean on)) no_more right,
          failed_together store old mid new before rests (sure_of rests) opened same fault rs os some inside ahead,
        )

    pub leaves_after : {A : Type 0} (result : Result A Fault) → (HasCleanDisk (state store new) → OnOk result (IsCommitted (state store mid) (state store new)))
        → (HasCleanDisk (state store new) → IfErr result (CommitFails (state store mid) (state store new))) → LeavesAfter result
    leaves_after (Ok done) commits fails = let it = after_commit commits in record { rests = it.0; right = it.1; ok = it.2; err = tt }
    leaves_after (Err fault) commits fails = let it = after_failure fault fails in record { rests = it.0; right = it.1; ok = tt; err = it.2 }

  -- they were broken off
  pub leaves_broken : 0 < length rs → Rests (state store old) → LeavesAll (state store old) (state store new) → Survives (state store old) (state store new) (λ db. ⊥) → (fault : Fault) → FailTogether store old new rs fault
  leaves_broken some before left whole fault = broken_together store old mid new before left.rests (sure_of left.rests) left.opened left.same fault rs some whole
