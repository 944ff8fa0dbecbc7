-- Runs, one request at a time, and what they leave of all that is stored.
use Rattle.registry_desk.proofs.Words.{◌≡◌, ◌⊎◌, inl, inr, ◌∙◌, arith, Bool, true, false, List, [], ◌∷◌, ◌++◌, Ok, Err, OnOk, IsTrue, true≢false, length-append, refl, sym, ap, subst, Shown}
use Rattle.registry_desk.proofs.Words.{HasCleanDisk, Survives, survives_then, survives_weaker, Trees, State, Action, Withdraw, WithdrawAll, Request, Contents, registry_in, stored, Fault, HoldsArchives, HoldsNeeds, HoldsReferences, on_answer, NeedsFor, Applied, IsLost, IsOpenOrLost, LeavesOne, LosesInTurn, MadeAlone, MadeInRow, SurvivesInTurn, SurvivesOne, SurvivesRun}
use Rattle.registry_desk.proofs.Words.{HasHeadline, HasRun, HidesUnreadRun, HoldsFirst, Keeps, KeepsRun, NeedsForEach, RanTo, WritesHistory, IsRegistryOf, Serves, end_stored, left_by, next_stored, settled_by, Outcome}
use Rattle.registry_desk.proofs.Words.{HaveOutcomes, IsAnswer, next, headline_from, ran_none, ran_push, run_says}
use Rattle.std.proofs.lemmas.Bool.{cases_Bool}
use Rattle.registry_desk.proofs.HiddenFacts.{hide_along}
use Rattle.registry_desk.proofs.SettlingFacts.{faulted_next}

-- ---- what decides requests

-- needs that are those of live versions are so for each request
pub needs_for : (what : Action) (c : Contents) → HoldsNeeds c → NeedsFor what c
needs_for (Withdraw p v) c holds = holds
needs_for (WithdrawAll p) c holds = holds
needs_for _ c holds = tt

pub needs_for_each : (rs : List Request) (c : Contents) → HoldsNeeds c → NeedsForEach rs c
needs_for_each [] c holds = tt
needs_for_each (r ∷ rs) c holds = (needs_for r.what c holds, needs_for_each rs c holds)

-- where a withdrawal's needs stay, those for the request do
pub needs_stay : (what : Action) (c d : Contents) → (HoldsNeeds c → HoldsNeeds d) → NeedsFor what c → NeedsFor what d
needs_stay (Withdraw p v) c d stay needs = stay needs
needs_stay (WithdrawAll p) c d stay needs = stay needs
needs_stay _ c d stay needs = tt

-- the first requests of a run, and the one after them
needs_split : (rs : List Request) (r : Request) (c : Contents) → NeedsForEach (rs ++ r ∷ []) c → NeedsForEach rs c × NeedsFor r.what c
needs_split [] r c needs = (tt, needs.0)
needs_split (q ∷ rs) r c needs = let rest = needs_split rs r c needs.1 in ((needs.0, rest.0), rest.1)

-- ---- one request more

end_stored_push : (S : State) (c : Contents) (rs : List Request) (os : List Outcome) (r : Request) (o : Outcome) → HaveOutcomes S rs os
    → end_stored (rs ++ r ∷ []) (os ++ o ∷ []) c ≡ next_stored r o (end_stored rs os c)
end_stored_push S c [] [] r o before = refl
end_stored_push S c (q ∷ rs) (p ∷ os) r o before = end_stored_push (next S q p) (next_stored q p c) rs os r o before.1
end_stored_push S c [] (p ∷ os) r o before = absurd before
end_stored_push S c (q ∷ rs) [] r o before = absurd before

module _ (Made : List Request → Contents → Trees → Type 0) where
  -- what a crash leaves after one outcome more, where no less is made and left of more requests
  left_by_push : (S : State) (P Q : Trees → Type 0) (rs : List Request) (os : List Outcome) (r : Request) (o : Outcome) (c : Contents) (db : Trees) → HaveOutcomes S rs os
      → ((qs : List Request) (d : Contents) (e : Trees) → Made qs d e → Made (qs ++ r ∷ []) d e) → ((e : Trees) → P e → Q e)
      → left_by Made (left_by Made P rs os c) (r ∷ []) (o ∷ []) (end_stored rs os c) db → left_by Made Q (rs ++ r ∷ []) (os ++ o ∷ []) c db
  left_by_push S P Q [] [] r (Ok reply) c db before grows more left = left
  left_by_push S P Q [] [] r (Err fault) c db before grows more left = elim left [
    | inl was ↦ inl (more db was)
    | inr made ↦ inr made
  ]
  left_by_push S P Q (q ∷ rs) (Ok reply ∷ os) r o c db before grows more left =
      let then : Trees → Type 0 = λ e. IsRegistryOf e (next_stored q (Ok reply) c) in
      left_by_push (next S q (Ok reply)) then then rs os r o (next_stored q (Ok reply) c) db before.1 grows (λ e is. is) left
  left_by_push S P Q (q ∷ rs) (Err fault ∷ os) r o c db before grows more left =
      left_by_push (next S q (Err fault)) (λ e. P e ⊎ Made (q ∷ rs) c e) (λ e. Q e ⊎ Made (q ∷ (rs ++ r ∷ [])) c e) rs os r o c db before.1 grows
      (λ e either. elim either [
        | inl was ↦ inl (more e was)
        | inr made ↦ inr (grows (q ∷ rs) c e made)
      ])
      (subst (λ d. left_by Made (left_by Made (λ e. P e ⊎ Made (q ∷ rs) c e) rs os c) (r ∷ []) (o ∷ []) (end_stored rs os d) db) (sym (faulted_next c q fault)) left)
  left_by_push S P Q [] (p ∷ os) r o c db before grows more left = absurd before
  left_by_push S P Q (q ∷ rs) [] r o c db before grows more left = absurd before

  -- what a crash leaves after one outcome
  left_by_one : (may : Trees → Type 0) (r : Request) (o : Outcome) (c : Contents) (db : Trees) → may db ⊎ Made (r ∷ []) c db → OnOk o (IsRegistryOf db (next_stored r o c))
      → left_by Made may (r ∷ []) (o ∷ []) c db
  left_by_one may r (Ok reply) c db earlier sure = sure
  left_by_one may r (Err fault) c db earlier sure = earlier

alone_grows : (Opened : Type 0) (r : Request) (qs : List Request) (c : Contents) (db : Trees) → MadeAlone Opened qs c db → MadeAlone Opened (qs ++ r ∷ []) c db
alone_grows Opened r [] c db made = absurd made
alone_grows Opened r (q ∷ qs) c db made = made

-- ---- what a crash leaves of requests that may have shared a commit

first_grows : (r : Request) (qs : List Request) (c : Contents) (db : Trees) → HoldsFirst qs c db → HoldsFirst (qs ++ r ∷ []) c db
first_grows r [] c db is = inl is
first_grows r (q ∷ qs) c db (inl is) = inl is
first_grows r (q ∷ qs) c db (inr more) = inr (first_grows r qs (settled_by q c) db more)

row_grows : (Opened : Type 0) (r : Request) (qs : List Request) (c : Contents) (db : Trees) → MadeInRow Opened qs c db → MadeInRow Opened (qs ++ r ∷ []) c db
row_grows Opened r qs c db made = (made.0, first_grows r qs c db made.1)

-- What a registry may show whose commit was lost, and what requests in a row made that end here: `could`
-- says it of a row that was begun before
module _ (Opened : Type 0) where
  abbrev row_shows : (Contents → Type 0) → List Request → List Outcome → Contents → Contents → Type 0
  row_shows could (r ∷ rs) (Ok reply ∷ os) c = row_shows (λ d. ⊥) rs os (next_stored r (Ok reply) c)
  row_shows could (r ∷ rs) (Err fault ∷ os) c = row_shows (λ d. (Opened × (d ≡ settled_by r c)) ⊎ ((e : Contents) × could e × (d ≡ settled_by r e))) rs os c
  row_shows could _ _ c = could

  -- one more that met a fault begins a row, or goes on with one
  row_push : (S : State) (could : Contents → Type 0) (rs : List Request) (os : List Outcome) (r : Request) (fault : Fault) (c d : Contents) → HaveOutcomes S rs os
      → (Opened × (d ≡ settled_by r (end_stored rs os c))) ⊎ ((e : Contents) × row_shows could rs os c e × (d ≡ settled_by r e)) → row_shows could (rs ++ r ∷ []) (os ++ Err fault ∷ []) c d
  row_push S could [] [] r fault c d before made = made
  row_push S could (q ∷ rs) (Ok reply ∷ os) r fault c d before made = row_push (next S q (Ok reply)) (λ e. ⊥) rs os r fault (next_stored q (Ok reply) c) d before.1 made
  row_push S could (q ∷ rs) (Err met ∷ os) r fault c d before made =
      let goes_on : Contents → Type 0 = λ e. (Opened × (e ≡ settled_by q c)) ⊎ ((b : Contents) × could b × (e ≡ settled_by q b)) in
      row_push (next S q (Err met)) goes_on rs os r fault c d before.1
      (subst (λ b. (Opened × (d ≡ settled_by r (end_stored rs os b))) ⊎ ((e : Contents) × row_shows goes_on rs os c e × (d ≡ settled_by r e))) (sym (faulted_next c q met)) made)
  row_push S could [] (p ∷ os) r fault c d before made = absurd before
  row_push S could (q ∷ rs) [] r fault c d before made = absurd before

  -- what one more makes of that may be left
  row_left : (S : State) (may : Trees → Type 0) (could : Contents → Type 0) (rs : List Request) (os : List Outcome) (r : Request) (fault : Fault) (c e : Contents) (db : Trees) → HaveOutcomes S rs os
      → ((d : Contents) → could d → HoldsFirst (rs ++ r ∷ []) d db → may db) → row_shows could rs os c e → IsRegistryOf db (settled_by r e)
      → left_by (MadeInRow Opened) may (rs ++ r ∷ []) (os ++ Err fault ∷ []) c db
  row_left S may could [] [] r fault c e db before begun shows is = inl (begun e shows (inr is))
  row_left S may could (q ∷ rs) (Ok reply ∷ os) r fault c e db before begun shows is =
      let later = next_stored q (Ok reply) c in
      row_left (next S q (Ok reply)) (λ d. IsRegistryOf d later) (λ d. ⊥) rs os r fault later e db before.1 (λ d none. absurd none) shows is
  row_left S may could (q ∷ rs) (Err met ∷ os) r fault c e db before begun shows is =
      let qs = rs ++ r ∷ [] in
      row_left (next S q (Err met)) (λ d. may d ⊎ MadeInRow Opened (q ∷ qs) c d) (λ d. (Opened × (d ≡ settled_by q c)) ⊎ ((b : Contents) × could b × (d ≡ settled_by q b))) rs os r fault c e db before.1
      (λ d either holds. elim either [
        | inl here ↦ inr (here.0, inr (subst (λ (b : Contents). HoldsFirst qs b db) here.1 holds))
        | inr on ↦ inl (begun on.0 on.1 (inr (subst (λ (b : Contents). HoldsFirst qs b db) on.2 holds)))
      ])
      shows is
  row_left S may could [] (p ∷ os) r fault c e db before begun shows is = absurd before
  row_left S may could (q ∷ rs) [] r fault c e db before begun shows is = absurd before

-- ---- open or shut

-- open or shut, after one outcome
served_one : (was is : Bool) (o : Outcome) → OnOk o (IsTrue was × IsTrue is) → (IsTrue is → IsTrue was) → Serves was (o ∷ []) is
served_one true is (Ok reply) served opened = served.1
served_one false is (Ok reply) served opened = absurd (true≢false (sym served.0))
served_one true true (Err fault) served opened = inl refl
served_one true false (Err fault) served opened = inr refl
served_one false true (Err fault) served opened = absurd (true≢false (sym (opened refl)))
served_one false false (Err fault) served opened = refl

-- and after one more
served_push : (was mid is : Bool) (os : List Outcome) (o : Outcome) → Serves was os mid → Serves mid (o ∷ []) is → Serves was (os ++ o ∷ []) is
served_push was mid is [] o before one = subst (λ b. Serves b (o ∷ []) is) before one
served_push true mid is (Ok reply ∷ os) o before one = served_push true mid is os o before one
served_push false mid is (Ok reply ∷ os) o before one = absurd before
served_push true mid is (Err fault ∷ os) o (inl still) one = inl (served_push true mid is os o still one)
served_push true mid is (Err fault ∷ os) o (inr shut) one = inr (served_push false mid is os o shut one)
served_push false mid is (Err fault ∷ os) o before one = served_push false mid is os o before one

-- a fault is an answer to all
answer_of : (T : State) (r : Request) (o : Outcome) (P : Type 0) → OnOk o P → (P → IsAnswer T r o) → IsAnswer T r o
answer_of T r (Ok reply) P on answered = answered on
answer_of T r (Err fault) P on answered = tt

-- ---- all that holds of a request, and of a run

-- what is said of histories follows from what was run
module _ (old new : Shown) (rs : List Request) (os : List Outcome) (ran : RanTo old new rs os) where
  has_headline : HasHeadline old new rs os
  has_headline needs clean on empty = headline_from (registry_in old) rs os new.is_open (registry_in new) empty (ran needs clean) on

  has_history : WritesHistory old new rs os
  has_history needs clean on h legal is = run_says h (registry_in old) rs os new.is_open (registry_in new) (ran needs clean) on legal is

  has_hidden : HidesUnreadRun old new rs os
  has_hidden needs clean h legal is p = hide_along h p rs os legal (subst (λ (S : State). HaveOutcomes S rs os) is (ran needs clean).answers)

none_ran : (s : Shown) → RanTo s s [] []
none_ran s needs clean = ran_none (registry_in s) s.is_open

-- ---- where a request is asked

-- a registry between requests has lost no commit
not_lost : (b : Bool) → b ≡ false → IsTrue b → ⊥
not_lost b idle on = true≢false (sym on ∙ idle)

-- what `apply` says of a crash holds of a request in turn
pub turns_of_apply : (old new : Shown) (r : Request) → Survives old new (LeavesOne r old) → new.in_transaction ≡ false → SurvivesInTurn old new r
turns_of_apply old new r survives idle = record {
  closes = survives_weaker old new _ _ (λ _ _ _. tt) survives;
  shut = λ clean shut db left. elim (survives.crash clean db left) [
    | inl earlier ↦ inl earlier
    | inr made ↦ inr (inl made)
  ];
  lost = λ clean lost. absurd (not_lost new.in_transaction idle lost.1);
}

-- what may be left where a commit was lost before the first of these requests, which are in a row with
-- those of that commit
abbrev may_at : Shown → List Request → Trees → Type 0
may_at old rs db = old.may_leave db ⊎ MadeInRow (IsLost old) rs (stored old) db

-- and what was shown then
abbrev shown_lost : Shown → Contents → Type 0
shown_lost old d = IsLost old × (d ≡ stored old)

-- The registry, whose commit was lost, shows what requests in a row made of which this is the last
pub record IsMadeBy (old new : Shown) (rs : List Request) (os : List Outcome) : Type 0 where
  pub shows : row_shows (IsTrue old.is_open) (shown_lost old) rs os (stored old) (stored new)
  pub needs : HoldsNeeds (stored old) → HoldsNeeds (stored new)

-- a run that may end in the middle of requests whose commit was lost
pub record RunsTo (old new : Shown) (rs : List Request) (os : List Outcome) : Type 0 where
  pub run : HasRun old new rs os
  pub lost : NeedsForEach rs (stored old) → HasCleanDisk new → IsLost new → IsMadeBy old new rs os

pub has_run_none : (s : Shown) → RunsTo s s [] []
has_run_none s = record {
  run = record {
    many = refl;
    headline = has_headline s s [] [] (none_ran s);
    history = has_history s s [] [] (none_ran s);
    hidden = has_hidden s s [] [] (none_ran s);
    ran = none_ran s;
    stored = λ sound clean on. refl;
    served = λ clean. refl;
    opened = λ clean on. on;
    written = λ scoped. scoped;
    needs = λ sound clean on holds. holds;
    refers = λ sound clean on holds. holds;
    archives = λ sound clean on holds. holds;
    form = λ needs clean on kept. kept;
    survives = λ sound clean db left. inl left;
    durable = λ sure. sure;
    closes = record { clean = omega arith; shield = λ h. h; counts = omega arith; limit = refl; closes = λ _ on. inl on; crash = λ _ db left. inl left };
  };
  lost = λ sound clean lost. record { shows = (lost, refl); needs = λ holds. holds };
}

pub survives_run_none : (s : Shown) → SurvivesRun s s [] []
survives_run_none s sound clean db left = left

-- ---- one request after a run

module _ (old mid : Shown) (rs : List Request) (os : List Outcome) (r : Request) (before : RunsTo old mid rs os) (sound : NeedsForEach (rs ++ r ∷ []) (stored old)) (clean : HasCleanDisk mid) where
  -- what decides the requests so far
  needs_before : NeedsForEach rs (stored old)
  needs_before = (needs_split rs r (stored old) sound).0

  ran_before : HaveOutcomes (registry_in old) rs os
  ran_before = (before.run.ran needs_before clean).answers

  same_before : IsTrue mid.is_open → stored mid ≡ end_stored rs os (stored old)
  same_before on = before.run.stored needs_before clean on

  opened_before : IsTrue mid.is_open → IsTrue old.is_open
  opened_before on = before.run.opened clean on

  -- what is shown before the next one
  made_before : IsLost mid → IsMadeBy old mid rs os
  made_before lost = before.lost needs_before clean lost

  kept_before : IsOpenOrLost mid → HoldsNeeds (stored old) → HoldsNeeds (stored mid)
  kept_before (inl on) = before.run.needs needs_before clean on
  kept_before (inr lost) = (made_before lost).needs

  -- and what decides it
  needs_still : IsOpenOrLost mid → NeedsFor r.what (stored mid)
  needs_still was = needs_stay r.what (stored old) (stored mid) (kept_before was) (needs_split rs r (stored old) sound).1

  -- where it meets a fault, it begins a row, or goes on with one
  shows_then : (fault : Fault) (d : Contents) → IsOpenOrLost mid → d ≡ settled_by r (stored mid)
      → row_shows (IsTrue old.is_open) (shown_lost old) (rs ++ r ∷ []) (os ++ Err fault ∷ []) (stored old) d
  shows_then fault d (inl on) is =
      row_push (IsTrue old.is_open) (registry_in old) (shown_lost old) rs os r fault (stored old) d ran_before (inl (opened_before on, is ∙ ap (settled_by r) (same_before on)))
  shows_then fault d (inr lost) is =
      row_push (IsTrue old.is_open) (registry_in old) (shown_lost old) rs os r fault (stored old) d ran_before (inr (stored mid, (made_before lost).shows, is))

  -- in the middle of requests whose commit was lost it meets one
  lost_then : (new : Shown) (o : Outcome) → OnOk o (IsTrue mid.is_open × IsTrue new.is_open) → IsLost new → LosesInTurn r mid new → IsMadeBy old new (rs ++ r ∷ []) (os ++ o ∷ [])
  lost_then new (Ok reply) served lost made = absurd (true≢false (sym served.1 ∙ lost.0))
  lost_then new (Err fault) served lost made = record {
    shows = shows_then fault (stored new) made.was (made.made (needs_still made.was));
    needs = λ holds. made.needs (needs_still made.was) (kept_before made.was holds);
  }

  -- what a crash may leave after these
  abbrev left_then : List Request → List Outcome → Trees → Type 0
  left_then qs ps db = left_by (MadeInRow (IsTrue old.is_open)) (may_at old qs) qs ps (stored old) db

  -- one outcome more
  then_one : (o : Outcome) (db : Trees) → left_by (MadeInRow (IsTrue old.is_open)) (left_then rs os) (r ∷ []) (o ∷ []) (end_stored rs os (stored old)) db → left_then (rs ++ r ∷ []) (os ++ o ∷ []) db
  then_one o db = left_by_push (MadeInRow (IsTrue old.is_open)) (registry_in old) (may_at old rs) (may_at old (rs ++ r ∷ [])) rs os r o (stored old) db ran_before (row_grows (IsTrue old.is_open) r)
      (λ e may. elim may [
        | inl was ↦ inl was
        | inr made ↦ inr (row_grows (IsLost old) r rs (stored old) e made)
      ])

  -- what it makes in a row with those before it
  then_in_row : (fault : Fault) (db : Trees) → IsLost mid → IsRegistryOf db (settled_by r (stored mid)) → left_then (rs ++ r ∷ []) (os ++ Err fault ∷ []) db
  then_in_row fault db lost is =
      row_left (IsTrue old.is_open) (registry_in old) (may_at old (rs ++ r ∷ [])) (shown_lost old) rs os r fault (stored old) (stored mid) db ran_before
      (λ d begun holds. inr (begun.0, subst (λ (b : Contents). HoldsFirst (rs ++ r ∷ []) b db) begun.1 holds)) (made_before lost).shows is

  left_after : (new : Shown) (o : Outcome) → Applied mid new r o → HasCleanDisk new → (db : Trees) → new.may_leave db → left_then (rs ++ r ∷ []) (os ++ o ∷ []) db
  left_after new (Ok reply) made now db left = let on = made.served now in
      then_one (Ok reply) db (subst (IsRegistryOf db) (made.step (needs_still (inl on.0)) now on.1 ∙ ap (next_stored r (Ok reply)) (same_before on.0)) (made.durable now on.1 db left))
  left_after new (Err fault) made now db left = elim (cases_Bool new.is_open) [
    | inl on ↦ let was = made.opened now on in
        let is = subst (IsRegistryOf db) (made.step (needs_still (inl was)) now on ∙ sym (faulted_next (stored mid) r fault) ∙ same_before was) (made.durable now on db left) in
        then_one (Err fault) db (inr (opened_before was, inl is))
    | inr shut ↦ elim (made.survives.shut now shut db left) [
      | inl earlier ↦ then_one (Err fault) db (inl (before.run.survives needs_before clean db earlier))
      | inr done ↦ elim done [
        | inl one ↦ let is = subst (IsRegistryOf db) (ap (settled_by r) (same_before one.was_open)) (one.form, one.settled (needs_still (inl one.was_open))) in
            then_one (Err fault) db (inr (opened_before one.was_open, inr is))
        | inr later ↦ then_in_row fault db later.was_lost (later.form, later.settled (needs_still (inr later.was_lost)))
      ]
    ]
  ]

module _ (old mid new : Shown) (rs : List Request) (os : List Outcome) (r : Request) (o : Outcome) (before : RunsTo old mid rs os) (made : Applied mid new r o) where
  abbrev Sound : Type 0
  Sound = NeedsForEach (rs ++ r ∷ []) (stored old)

  was_clean : HasCleanDisk new → HasCleanDisk mid
  was_clean clean = omega (arith, made.survives.closes.clean, clean)

  first_needs : Sound → HasCleanDisk new → NeedsForEach rs (stored old)
  first_needs sound clean = needs_before old mid rs os r before sound (was_clean clean)

  next_needs : Sound → HasCleanDisk new → IsTrue mid.is_open → NeedsFor r.what (stored mid)
  next_needs sound clean on = needs_still old mid rs os r before sound (was_clean clean) (inl on)

  was_open : HasCleanDisk new → OnOk o (IsTrue mid.is_open)
  was_open clean = on_answer o (λ on. on.0) (made.served clean)

  first_same : Sound → HasCleanDisk new → IsTrue mid.is_open → stored mid ≡ end_stored rs os (stored old)
  first_same sound clean on = same_before old mid rs os r before sound (was_clean clean) on

  first_opened : HasCleanDisk new → IsTrue mid.is_open → IsTrue old.is_open
  first_opened clean on = before.run.opened (was_clean clean) on

  ran_more : RanTo old new (rs ++ r ∷ []) (os ++ o ∷ [])
  ran_more sound clean =
      ran_push (registry_in old) (registry_in mid) (registry_in new) mid.is_open new.is_open rs os r o (before.run.ran (first_needs sound clean) (was_clean clean))
      (answer_of (registry_in mid) r o (IsTrue mid.is_open) (was_open clean) (λ on. made.answer (next_needs sound clean on) clean)) (was_open clean) (made.opened clean)
      (λ on. made.moves (next_needs sound clean (made.opened clean on)) clean on)

  -- what held before it holds after it, where it keeps that
  keeps_more : (P : Contents → Type 0) → KeepsRun old mid rs P → Keeps mid new r P → KeepsRun old new (rs ++ r ∷ []) P
  keeps_more P first one sound clean on holds = let was = made.opened clean on in
      one (next_needs sound clean was) clean on (first (first_needs sound clean) (was_clean clean) was holds)

  run_more : HasRun old new (rs ++ r ∷ []) (os ++ o ∷ [])
  run_more = record {
    many = omega (arith, before.run.many, length-append os (o ∷ []), length-append rs (r ∷ []));
    headline = has_headline old new (rs ++ r ∷ []) (os ++ o ∷ []) ran_more;
    history = has_history old new (rs ++ r ∷ []) (os ++ o ∷ []) ran_more;
    hidden = has_hidden old new (rs ++ r ∷ []) (os ++ o ∷ []) ran_more;
    ran = ran_more;
    stored = λ sound clean on. made.step (next_needs sound clean (made.opened clean on)) clean on ∙ ap (next_stored r o) (first_same sound clean (made.opened clean on))
        ∙ sym (end_stored_push (registry_in old) (stored old) rs os r o (before.run.ran (first_needs sound clean) (was_clean clean)).answers);
    served = λ clean. served_push old.is_open mid.is_open new.is_open os o (before.run.served (was_clean clean)) (served_one mid.is_open new.is_open o (made.served clean) (made.opened clean));
    opened = λ clean on. first_opened clean (made.opened clean on);
    written = λ _. made.written;
    needs = keeps_more HoldsNeeds before.run.needs made.needs;
    refers = keeps_more HoldsReferences before.run.refers made.refers;
    archives = keeps_more HoldsArchives before.run.archives made.archives;
    form = λ sound clean on kept. let was = made.opened clean on in
        made.form (next_needs sound clean was) clean on (before.run.form (first_needs sound clean) (was_clean clean) was kept);
    survives = λ sound clean db left. left_after old mid rs os r before sound (was_clean clean) new o made clean db left;
    durable = λ sure. made.durable;
    closes = survives_then old mid new _ _ (λ db. Unit {0}) (λ _ _ any. any) (λ _ _ any. any) before.run.closes made.survives.closes;
  }

  pub has_run_more : RunsTo old new (rs ++ r ∷ []) (os ++ o ∷ [])
  has_run_more = record {
    run = run_more;
    lost = λ sound clean lost. lost_then old mid rs os r before sound (was_clean clean) new o (made.served clean) lost (made.survives.lost clean lost);
  }

  -- where no commit is shared, a crash leaves no more than one of those that met a fault
  pub survives_run_more : SurvivesRun old mid rs os → SurvivesOne mid new r → SurvivesRun old new (rs ++ r ∷ []) (os ++ o ∷ [])
  survives_run_more first one sound clean db left =
      let Made : List Request → Contents → Trees → Type 0 = MadeAlone (IsTrue old.is_open) in
      left_by_push Made (registry_in old) old.may_leave old.may_leave rs os r o (stored old) db (before.run.ran (first_needs sound clean) (was_clean clean)).answers
      (alone_grows (IsTrue old.is_open) r) (λ e may. may)
      (left_by_one Made _ r o _ db
      (elim (one.crash clean db left) [
        | inl earlier ↦ inl (first (first_needs sound clean) (was_clean clean) db earlier)
        | inr leaves ↦ inr (first_opened clean leaves.was_open, subst (IsRegistryOf db) (ap (settled_by r) (first_same sound clean leaves.was_open)) (leaves.form, leaves.settled (next_needs sound clean leaves.was_open)))
      ])
      (on_answer o (λ on. subst (IsRegistryOf db) (made.step (next_needs sound clean on.0) clean on.1 ∙ ap (next_stored r o) (first_same sound clean on.0)) (made.durable clean on.1 db left)) (made.served clean)))
