-- What lives of a registry come to.
use Rattle.registry_desk.proofs.Words.{◌≡◌, ◌⊎◌, ◌∙◌, ◌++◌, ◌&&◌, cond, inl, inr, Bool, true, false, List, [], ◌∷◌, Ok, Err, IsTrue, refl, sym, ap, subst, append-nil, append_assoc, AllByRecursion}
use Rattle.registry_desk.proofs.Words.{Ghosts, state, Shown, HasCleanDisk, Trees, Fault, is_command, Change, effects_of, step, State, Reply, Request, HeldAreStored, HoldsArchives, all_stored, stored_by, Contents}
use Rattle.registry_desk.proofs.Words.{registry_of, stored, fresh, HoldsNeeds, GrantsInScope, fresh_holds, fresh_archives, fresh_is_nothing, change_keeps, answer, Outcome, HaveOutcomes, IsAnswer, Ran}
use Rattle.registry_desk.proofs.Words.{end_of, enters, next, headline_from, run_says, Applied, SurvivesOne, SurvivesRun, HoldsFirst, IsLost, IsSure, MadeAlone, MadeInRow, NeedsForEach, registry_in, IsRegistryOf, end_stored, left_by, next_stored, settled_by, stepped}
use Rattle.std.proofs.lemmas.Bool.{cases_Bool}
use Rattle.registry_rules.specs.Requests.{IsInForm}
use Rattle.registry_desk.specs.Lives.{AloneAreRuns, AreFaults, AreInForm, AreLives, AskedBy, ComesTo, Did, DidAll, DidLate, FirstOf, Follows, HasLived, IsInOrder, IsOpenedAgain, Life, LivesAreOneRun, LivesComeToRuns, LivesHaveHeadline, StopsKeepOutcomes, StopsLeaveAllOrNothing, SurvivesAs, TurnsAreRuns}
use Rattle.registry_desk.specs.Together.{GroupsKeepOutcomes, GroupsLeaveAllOrNothing, all_settled, at_rest, shown_at}
use Rattle.registry_desk.proofs.GrantFacts.{grants_next}
use Rattle.registry_desk.proofs.KeepingFacts.{archives_kept, holds_next, needs_kept, registry_next}
use Rattle.registry_desk.proofs.SettlingFacts.{faulted_next, settled_next}
use Rattle.registry_desk.proofs.StopFacts.{found_again, still_stored, stops_in_a_row_lose_nothing}
use Rattle.registry_desk.proofs.StoredFacts.{RunsTo, has_run_more, has_run_none, needs_for_each, survives_run_more, survives_run_none}

-- ---- one request

-- a fault leaves the state
fault_stays : (b : Bool) (S T : State) → cond (b && false) T S ≡ S
fault_stays true S T = refl
fault_stays false S T = refl

-- what is held stays stored
changes_hold : (changes : List Change) (c : Contents) → HeldAreStored c → HeldAreStored (all_stored changes c)
changes_hold [] c held = held
changes_hold (change ∷ changes) c held = changes_hold changes (stored_by change c) (change_keeps change c held)

held_if : (b : Bool) (c : Contents) (r : Request) → HeldAreStored c → HeldAreStored (cond b (stepped r c) c)
held_if true c r held = changes_hold (effects_of (registry_of c) r) c held
held_if false c r held = held

held_next : (c : Contents) (r : Request) (o : Outcome) → HeldAreStored c → HeldAreStored (next_stored r o c)
held_next c r o = held_if (enters r o) c r

-- what is stored goes on as the state does
goes_next : (c : Contents) (r : Request) (o : Outcome) → HeldAreStored c → registry_of (next_stored r o c) ≡ next (registry_of c) r o
goes_next c r o held = registry_next c (next_stored r o c) r o held refl

-- ---- several requests

-- the outcomes that follow, by what is stored
rest_of : (c : Contents) (r : Request) (o : Outcome) (rs : List Request) (os : List Outcome) → HeldAreStored c → HaveOutcomes (next (registry_of c) r o) rs os → HaveOutcomes (registry_of (next_stored r o c)) rs os
rest_of c r o rs os held answers = subst (λ (S : State). HaveOutcomes S rs os) (sym (goes_next c r o held)) answers

-- and by the state
back_to : (c : Contents) (r : Request) (o : Outcome) (rs : List Request) (os : List Outcome) → HeldAreStored c → HaveOutcomes (registry_of (next_stored r o c)) rs os → HaveOutcomes (next (registry_of c) r o) rs os
back_to c r o rs os held answers = subst (λ (S : State). HaveOutcomes S rs os) (goes_next c r o held) answers

-- those after a fault
after_fault : (S : State) (r : Request) (fault : Fault) (rs : List Request) (os : List Outcome) → HaveOutcomes (next S r (Err fault)) rs os → HaveOutcomes S rs os
after_fault S r fault rs os = subst (λ (T : State). HaveOutcomes T rs os) (fault_stays (is_command r.what) S (step S r))

-- what is stored at the end is the state at the end
ends_as : (rs : List Request) (os : List Outcome) (c : Contents) → HeldAreStored c → HaveOutcomes (registry_of c) rs os → registry_of (end_stored rs os c) ≡ end_of (registry_of c) rs os
ends_as [] [] c held answers = refl
ends_as (r ∷ rs) (o ∷ os) c held answers =
    ends_as rs os (next_stored r o c) (held_next c r o held) (rest_of c r o rs os held answers.1) ∙ ap (λ (S : State). end_of S rs os) (goes_next c r o held)
ends_as [] (o ∷ os) c held answers = absurd answers
ends_as (r ∷ rs) [] c held answers = absurd answers

-- what each outcome keeps, all do
all_keep : (P : Contents → Type 0) → ((c : Contents) (r : Request) (o : Outcome) → IsInForm r → IsAnswer (registry_of c) r o → P c → P (next_stored r o c))
    → (rs : List Request) (os : List Outcome) (c : Contents) → AllByRecursion IsInForm rs → HeldAreStored c → HaveOutcomes (registry_of c) rs os → P c → P (end_stored rs os c)
all_keep P keeps [] [] c forms held answers holds = holds
all_keep P keeps (r ∷ rs) (o ∷ os) c forms held answers holds =
    all_keep P keeps rs os (next_stored r o c) forms.1 (held_next c r o held) (rest_of c r o rs os held answers.1) (keeps c r o forms.0 answers.0 holds)
all_keep P keeps [] (o ∷ os) c forms held answers holds = absurd answers
all_keep P keeps (r ∷ rs) [] c forms held answers holds = absurd answers

-- one list of requests after another
joined : (ds : List Request) (ps : List Outcome) (es : List Request) (qs : List Outcome) (c : Contents) → HeldAreStored c → HaveOutcomes (registry_of c) ds ps → HaveOutcomes (registry_of (end_stored ds ps c)) es qs
    → HaveOutcomes (registry_of c) (ds ++ es) (ps ++ qs) × (end_stored (ds ++ es) (ps ++ qs) c ≡ end_stored es qs (end_stored ds ps c))
joined [] [] es qs c held first then = (then, refl)
joined (d ∷ ds) (p ∷ ps) es qs c held first then =
    let rest = joined ds ps es qs (next_stored d p c) (held_next c d p held) (rest_of c d p ds ps held first.1) then in
    ((first.0, back_to c d p (ds ++ es) (ps ++ qs) held rest.0), rest.1)
joined [] (p ∷ ps) es qs c held first then = absurd first
joined (d ∷ ds) [] es qs c held first then = absurd first

-- ---- what a crash leaves after a life

module _ (Made : List Request → Contents → Trees → Type 0) where
  -- where more may have been left before, more may be left after
  more_left : (P Q : Trees → Type 0) (S : State) (rs : List Request) (os : List Outcome) (c : Contents) (db : Trees) → HaveOutcomes S rs os → ((d : Trees) → P d → Q d)
      → left_by Made P rs os c db → left_by Made Q rs os c db
  more_left P Q S [] [] c db answers more left = more db left
  more_left P Q S (r ∷ rs) (Ok reply ∷ os) c db answers more left = left
  more_left P Q S (r ∷ rs) (Err fault ∷ os) c db answers more left =
      let made : Trees → Type 0 = Made (r ∷ rs) c in
      more_left (λ d. P d ⊎ made d) (λ d. Q d ⊎ made d) (next S r (Err fault)) rs os c db answers.1
      (λ d either. elim either [
        | inl was ↦ inl (more d was)
        | inr is ↦ inr is
      ])
      left
  more_left P Q S [] (o ∷ os) c db answers more left = absurd answers
  more_left P Q S (r ∷ rs) [] c db answers more left = absurd answers

  -- of two that may have been left before, either is left, and the second only where nothing was
  -- answered since
  either_left : (P Q : Trees → Type 0) (S : State) (rs : List Request) (os : List Outcome) (c : Contents) (db : Trees) → HaveOutcomes S rs os
      → left_by Made (λ d. P d ⊎ Q d) rs os c db → left_by Made P rs os c db ⊎ (AreFaults os × Q db)
  either_left P Q S [] [] c db answers left = elim left [
    | inl was ↦ inl was
    | inr is ↦ inr (tt, is)
  ]
  either_left P Q S (r ∷ rs) (Ok reply ∷ os) c db answers left = inl left
  either_left P Q S (r ∷ rs) (Err fault ∷ os) c db answers left =
      let made : Trees → Type 0 = Made (r ∷ rs) c in
      either_left (λ d. P d ⊎ made d) Q (next S r (Err fault)) rs os c db answers.1
      (more_left (λ d. (P d ⊎ Q d) ⊎ made d) (λ d. (P d ⊎ made d) ⊎ Q d) (next S r (Err fault)) rs os c db answers.1
      (λ d either. elim either [
        | inl one ↦ elim one [
          | inl was ↦ inl (inl was)
          | inr is ↦ inr is
        ]
        | inr is ↦ inl (inr is)
      ])
      left)
  either_left P Q S [] (o ∷ os) c db answers left = absurd answers
  either_left P Q S (r ∷ rs) [] c db answers left = absurd answers

-- ---- what was done

-- what was done of these requests, from what was stored before
record DidFrom (c : Contents) (is_open together : Bool) (rs : List Request) (os : List Outcome) : Type 0 where
  requests : List Request
  replies : List Outcome
  did : Did is_open together rs os requests replies
  answers : HaveOutcomes (registry_of c) requests replies

-- one more that was answered
did_more : (c : Contents) (is_open together : Bool) (r : Request) (reply : Reply) (rs : List Request) (os : List Outcome) → HeldAreStored c → IsAnswer (registry_of c) r (Ok reply)
    → DidFrom (next_stored r (Ok reply) c) is_open together rs os → DidFrom c is_open together (r ∷ rs) (Ok reply ∷ os)
did_more c is_open together r reply rs os held answered rest = record {
  requests = r ∷ rest.requests;
  replies = Ok reply ∷ rest.replies;
  did = (rest.requests, rest.replies, rest.did, refl, refl);
  answers = (answered, back_to c r (Ok reply) rest.requests rest.replies held rest.answers);
}

-- a fault, and nothing was done
did_nothing : (c : Contents) (is_open together : Bool) (r : Request) (fault : Fault) (rs : List Request) (os : List Outcome) → DidFrom c is_open together rs os → DidFrom c is_open together (r ∷ rs) (Err fault ∷ os)
did_nothing c is_open together r fault rs os rest = record {
  requests = rest.requests;
  replies = rest.replies;
  did = inl rest.did;
  answers = rest.answers;
}

-- what a request that nothing refused has made
settles : (c : Contents) (r : Request) → settled_by r c ≡ next_stored r (Ok (answer (registry_of c) r)) c
settles c r = settled_next c r (answer (registry_of c) r) refl

-- the first of the requests, with replies, from what was stored before
record DidFirst (c : Contents) (rs : List Request) : Type 0 where
  requests : List Request
  replies : List Outcome
  first : FirstOf rs requests replies
  answers : HaveOutcomes (registry_of c) requests replies

-- none
first_none : (rs : List Request) → FirstOf rs [] []
first_none [] = (refl, refl)
first_none (r ∷ rs) = inl (refl, refl)

did_none : (c : Contents) (rs : List Request) → DidFirst c rs
did_none c rs = record { requests = []; replies = []; first = first_none rs; answers = tt }

-- this one, and the first of those after it
first_more : (c : Contents) (r : Request) (rs : List Request) → HeldAreStored c → DidFirst (next_stored r (Ok (answer (registry_of c) r)) c) rs → DidFirst c (r ∷ rs)
first_more c r rs held rest = record {
  requests = r ∷ rest.requests;
  replies = Ok (answer (registry_of c) r) ∷ rest.replies;
  first = inr (answer (registry_of c) r, rest.requests, rest.replies, rest.first, refl, refl);
  answers = (refl, back_to c r (Ok (answer (registry_of c) r)) rest.requests rest.replies held rest.answers);
}

-- those that a database holds are done
first_done : (rs : List Request) (c : Contents) (db : Trees) → HeldAreStored c → HoldsFirst rs c db → (it : DidFirst c rs) × IsRegistryOf db (end_stored it.requests it.replies c)
unfolding did_none first_more
first_done [] c db held is = (did_none c [], is)
first_done (r ∷ rs) c db held (inl is) = (did_none c (r ∷ rs), is)
first_done (r ∷ rs) c db held (inr more) =
    let told = Ok (answer (registry_of c) r) in
    let rest = first_done rs (next_stored r told c) db (held_next c r told held) (subst (λ (e : Contents). HoldsFirst rs e db) (settles c r) more) in
    (first_more c r rs held rest.0, rest.1)

-- ---- what was done by a registry that a fault has shut

-- the database holds what was done
abbrev HoldsDone : Contents → Bool → Bool → List Request → List Outcome → Trees → Type 0
HoldsDone c is_open together rs os db = (it : DidFrom c is_open together rs os) × IsRegistryOf db (end_stored it.requests it.replies c)

-- nothing was
none_did : (is_open together : Bool) (rs : List Request) (os : List Outcome) → AreFaults os → Did is_open together rs os [] []
none_did is_open together [] os faults = (refl, refl)
none_did is_open together (r ∷ rs) [] faults = (refl, refl)
none_did is_open together (r ∷ rs) (Ok reply ∷ os) faults = absurd faults
none_did is_open together (r ∷ rs) (Err fault ∷ os) faults = inl (none_did is_open together rs os faults)

nothing_done : (c : Contents) (is_open together : Bool) (rs : List Request) (os : List Outcome) (db : Trees) → AreFaults os → IsRegistryOf db c → HoldsDone c is_open together rs os db
nothing_done c is_open together rs os db faults is = (record { requests = []; replies = []; did = none_did is_open together rs os faults; answers = tt }, is)

-- Where nothing was answered: a request that was asked alone was done, or, where requests may have shared a
-- commit, the first in a row
alone_done : (Opened : Type 0) (is_open : Bool) (rs : List Request) (os : List Outcome) (c : Contents) (db : Trees) → is_open ≡ false → AreFaults os → HeldAreStored c → HaveOutcomes (registry_of c) rs os
    → MadeAlone Opened rs c db → HoldsDone c is_open false rs os db
alone_done Opened is_open [] os c db shut faults held answers made = absurd made
alone_done Opened is_open (r ∷ rs) (Ok reply ∷ os) c db shut faults held answers made = absurd faults
alone_done Opened is_open (r ∷ rs) (Err fault ∷ os) c db shut faults held answers made = (
  record {
    requests = r ∷ [];
    replies = Ok (answer (registry_of c) r) ∷ [];
    did = inr (shut, faults, (answer (registry_of c) r, refl, refl));
    answers = (refl, tt);
  },
  subst (IsRegistryOf db) (settles c r) made.1,
)
alone_done Opened is_open (r ∷ rs) [] c db shut faults held answers made = absurd answers

row_done : (Opened : Type 0) (is_open : Bool) (rs : List Request) (os : List Outcome) (c : Contents) (db : Trees) → is_open ≡ false → AreFaults os → HeldAreStored c → HaveOutcomes (registry_of c) rs os
    → MadeInRow Opened rs c db → HoldsDone c is_open true rs os db
row_done Opened is_open [] os c db shut faults held answers (on, is) = nothing_done c is_open true [] os db faults is
row_done Opened is_open (r ∷ rs) (Ok reply ∷ os) c db shut faults held answers made = absurd faults
row_done Opened is_open (r ∷ rs) (Err fault ∷ os) c db shut faults held answers (on, inl is) = nothing_done c is_open true (r ∷ rs) (Err fault ∷ os) db faults is
row_done Opened is_open (r ∷ rs) (Err fault ∷ os) c db shut faults held answers (on, inr more) =
    let told = Ok (answer (registry_of c) r) in
    let rest = first_done rs (next_stored r told c) db (held_next c r told held) (subst (λ (e : Contents). HoldsFirst rs e db) (settles c r) more) in (
      record {
        requests = r ∷ rest.0.requests;
        replies = told ∷ rest.0.replies;
        did = inr (shut, faults, (answer (registry_of c) r, rest.0.requests, rest.0.replies, rest.0.first, refl, refl));
        answers = (refl, back_to c r told rest.0.requests rest.0.replies held rest.0.answers);
      },
      rest.1,
    )
row_done Opened is_open (r ∷ rs) [] c db shut faults held answers made = absurd answers

-- what a crash leaves of such a registry holds what was done, if it does where nothing was answered
left_after : (Made : List Request → Contents → Trees → Type 0) (is_open together : Bool)
    → ((rs : List Request) (os : List Outcome) (c : Contents) (db : Trees) → AreFaults os → HeldAreStored c → HaveOutcomes (registry_of c) rs os → Made rs c db → HoldsDone c is_open together rs os db)
    → (may : Trees → Type 0) (rs : List Request) (os : List Outcome) (c : Contents) (db : Trees) → ((d : Trees) → may d → IsRegistryOf d c) → HeldAreStored c → HaveOutcomes (registry_of c) rs os
    → left_by Made may rs os c db → HoldsDone c is_open together rs os db
unfolding did_more did_nothing
left_after Made is_open together done may [] [] c db sure held answers left = (record { requests = []; replies = []; did = (refl, refl); answers = tt }, sure db left)
left_after Made is_open together done may (r ∷ rs) (Ok reply ∷ os) c db sure held answers left =
    let later = next_stored r (Ok reply) c in
    let rest = left_after Made is_open together done (λ d. IsRegistryOf d later) rs os later db (λ d is. is) (held_next c r (Ok reply) held) (rest_of c r (Ok reply) rs os held answers.1) left in
    (did_more c is_open together r reply rs os held answers.0 rest.0, rest.1)
left_after Made is_open together done may (r ∷ rs) (Err fault ∷ os) c db sure held answers left =
    elim (either_left Made may (Made (r ∷ rs) c) (next (registry_of c) r (Err fault)) rs os c db answers.1 left) [
      | inl before ↦
          let rest = left_after Made is_open together done may rs os c db sure held (after_fault (registry_of c) r fault rs os answers.1) before in
          (did_nothing c is_open together r fault rs os rest.0, rest.1)
      | inr made ↦ done (r ∷ rs) (Err fault ∷ os) c db made.0 held answers made.1
    ]
left_after Made is_open together done may [] (o ∷ os) c db sure held answers left = absurd answers
left_after Made is_open together done may (r ∷ rs) [] c db sure held answers left = absurd answers

-- so it is of requests of which some may have shared a commit, or none
shut_after : (together is_open : Bool) (first last : Shown) (rs : List Request) (os : List Outcome) (db : Trees) → is_open ≡ false → IsSure first → HeldAreStored (stored first)
    → HaveOutcomes (registry_in first) rs os → NeedsForEach rs (stored first) → HasCleanDisk last → last.may_leave db → SurvivesAs together first last rs os → HoldsDone (stored first) is_open together rs os db
shut_after false is_open first last rs os db shut sure held answers needs clean left survives =
    left_after (MadeAlone (IsTrue first.is_open)) is_open false (λ rs os c db. alone_done (IsTrue first.is_open) is_open rs os c db shut) first.may_leave rs os (stored first) db sure held answers (survives needs clean db left)
shut_after true is_open first last rs os db shut sure held answers needs clean left survives =
    let Made : List Request → Contents → Trees → Type 0 = MadeInRow (IsTrue first.is_open) in
    elim (either_left Made first.may_leave (MadeInRow (IsLost first) rs (stored first)) (registry_in first) rs os (stored first) db answers (survives needs clean db left)) [
      | inl was ↦ left_after Made is_open true (λ rs os c db. row_done (IsTrue first.is_open) is_open rs os c db shut) first.may_leave rs os (stored first) db sure held answers was
      | inr made ↦ row_done (IsLost first) is_open rs os (stored first) db shut made.0 held answers made.1
    ]

-- an open registry has done what it answered, and nothing else
kept_after : (is_open together : Bool) (rs : List Request) (os : List Outcome) (c : Contents) → HeldAreStored c → HaveOutcomes (registry_of c) rs os
    → (it : DidFrom c is_open together rs os) × (end_stored rs os c ≡ end_stored it.requests it.replies c)
unfolding did_more did_nothing
kept_after is_open together [] [] c held answers = (record { requests = []; replies = []; did = (refl, refl); answers = tt }, refl)
kept_after is_open together (r ∷ rs) (Ok reply ∷ os) c held answers =
    let rest = kept_after is_open together rs os (next_stored r (Ok reply) c) (held_next c r (Ok reply) held) (rest_of c r (Ok reply) rs os held answers.1) in
    (did_more c is_open together r reply rs os held answers.0 rest.0, rest.1)
kept_after is_open together (r ∷ rs) (Err fault ∷ os) c held answers =
    let rest = kept_after is_open together rs os c held (after_fault (registry_of c) r fault rs os answers.1) in
    (did_nothing c is_open together r fault rs os rest.0, ap (end_stored rs os) (sym (faulted_next c r fault)) ∙ rest.1)
kept_after is_open together [] (o ∷ os) c held answers = absurd answers
kept_after is_open together (r ∷ rs) [] c held answers = absurd answers

-- what was done was asked
first_form : (rs ds : List Request) (ps : List Outcome) → AllByRecursion IsInForm rs → FirstOf rs ds ps → AllByRecursion IsInForm ds
first_form [] ds ps forms did = subst (AllByRecursion IsInForm) (sym did.0) tt
first_form (r ∷ rs) ds ps forms (inl none) = subst (AllByRecursion IsInForm) (sym none.0) tt
first_form (r ∷ rs) ds ps forms (inr did) = subst (AllByRecursion IsInForm) (sym did.4) (forms.0, first_form rs did.1 did.2 forms.1 did.3)

late_form : (together : Bool) (r : Request) (rs ds : List Request) (ps : List Outcome) → AllByRecursion IsInForm (r ∷ rs) → DidLate together r rs ds ps → AllByRecursion IsInForm ds
late_form false r rs ds ps forms did = subst (AllByRecursion IsInForm) (sym did.1) (forms.0, tt)
late_form true r rs ds ps forms did = subst (AllByRecursion IsInForm) (sym did.4) (forms.0, first_form rs did.1 did.2 forms.1 did.3)

did_form : (is_open together : Bool) (rs : List Request) (os : List Outcome) (ds : List Request) (ps : List Outcome) → AllByRecursion IsInForm rs → Did is_open together rs os ds ps → AllByRecursion IsInForm ds
did_form is_open together [] os ds ps forms did = subst (AllByRecursion IsInForm) (sym did.0) tt
did_form is_open together (r ∷ rs) [] ds ps forms did = subst (AllByRecursion IsInForm) (sym did.0) tt
did_form is_open together (r ∷ rs) (Ok reply ∷ os) ds ps forms did = subst (AllByRecursion IsInForm) (sym did.3) (forms.0, did_form is_open together rs os did.0 did.1 forms.1 did.2)
did_form is_open together (r ∷ rs) (Err fault ∷ os) ds ps forms (inl did) = did_form is_open together rs os ds ps forms.1 did
did_form is_open together (r ∷ rs) (Err fault ∷ os) ds ps forms (inr did) = late_form together r rs ds ps forms did.2

-- ---- one life

-- what was done, and what was stored then, is what the life comes to
comes_to : (life : Life) (c d : Contents) → HeldAreStored c → (it : DidFrom c life.is_open life.together life.requests life.outcomes) → d ≡ end_stored it.requests it.replies c → ComesTo life c d
comes_to life c d held it same = record {
  requests = it.requests;
  replies = it.replies;
  did = it.did;
  ran = record { answers = it.answers; left = λ _. ap registry_of same ∙ ends_as it.requests it.replies c held it.answers };
  same = same;
}

-- what is found again of what a registry left: no open that was stopped has changed that
found_after : (last next : Shown) (c : Contents) (again : IsOpenedAgain last next) → HasCleanDisk next → IsRegistryOf again.db c → stored next ≡ c
found_after last next c again clean is =
    found_again again.db c (stored next) is (stops_in_a_row_lose_nothing again.db again.found again.stops (stored next) again.stopped (again.each clean again.found again.holds))

module _ (first last next : Shown) (life : Life) (lived : HasLived first last life) (order : IsInOrder (stored first)) (clean : HasCleanDisk next) where
  abbrev before : Contents
  before = stored first

  -- a registry that is open at the end
  left_open : HasCleanDisk last → IsTrue last.is_open → stored next ≡ stored last → ComesTo life before (stored next)
  left_open was_clean on same =
      let needs = needs_for_each life.requests before order.needs in
      let it = kept_after life.is_open life.together life.requests life.outcomes before order.archives.stored (lived.ran needs was_clean).answers in
      comes_to life before (stored next) order.archives.stored it.0 (same ∙ lived.stored needs was_clean on ∙ it.1)

  -- one that a fault has shut
  left_shut : (again : IsOpenedAgain last next) → last.is_open ≡ false → ComesTo life before (stored next)
  left_shut again shut =
      let needs = needs_for_each life.requests before order.needs in
      let it = shut_after life.together life.is_open first last life.requests life.outcomes again.db (lived.ends ∙ shut) lived.sure order.archives.stored
      (lived.ran needs again.was_clean).answers needs again.was_clean again.left lived.survives in
      comes_to life before (stored next) order.archives.stored it.0 (found_after last next _ again clean it.1)

  comes : Follows last next → ComesTo life before (stored next)
  comes (inl again) = elim (cases_Bool last.is_open) [
    | inl on ↦ left_open again.was_clean on (found_after last next (stored last) again clean (lived.durable again.was_clean on again.db again.left))
    | inr shut ↦ left_shut again shut
  ]
  comes (inr (inl on)) = let seen = on.made clean in left_open seen.0 seen.1 (still_stored last next on.rests on.made clean)
  comes (inr (inr on)) = left_open on.was_clean on.was_open on.same

-- ---- lives

-- what lives come to, from what was stored before to what is at last
record Come (c d : Contents) (lives : List Life) : Type 0 where
  requests : List Request
  replies : List Outcome
  did : DidAll lives requests replies
  answers : HaveOutcomes (registry_of c) requests replies
  same : d ≡ end_stored requests replies c

still_in_order : (rs : List Request) (os : List Outcome) (c : Contents) → AllByRecursion IsInForm rs → HaveOutcomes (registry_of c) rs os → IsInOrder c → IsInOrder (end_stored rs os c)
still_in_order rs os c forms answers order = record {
  needs = all_keep HoldsNeeds (λ c r o form answered. holds_next HoldsNeeds needs_kept c (next_stored r o c) r o form answered refl) rs os c forms order.archives.stored answers order.needs;
  archives = all_keep HoldsArchives (λ c r o form answered. holds_next HoldsArchives archives_kept c (next_stored r o c) r o form answered refl) rs os c forms order.archives.stored answers order.archives;
}

still_granted : (rs : List Request) (os : List Outcome) (c : Contents) → AllByRecursion IsInForm rs → HaveOutcomes (registry_of c) rs os → IsInOrder c → GrantsInScope c → GrantsInScope (end_stored rs os c)
still_granted rs os c forms answers order = all_keep GrantsInScope (λ c r o form answered. grants_next c (next_stored r o c) r o answered refl) rs os c forms order.archives.stored answers

all_lived : (lives : List Life) (c d : Contents) → IsInOrder c → AreInForm lives → AreLives lives c d → Come c d lives × IsInOrder d × (GrantsInScope c → GrantsInScope d)
all_lived [] c d order forms same =
    (record { requests = []; replies = []; did = (refl, refl); answers = tt; same = same }, subst IsInOrder (sym same) order, subst GrantsInScope (sym same))
all_lived (life ∷ lives) c d order forms are =
    let next = are.0 in
    let one = are.1 order in
    let form = did_form life.is_open life.together life.requests life.outcomes one.requests one.replies forms.0 one.did in
    let done : IsInOrder next = subst IsInOrder (sym one.same) (still_in_order one.requests one.replies c form one.ran.answers order) in
    let granted : GrantsInScope c → GrantsInScope next = λ scoped. subst GrantsInScope (sym one.same) (still_granted one.requests one.replies c form one.ran.answers order scoped) in
    let rest = all_lived lives next d done forms.1 are.2 in
    let both = joined one.requests one.replies rest.0.requests rest.0.replies c order.archives.stored one.ran.answers
    (subst (λ (e : Contents). HaveOutcomes (registry_of e) rest.0.requests rest.0.replies) one.same rest.0.answers) in (
      record {
        requests = one.requests ++ rest.0.requests;
        replies = one.replies ++ rest.0.replies;
        did = (one.requests, one.replies, rest.0.requests, rest.0.replies, one.did, rest.0.did, refl, refl);
        answers = both.0;
        same = rest.0.same ∙ ap (end_stored rest.0.requests rest.0.replies) one.same ∙ sym both.1;
      },
      rest.1,
      λ scoped. rest.2 (granted scoped),
    )

pub lives_are_one_run : LivesAreOneRun
lives_are_one_run lives c d order forms are =
    let all = all_lived lives c d order forms are in
    let it = all.0 in
    let ran : Ran (registry_of c) it.requests it.replies true (registry_of d) = record {
      answers = it.answers;
      left = λ _. ap registry_of it.same ∙ ends_as it.requests it.replies c order.archives.stored it.answers;
    } in
    record {
      requests = it.requests;
      replies = it.replies;
      did = it.did;
      ran = ran;
      same = it.same;
      in_order = all.1;
      grants = all.2;
      headline = λ empty. headline_from (registry_of c) it.requests it.replies true (registry_of d) empty ran refl;
      says = λ h legal is. run_says h (registry_of c) it.requests it.replies true (registry_of d) ran refl legal is;
    }

fresh_in_order : IsInOrder fresh
fresh_in_order = record { needs = fresh_holds; archives = fresh_archives }

pub lives_have_headline : LivesHaveHeadline
lives_have_headline lives last forms are =
    let run = lives_are_one_run lives fresh last fresh_in_order forms are in
    (run, run.headline fresh_is_nothing)

module _ {C D : Type 0} (show : C → Shown) (show_next : D → Shown) where
  pub lives_come_to_runs : LivesComeToRuns show show_next
  lives_come_to_runs first last next life lived follows clean order = comes (show first) (show last) (show_next next) life lived order clean follows

  pub stops_leave_all_or_nothing : StopsLeaveAllOrNothing show show_next
  stops_leave_all_or_nothing first last next r needs sure survives again clean =
      elim (survives.crash again.was_clean again.db again.left) [
        | inl before ↦ inl (found_after (show last) (show_next next) (stored (show first)) again clean (sure again.db before))
        | inr made ↦ inr (found_after (show last) (show_next next) (settled_by r (stored (show first))) again clean (made.form, made.settled needs))
      ]

  pub stops_keep_outcomes : StopsKeepOutcomes show show_next
  stops_keep_outcomes first last next r o needs step durable on again clean =
      found_after (show last) (show_next next) (stored (show last)) again clean (durable again.was_clean on again.db again.left) ∙ step needs again.was_clean on

-- what holds of a run, and goes on with each request, holds of those that are asked after it
module _ {C : Type 0} (asks : C → Request → Outcome → C → Type 0) (P : C → List Request → List Outcome → Type 0)
    (more : (mid next : C) (qs : List Request) (ps : List Outcome) (r : Request) (o : Outcome) → P mid qs ps → asks mid r o next → P next (qs ++ r ∷ []) (ps ++ o ∷ [])) where
  goes_on : (mid last : C) (qs : List Request) (ps : List Outcome) (rs : List Request) (os : List Outcome) → P mid qs ps → AskedBy asks rs os mid last → P last (qs ++ rs) (ps ++ os)
  goes_on mid last qs ps [] [] run same =
      subst (λ (e : C). P e (qs ++ []) (ps ++ [])) (sym same)
      (subst (λ (xs : List Request). P mid xs (ps ++ [])) (sym (append-nil qs)) (subst (λ (xs : List Outcome). P mid qs xs) (sym (append-nil ps)) run))
  goes_on mid last qs ps (r ∷ rs) (o ∷ os) run asked =
      let all = goes_on asked.0 last (qs ++ r ∷ []) (ps ++ o ∷ []) rs os (more mid asked.0 qs ps r o run asked.1) asked.2 in
      subst (λ (xs : List Request). P last xs (ps ++ o ∷ os)) (append_assoc qs (r ∷ []) rs)
      (subst (λ (xs : List Outcome). P last ((qs ++ r ∷ []) ++ rs) xs) (append_assoc ps (o ∷ []) os) all)
  goes_on mid last qs ps [] (o ∷ os) run asked = absurd asked
  goes_on mid last qs ps (r ∷ rs) [] run asked = absurd asked

module _ {C : Type 0} (show : C → Shown) where
  pub turns_are_runs : TurnsAreRuns show
  turns_are_runs first last rs os asked =
      (goes_on (λ M r o N. Applied (show M) (show N) r o) (λ N qs ps. RunsTo (show first) (show N) qs ps) (λ mid next qs ps r o run made. has_run_more (show first) (show mid) (show next) qs ps r o run made)
      first last [] [] rs os (has_run_none (show first)) asked).run

  pub alone_are_runs : AloneAreRuns show
  alone_are_runs first last rs os asked =
      let all = goes_on (λ M r o N. Applied (show M) (show N) r o × SurvivesOne (show M) (show N) r) (λ N qs ps. RunsTo (show first) (show N) qs ps × SurvivesRun (show first) (show N) qs ps)
      (λ mid next qs ps r o run made. (
        has_run_more (show first) (show mid) (show next) qs ps r o run.0 made.0,
        survives_run_more (show first) (show mid) (show next) qs ps r o run.0 made.0 run.1 made.1,
      ))
      first last [] [] rs os (has_run_none (show first), survives_run_none (show first)) asked in
      (all.0.run, all.1)

module _ {S T : Type 0} (store : Ghosts S) (store_next : Ghosts T) where
  pub groups_leave_all_or_nothing : GroupsLeaveAllOrNothing store store_next
  groups_leave_all_or_nothing first last next rs os needs sure together again clean =
      elim (together.survives.crash again.was_clean again.db again.left) [
        | inl before ↦ inl (found_after (state store last) (state store_next next) (stored (state store first)) again clean (sure again.db before))
        | inr made ↦ inr (found_after (state store last) (state store_next next) (all_settled rs (stored (state store first))) again clean (made.form, made.settled needs))
      ]

  pub groups_keep_outcomes : GroupsKeepOutcomes store store_next
  groups_keep_outcomes first last next rs os needs sure together on again clean =
      let run = turns_are_runs (shown_at store) (at_rest first) (at_rest last) rs os together.in_turn in
      found_after (state store last) (state store_next next) (stored (state store last)) again clean (run.durable (λ _ _. sure) again.was_clean on again.db again.left) ∙ run.stored needs again.was_clean on
