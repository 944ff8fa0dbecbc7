-- What a caller asks who has no level on a package leaves the rest as on the registry without it.
use Rattle.registry_desk.proofs.Words.{◌≡◌, ◌∙◌, ◌&&◌, Bool, true, false, if◌then◌else◌, List, [], ◌∷◌, Ok, Err, ap, refl, sym, subst, Text, Fault, is_command, step, State, Reply, Request, answer}
use Rattle.registry_desk.proofs.Words.{HaveOutcomes, IsAnswer, Outcome, grown, next, legal_grown, state_without, HideAlong, LeavesTheRest}
use Rattle.registry_laws_history.specs.History.{Entry, Legal, after}
use Rattle.registry_laws_hidden.specs.Concerns.{is_shown}
use Rattle.registry_laws_hidden.specs.Levels.{IsStranger}
use Rattle.registry_laws_hidden.proofs.LeftFacts.{rests_are_alike}
use Rattle.registry_laws_hidden.proofs.UnheardFacts.{replies_are_alike, without_twice}

-- where two registries give the same answer, what answers for one answers for the other
pub same_answer : (S T : State) (r : Request) (o : Outcome) → answer S r ≡ answer T r → IsAnswer S r o → IsAnswer T r o
same_answer S T r (Ok a) same is = is ∙ same
same_answer S T r (Err f) same is = tt

-- a fault leaves the state as it is
never : (b : Bool) → (b && false) ≡ false
never true = refl
never false = refl

fault_stays : (S : State) (r : Request) (f : Fault) → next S r (Err f) ≡ S
fault_stays S r f = ap (λ b. if b then step S r else S) (never (is_command r.what))

-- what the answer makes of the rest it makes of the registry without the package
pub leaves_the_rest : (h : List Entry) (p : Text) (r : Request) (o : Outcome) → Legal h → IsStranger (after h) r.who p → is_shown (after h) r p ≡ false → IsAnswer (after h) r o
    → LeavesTheRest (after h) r o p (next (after h) r o)
leaves_the_rest h p r (Ok reply) legal stranger quiet told =
    let without = state_without (after h) p in
    subst (λ (a : Reply). LeavesTheRest (after h) r (Ok a) p (next (after h) r (Ok a))) (sym told)
    (rests_are_alike h p r legal stranger quiet ∙ ap (λ (a : Reply). state_without (next without r (Ok a)) p) (sym (replies_are_alike h p r legal stranger quiet)))
leaves_the_rest h p r (Err fault) legal stranger quiet told =
    let without = state_without (after h) p in
    ap (λ (S : State). state_without S p) (fault_stays (after h) r fault) ∙ sym (without_twice (after h) p) ∙ sym (ap (λ (S : State). state_without S p) (fault_stays without r fault))

-- each request of a run, on what the earlier ones left
pub hide_along : (h : List Entry) (p : Text) (rs : List Request) (os : List Outcome) → Legal h → HaveOutcomes (after h) rs os → HideAlong (after h) p rs os
hide_along h p [] [] legal told = tt
hide_along h p (r ∷ rs) (o ∷ os) legal told =
    let grows = legal_grown h r o legal told.0 in (
      λ stranger quiet. (same_answer _ _ r o (replies_are_alike h p r legal stranger quiet) told.0, leaves_the_rest h p r o legal stranger quiet told.0),
      subst (λ (S : State). HideAlong S p rs os) (sym grows.1)
          (hide_along (grown h (after h) r o) p rs os grows.0 (subst (λ (S : State). HaveOutcomes S rs os) grows.1 told.1)),
    )
hide_along h p [] (o ∷ os) legal told = absurd told
hide_along h p (r ∷ rs) [] legal told = absurd told
