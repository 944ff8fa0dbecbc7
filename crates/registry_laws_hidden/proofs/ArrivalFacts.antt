-- Two runs in which many callers take turns, and which differ in requests on one package.
use Rattle.std.proofs.Common.{◌≡◌, true, sym, ◌∙◌, Ok, Err, List, [], ◌∷◌}
use Rattle.registry_names.specs.Texts.{Text}
use Rattle.registry_rules.specs.State.{State}
use Rattle.registry_rules.specs.declared.request.Request.{Request}
use Rattle.registry_laws_history.specs.History.{Entry, after}
use Rattle.registry_laws_history.specs.Runs.{HaveOutcomes, IsAnswer, Outcome, next}
use Rattle.registry_laws_hidden.specs.Arrivals.{AreAlike, Arrival, DifferIn, IsAnsweredAlike, StaysClose, StrangersSeeTheSame, first_outcomes, first_requests, in_both, in_first, in_second, leaves_the_rest, second_outcomes, second_requests}
use Rattle.registry_laws_hidden.specs.Runs.{DifferInPackage}
use Rattle.registry_laws_hidden.specs.Without.{state_without}
use Rattle.registry_laws_hidden.proofs.LeftFacts.{IsLeft, answers_alike, fault_leaves, left_next, left_rests, left_start, next_alike, rest_stays, same_rest}

-- two registries that legal histories left, and that agree in all but the package
pub record AreNear (p : Text) (S T : State) : Type 0 where
  pub left : IsLeft S
  pub other_left : IsLeft T
  pub same : state_without S p ≡ state_without T p

pub near_start : (g h : List Entry) (p : Text) → DifferInPackage g h p → AreNear p (after g) (after h)
near_start g h p differ = record { left = left_start g differ.legal; other_left = left_start h differ.other_legal; same = same_rest g h p differ }

module _ (p : Text) where
  -- so are they after a request in one of them that leaves the rest as it was
  pub near_first : (S T : State) (r : Request) (o : Outcome) → AreNear p S T → IsAnswer S r o → leaves_the_rest r o p ≡ true → AreNear p (next S r o) T
  near_first S T r o near answered leaves = record { left = left_next S r o near.left answered; other_left = near.other_left; same = rest_stays S p r o leaves ∙ near.same }

  pub near_second : (S T : State) (r : Request) (q : Outcome) → AreNear p S T → IsAnswer T r q → leaves_the_rest r q p ≡ true → AreNear p S (next T r q)
  near_second S T r q near answered leaves = record { left = near.left; other_left = left_next T r q near.other_left answered; same = near.same ∙ sym (rest_stays T p r q leaves) }

  near_fault : (S T : State) (r : Request) (o q : Outcome) → AreNear p S T → IsAnswer S r o → IsAnswer T r q → leaves_the_rest r o p ≡ true → leaves_the_rest r q p ≡ true → AreNear p (next S r o) (next T r q)
  near_fault S T r o q near answered answered' leaves leaves' = near_second (next S r o) T r q (near_first S T r o near answered leaves) answered' leaves'

  -- and after a request in both that keeps them close
  pub near_both : (S T : State) (r : Request) (o q : Outcome) → AreNear p S T → IsAnswer S r o → IsAnswer T r q → StaysClose p S T r o q → AreNear p (next S r o) (next T r q)
  near_both S T r (Ok a) (Ok b) near answered answered' held =
      record { left = left_next S r (Ok a) near.left answered; other_left = left_next T r (Ok b) near.other_left answered'; same = next_alike S T p near.same r a b answered answered' held }
  near_both S T r (Ok a) (Err g) near answered answered' leaves = near_fault S T r (Ok a) (Err g) near answered answered' leaves (fault_leaves r g p)
  near_both S T r (Err f) (Ok b) near answered answered' leaves = near_fault S T r (Err f) (Ok b) near answered answered' (fault_leaves r f p) leaves
  near_both S T r (Err f) (Err g) near answered answered' close = near_fault S T r (Err f) (Err g) near answered answered' (fault_leaves r f p) (fault_leaves r g p)

  pub answered_alike : (S T : State) (r : Request) (o q : Outcome) → AreNear p S T → IsAnswer S r o → IsAnswer T r q → IsAnsweredAlike p S T r o q
  answered_alike S T r (Ok a) (Ok b) near answered answered' = λ stranger stranger' one.
      answered ∙ answers_alike S T p near.same (left_rests S near.left) (left_rests T near.other_left) r stranger stranger' one ∙ sym answered'
  answered_alike S T r (Ok a) (Err g) near answered answered' = tt
  answered_alike S T r (Err f) (Ok b) near answered answered' = tt
  answered_alike S T r (Err f) (Err g) near answered answered' = tt

  alike : (xs : List Arrival) (S T : State) → AreNear p S T → HaveOutcomes S (first_requests xs) (first_outcomes xs) → HaveOutcomes T (second_requests xs) (second_outcomes xs) → DifferIn p xs → AreAlike p S T xs
  alike [] S T near first second apart = tt
  alike (in_both r o q ∷ xs) S T near first second apart = (
    answered_alike S T r o q near first.0 second.0,
    λ close. alike xs (next S r o) (next T r q) (near_both S T r o q near first.0 second.0 close) first.1 second.1 apart,
  )
  alike (in_first r o ∷ xs) S T near first second apart = alike xs (next S r o) T (near_first S T r o near first.0 apart.0) first.1 second apart.1
  alike (in_second r q ∷ xs) S T near first second apart = alike xs S (next T r q) (near_second S T r q near second.0 apart.0) first second.1 apart.1

pub strangers_see_the_same : StrangersSeeTheSame
strangers_see_the_same g h p differ xs runs = alike p xs (after g) (after h) (near_start g h p differ) runs.first runs.second runs.apart
