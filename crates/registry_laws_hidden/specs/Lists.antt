-- Two runs whose requests are one list once the accepted commands that name a package are dropped
-- from both.
use Rattle.std.specs.Prelude.{◌≡◌, Bool, true, false, ◌&&◌, List, [], ◌∷◌, if◌then◌else◌}
use Rattle.registry_names.specs.Texts.{Text}
use Rattle.registry_rules.specs.Actions.{names_package}
use Rattle.registry_rules.specs.State.{State}
use Rattle.registry_rules.specs.declared.request.Request.{Request}
use Rattle.registry_laws_history.specs.History.{Entry, after}
use Rattle.registry_laws_history.specs.Runs.{Outcome, HaveOutcomes, enters, next}
use Rattle.registry_laws_hidden.specs.Arrivals.{Arrival, AreRuns, IsAnsweredAlike, StaysClose, first_outcomes, first_requests, in_both, in_first, in_second, second_outcomes, second_requests}
use Rattle.registry_laws_hidden.specs.Runs.{DifferInPackage}

-- whether it is a command that names the package, and was accepted: a query never is
abbrev pub is_dropped : Request → Outcome → Text → Bool
is_dropped r o p = names_package r.what p && enters r o

-- the requests of a run, except those
abbrev pub except_accepted : Text → List Request → List Outcome → List Request
except_accepted p (r ∷ rs) (o ∷ os) = if is_dropped r o p then except_accepted p rs os else r ∷ except_accepted p rs os
except_accepted p _ _ = []

-- ---- what strangers see

-- a request of a run, the state that it met, and its outcome
pub record Exchange : Type 0 where
  pub met : State
  pub request : Request
  pub outcome : Outcome

-- those of a run from this state, except what is dropped
abbrev pub exchanges : Text → State → List Request → List Outcome → List Exchange
exchanges p S (r ∷ rs) (o ∷ os) = if is_dropped r o p then exchanges p (next S r o) rs os
    else record { met = S; request = r; outcome = o } ∷ exchanges p (next S r o) rs os
exchanges p S _ _ = []

-- Side by side, they are of the same requests, and a caller who has no level on the package at that
-- point of both runs is answered alike, up to the first request after which the runs may differ in
-- more than the package
abbrev pub AreAnsweredAlike : Text → List Exchange → List Exchange → Type 0
AreAnsweredAlike p [] [] = Unit {0}
AreAnsweredAlike p (m ∷ ms) (n ∷ ns) = (m.request ≡ n.request) × IsAnsweredAlike p m.met n.met m.request m.outcome n.outcome
    × (StaysClose p m.met n.met m.request m.outcome n.outcome → AreAnsweredAlike p ms ns)
AreAnsweredAlike p _ _ = ⊥

-- Two runs, after legal histories that differ in what named the package, whose requests are one
-- list once the accepted commands that name the package are dropped from both
abbrev pub ListsAreAnsweredAlike : Type 0
ListsAreAnsweredAlike = (g h : List Entry) (p : Text) → DifferInPackage g h p → (rs qs : List Request) (os ps : List Outcome) → HaveOutcomes (after g) rs os → HaveOutcomes (after h) qs ps
    → except_accepted p rs os ≡ except_accepted p qs ps → AreAnsweredAlike p (exchanges p (after g) rs os) (exchanges p (after h) qs ps)

-- ---- their arrivals

-- the requests that arrive in both
abbrev pub both_requests : List Arrival → List Request
both_requests [] = []
both_requests (in_both r o q ∷ xs) = r ∷ both_requests xs
both_requests (in_first r o ∷ xs) = both_requests xs
both_requests (in_second r q ∷ xs) = both_requests xs

-- what arrives in both is dropped from neither, and what arrives in one alone is dropped from it
abbrev pub AreDropped : Text → List Arrival → Type 0
AreDropped p [] = Unit {0}
AreDropped p (in_both r o q ∷ xs) = (is_dropped r o p ≡ false) × (is_dropped r q p ≡ false) × AreDropped p xs
AreDropped p (in_first r o ∷ xs) = (is_dropped r o p ≡ true) × AreDropped p xs
AreDropped p (in_second r q ∷ xs) = (is_dropped r q p ≡ true) × AreDropped p xs

-- The arrivals are these two runs. Those in both are what is left, in its order, and those in one
-- alone are what was dropped
pub record HaveArrivals (S T : State) (p : Text) (rs : List Request) (os : List Outcome) (qs : List Request) (ps : List Outcome) : Type 0 where
  pub arrivals : List Arrival
  pub requests : first_requests arrivals ≡ rs
  pub outcomes : first_outcomes arrivals ≡ os
  pub other_requests : second_requests arrivals ≡ qs
  pub other_outcomes : second_outcomes arrivals ≡ ps
  pub runs : AreRuns S T p arrivals
  pub both : both_requests arrivals ≡ except_accepted p rs os
  pub dropped : AreDropped p arrivals

-- two runs whose requests are one list once these are dropped from both have arrivals
abbrev pub ListsHaveArrivals : Type 0
ListsHaveArrivals = (S T : State) (p : Text) (rs qs : List Request) (os ps : List Outcome) → HaveOutcomes S rs os → HaveOutcomes T qs ps
    → except_accepted p rs os ≡ except_accepted p qs ps → HaveArrivals S T p rs os qs ps
