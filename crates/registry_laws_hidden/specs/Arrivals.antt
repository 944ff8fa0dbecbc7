-- Two runs in which many callers take turns, and which differ in requests on one package: what
-- arrives in both, and what arrives in one of them alone.
use Rattle.std.specs.Prelude.{◌≡◌, Bool, true, not, ◌||◌, List, [], ◌∷◌, Ok, Err}
use Rattle.registry_names.specs.Texts.{Text}
use Rattle.registry_rules.specs.Actions.{names_package}
use Rattle.registry_rules.specs.State.{State}
use Rattle.registry_rules.specs.declared.request.Request.{Request}
use Rattle.registry_laws_history.specs.History.{Entry, after}
use Rattle.registry_laws_history.specs.Runs.{Outcome, HaveOutcomes, enters, next}
use Rattle.registry_laws_hidden.specs.Concerns.{IsShownAlike, is_held}
use Rattle.registry_laws_hidden.specs.Levels.{IsStranger}
use Rattle.registry_laws_hidden.specs.Runs.{DifferInPackage}

-- a request of anybody at any moment, with its outcome in each run that it arrives in
pub data Arrival : Type 0 where
  in_both : Request → Outcome → Outcome → Arrival
  in_first : Request → Outcome → Arrival
  in_second : Request → Outcome → Arrival

-- ---- the two runs

abbrev pub first_requests : List Arrival → List Request
first_requests [] = []
first_requests (in_both r o q ∷ xs) = r ∷ first_requests xs
first_requests (in_first r o ∷ xs) = r ∷ first_requests xs
first_requests (in_second r q ∷ xs) = first_requests xs

abbrev pub first_outcomes : List Arrival → List Outcome
first_outcomes [] = []
first_outcomes (in_both r o q ∷ xs) = o ∷ first_outcomes xs
first_outcomes (in_first r o ∷ xs) = o ∷ first_outcomes xs
first_outcomes (in_second r q ∷ xs) = first_outcomes xs

abbrev pub second_requests : List Arrival → List Request
second_requests [] = []
second_requests (in_both r o q ∷ xs) = r ∷ second_requests xs
second_requests (in_first r o ∷ xs) = second_requests xs
second_requests (in_second r q ∷ xs) = r ∷ second_requests xs

abbrev pub second_outcomes : List Arrival → List Outcome
second_outcomes [] = []
second_outcomes (in_both r o q ∷ xs) = q ∷ second_outcomes xs
second_outcomes (in_first r o ∷ xs) = second_outcomes xs
second_outcomes (in_second r q ∷ xs) = q ∷ second_outcomes xs

-- it is a command that names the package, or it became no entry: it was a query, refused, or met a
-- fault
abbrev pub leaves_the_rest : Request → Outcome → Text → Bool
leaves_the_rest r o p = names_package r.what p || not (enters r o)

-- what arrives in one run alone leaves the rest
abbrev pub DifferIn : Text → List Arrival → Type 0
DifferIn p [] = Unit {0}
DifferIn p (in_both r o q ∷ xs) = DifferIn p xs
DifferIn p (in_first r o ∷ xs) = (leaves_the_rest r o p ≡ true) × DifferIn p xs
DifferIn p (in_second r q ∷ xs) = (leaves_the_rest r q p ≡ true) × DifferIn p xs

-- from S and T the arrivals are two runs, which differ in requests on the package
pub record AreRuns (S T : State) (p : Text) (xs : List Arrival) : Type 0 where
  pub first : HaveOutcomes S (first_requests xs) (first_outcomes xs)
  pub second : HaveOutcomes T (second_requests xs) (second_outcomes xs)
  pub apart : DifferIn p xs

-- ---- what strangers see

-- A caller who has no level on the package when they ask, in both runs, or nobody, gets the same
-- reply in both, except where the request shows the package in only one of them, or is the
-- operator's for all packages. Nothing is said of faults
abbrev pub IsAnsweredAlike : Text → State → State → Request → Outcome → Outcome → Type 0
IsAnsweredAlike p S T r (Ok a) (Ok b) = IsStranger S r.who p → IsStranger T r.who p → IsShownAlike S T r p → a ≡ b
IsAnsweredAlike p S T r _ _ = Unit {0}

-- Whether a request of both leaves them the same in all but the package. It may not where the
-- package alone keeps it from being done in one of them, and where one of them has a fault, which
-- changes nothing, and in the other the request changes more than the package
abbrev pub StaysClose : Text → State → State → Request → Outcome → Outcome → Type 0
StaysClose p S T r (Ok a) (Ok b) = is_held S r p ≡ is_held T r p
StaysClose p S T r (Ok a) (Err g) = leaves_the_rest r (Ok a) p ≡ true
StaysClose p S T r (Err f) (Ok b) = leaves_the_rest r (Ok b) p ≡ true
StaysClose p S T r (Err f) (Err g) = Unit {0}

-- Each request of both is answered so, up to the first after which the runs may differ in more than
-- the package: from there nothing is said
abbrev pub AreAlike : Text → State → State → List Arrival → Type 0
AreAlike p S T [] = Unit {0}
AreAlike p S T (in_both r o q ∷ xs) = IsAnsweredAlike p S T r o q × (StaysClose p S T r o q → AreAlike p (next S r o) (next T r q) xs)
AreAlike p S T (in_first r o ∷ xs) = AreAlike p (next S r o) T xs
AreAlike p S T (in_second r q ∷ xs) = AreAlike p S (next T r q) xs

-- so after all legal histories that differ in what named the package
abbrev pub StrangersSeeTheSame : Type 0
StrangersSeeTheSame = (g h : List Entry) (p : Text) → DifferInPackage g h p → (xs : List Arrival) → AreRuns (after g) (after h) p xs → AreAlike p (after g) (after h) xs
