-- Two runs of one caller's requests, while nobody else asks anything, after histories
-- that differ in what named a package.
use Rattle.std.specs.Prelude.{◌≡◌, List, ◌∷◌, Option, Some, None, Ok}
use Rattle.registry_names.specs.Texts.{Text}
use Rattle.registry_access.specs.Positions.{level_in}
use Rattle.registry_access.specs.declared.caller.Caller.{Caller}
use Rattle.registry_access.specs.declared.levels.Level.TheVariants.{Nothing}
use Rattle.registry_rules.specs.Callers.{caller_of}
use Rattle.registry_rules.specs.State.{State}
use Rattle.registry_rules.specs.declared.request.Request.{Request}
use Rattle.registry_laws_history.specs.History.{Entry, Legal, after}
use Rattle.registry_laws_history.specs.Runs.{Outcome, HaveOutcomes, next}
use Rattle.registry_laws_hidden.specs.Concerns.{IsShownAlike}
use Rattle.registry_laws_hidden.specs.Histories.{untouched}

-- two legal histories that are the same list once the entries that name the package are dropped
pub record DifferInPackage (g h : List Entry) (p : Text) : Type 0 where
  pub legal : Legal g
  pub other_legal : Legal h
  pub untouched : untouched g p ≡ untouched h p

-- the credential names the caller, by any token or name, or nobody
abbrev pub IsTheirs : Caller → Option Caller → Type 0
IsTheirs who None = Unit {0}
IsTheirs who (Some c) = c ≡ who

-- As long as the caller alone asks, with any credentials of theirs or of nobody, each request is
-- answered alike in both runs, up to the first fault in either, and up to the first request that
-- shows the package in one of them alone, or by the list of all packages
abbrev pub AreAlikeTo : Caller → Text → State → State → List Request → List Outcome → List Outcome → Type 0
AreAlikeTo who p S T (r ∷ rs) (Ok a ∷ os) (Ok b ∷ qs) = IsTheirs who (caller_of S r.who) → IsShownAlike S T r p
    → (a ≡ b) × AreAlikeTo who p (next S r (Ok a)) (next T r (Ok b)) rs os qs
AreAlikeTo who p S T _ _ _ = Unit {0}

-- a caller who has no level on the package after either history can't distinguish them
abbrev pub RunsAreAlike : Type 0
RunsAreAlike = (g h : List Entry) (p : Text) (who : Caller) → DifferInPackage g h p → level_in (after g).access who p ≡ Nothing → level_in (after h).access who p ≡ Nothing
    → (rs : List Request) (os qs : List Outcome) → HaveOutcomes (after g) rs os → HaveOutcomes (after h) rs qs → AreAlikeTo who p (after g) (after h) rs os qs
