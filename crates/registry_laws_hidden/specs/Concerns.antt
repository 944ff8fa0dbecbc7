-- Which requests show a package that their caller doesn't read.
use Rattle.std.specs.Prelude.{◌≡◌, ℕ, Bool, false, not, ◌&&◌, ◌||◌, List, [], ◌∷◌, map, is_none, is_some, Option, Some, None}
use Rattle.std.specs.List.{list_any}
use Rattle.registry_names.specs.Keys.{Pair}
use Rattle.registry_names.specs.Maps.{entries}
use Rattle.registry_names.specs.Names.{scope_of}
use Rattle.registry_names.specs.Texts.{Text, is}
use Rattle.registry_names.specs.Versions.{VersionParts}
use Rattle.registry_access.specs.Callers.{is_operator}
use Rattle.registry_access.specs.Positions.{scope_role}
use Rattle.registry_access.specs.declared.caller.Caller.{Caller}
use Rattle.registry_rules.specs.Callers.{caller_of}
use Rattle.registry_rules.specs.Refusals.{refusal_by}
use Rattle.registry_rules.specs.State.{State, Release, is_published}
use Rattle.registry_rules.specs.Withdrawals.{is_need_of, live_versions, needs_in, versions_in}
use Rattle.registry_rules.specs.declared.request.Action.{Action}
use Rattle.registry_rules.specs.declared.request.Action.TheVariants.{Publish, Withdraw, WithdrawAll, Packument, AbbreviatedPackument, RevisedPackument, VersionDoc, Archive, Tags, Maintainers, Packages}
use Rattle.registry_rules.specs.declared.request.Request.{Request}
use Rattle.registry_laws_hidden.specs.Without.{state_without}

-- the package that a query is about, if it is about one
abbrev pub queried_package : Action → Option Text
queried_package (Packument p) = Some p
queried_package (AbbreviatedPackument p) = Some p
queried_package (RevisedPackument p) = Some p
queried_package (VersionDoc p asked) = Some p
queried_package (Archive p v) = Some p
queried_package (Tags p) = Some p
queried_package (Maintainers p) = Some p
queried_package _ = None

-- whether a live version of this package needs the version of the other
abbrev pub is_needed_by : State → Text → Text → VersionParts → Bool
is_needed_by S p q v = list_any (λ (e : Pair × Release). is e.0.0 p && list_any (is_need_of q v) (needs_in e.1)) (entries S.live)

-- the versions that it withdraws, each with its package
abbrev pub versions_ended : State → Action → List (Text × VersionParts)
versions_ended S (Withdraw q v) = (q, v) ∷ []
versions_ended S (WithdrawAll q) = map (λ v. (q, v)) (versions_in (live_versions S q))
versions_ended S _ = []

-- Whether it withdraws a version of another package which this package alone keeps: a live version
-- of it needs the version, and nothing else refuses the withdrawal
abbrev pub is_kept_by : State → ℕ → Caller → Action → Text → Bool
is_kept_by S now who what p = list_any (λ (e : Text × VersionParts). not (is e.0 p) && is_needed_by S p e.0 e.1) (versions_ended S what)
    && is_none (refusal_by (state_without S p) now who what)

-- Whether a member of the package's scope publishes the package, whose name is taken
abbrev pub is_taken : State → Caller → Action → Text → Bool
is_taken S who (Publish f) p = is f.name p && (is_published S p && is_some (scope_role S.access who (scope_of p)))
is_taken S who _ p = false

-- Whether the operator asks for all packages, and it is one of them
abbrev pub is_listed : State → Caller → Action → Text → Bool
is_listed S who Packages p = is_operator who && is_published S p
is_listed S who _ p = false

-- whether its reply shows a caller a package that they don't read: these three, and no other
abbrev pub shows : State → ℕ → Caller → Action → Text → Bool
shows S now who what p = is_kept_by S now who what p || (is_taken S who what p || is_listed S who what p)

-- ---- of requests. One of nobody is refused, and shows nothing

abbrev pub keeps_from : State → ℕ → Option Caller → Action → Text → Bool
keeps_from S now None what p = false
keeps_from S now (Some who) what p = is_kept_by S now who what p

abbrev pub shows_to : State → ℕ → Option Caller → Action → Text → Bool
shows_to S now None what p = false
shows_to S now (Some who) what p = shows S now who what p

abbrev pub lists_to : State → Option Caller → Action → Text → Bool
lists_to S None what p = false
lists_to S (Some who) what p = is_listed S who what p

-- whether the request withdraws what this package alone keeps
abbrev pub is_held : State → Request → Text → Bool
is_held S r p = keeps_from S r.at (caller_of S r.who) r.what p

-- whether its reply shows the package
abbrev pub is_shown : State → Request → Text → Bool
is_shown S r p = shows_to S r.at (caller_of S r.who) r.what p

-- whether its reply is the list of all packages, with this one
abbrev pub is_enumerated : State → Request → Text → Bool
is_enumerated S r p = lists_to S (caller_of S r.who) r.what p

-- ---- of a request that is asked of two registries

-- It shows the package in both or in neither, and in none by the list of all packages, which says
-- more of a package than that it is there
pub record IsShownAlike (S T : State) (r : Request) (p : Text) : Type 0 where
  pub shown : is_shown S r p ≡ is_shown T r p
  pub first : is_enumerated S r p ≡ false
  pub second : is_enumerated T r p ≡ false
