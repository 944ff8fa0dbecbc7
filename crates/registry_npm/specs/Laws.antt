-- What holds of the dialect of npm's own requests: the laws that the functions of `src/laws.rt` ensure.
use Rattle.std.specs.Prelude.{◌≡◌, ◌++◌, ◌∷◌, ◌⊎◌, [], ℕ, Bool, true, false, List, Option, Some, None, Ok, Err}
use Rattle.registry_names.specs.Texts.{Text}
use Rattle.registry_names.specs.Versions.{VersionParts}
use Rattle.registry_names.specs.declared.refusal.Refusal.TheVariants.{NotFound}
use Rattle.registry_names.specs.declared.stop.Stop.{Stop}
use Rattle.registry_publish.specs.Form.{FormParts, IsFormOf}
use Rattle.registry_ranges.specs.Laws.{IsInForm}
use Rattle.registry_ranges.specs.Selectors.{Condition, set_selects}
use Rattle.registry_routes.specs.NpmRoutes.{NpmRoute, npm_route_of}
use Rattle.registry_routes.specs.Routes.{Values, route_of}
use Rattle.registry_routes.specs.Written.{text_of}
use Rattle.registry_routes.specs.declared.npm_endpoint.NpmEndpoint.{NpmEndpoint}
use Rattle.registry_routes.specs.declared.npm_endpoint.NpmEndpoint.TheVariants as by
use Rattle.registry_rules.specs.Actions.{is_command}
use Rattle.registry_rules.specs.declared.reply.Reply.TheVariants.{Refused}
use Rattle.registry_rules.specs.declared.request.Action.{Action}
use Rattle.registry_rules.specs.declared.request.Action.TheVariants.{Archive, Deprecate, Publish, WhoAmI}
use Rattle.registry_rules.specs.declared.request.Credential.{Credential}
use Rattle.registry_rules.specs.declared.request.Credential.TheVariants.{Anonymous}
use Rattle.registry_service.specs.Bodies.{reads_file}
use Rattle.registry_service.specs.Callers.{reads_caller}
use Rattle.registry_service.specs.HttpAnswers.{Outcome}
use Rattle.registry_service.specs.Readings.{one, reads_name}
use Rattle.registry_service.specs.Turns.{Dialect, Exchange, exchange, profile, stopped}
use Rattle.registry_wire.specs.declared.wanted.Wanted.{Wanted}
use Rattle.registry_npm.specs.Bodies.{begins_object}
use Rattle.registry_npm.specs.Leading.{is_stop, request}
use Rattle.registry_npm.specs.Npm.{is_npms, npm}
use Rattle.registry_npm.specs.Packages.{is_gone}

-- ---- which requests are npm's own

abbrev pub is_npms_by : Option NpmRoute → Text → Bool
is_npms_by None body = false
is_npms_by (Some r) body = is_npms r.endpoint body

-- the request is npm's own
abbrev pub is_npm : Wanted → Bool
is_npm w = is_npms_by (npm_route_of w.method w.target) w.body

-- any other request means what it means without npm's routes
abbrev pub OthersStay : Type 0
OthersStay = (w : Wanted) (at : ℕ) (es : List Exchange) (o : Outcome) → is_npm w ≡ false → (npm.asks w at es o → profile.asks w at es o) × (profile.asks w at es o → npm.asks w at es o)

-- a packument is read, or a package put
abbrev pub is_package : NpmEndpoint → Bool
is_package by.Packument = true
is_package by.Document = true
is_package _ = false

abbrev pub is_of_package : Option NpmRoute → Bool
is_of_package None = false
is_of_package (Some r) = is_package r.endpoint

-- A request of npm's own reads a packument or puts a package, or has no route without npm's, or has a
-- body that begins as an object does
abbrev pub NpmIsApart : Type 0
NpmIsApart = (w : Wanted) → is_npm w ≡ true → (is_of_package (npm_route_of w.method w.target) ≡ true) ⊎ (route_of w.method w.target ≡ None) ⊎ (begins_object w.body ≡ true)

-- ---- what is asked in a turn

-- the conditions select no version
abbrev pub SelectNothing : List (List Condition) → Type 0
SelectNothing conditions = (v : VersionParts) → IsInForm v → set_selects v conditions ≡ false

-- a deprecation of no version
abbrev pub ChangesNothing : Action → Type 0
ChangesNothing (Deprecate p conditions message) = SelectNothing conditions
ChangesNothing _ = ⊥

-- it can't change the registry: a query, or a deprecation of no version
abbrev pub IsHarmless : Exchange → Type 0
IsHarmless e = (is_command e.asked.what ≡ false) ⊎ ChangesNothing e.asked.what

abbrev pub AreHarmless : List Exchange → Type 0
AreHarmless [] = Unit {0}
AreHarmless (e ∷ es) = IsHarmless e × AreHarmless es

-- This is asked last, and nothing that was asked before it can change the registry. Unless it is refused
-- or fails, the answer is neither
pub record ComesLast (es : List Exchange) (o : Outcome) : Type 0 where
  pub before : List Exchange
  pub last : Exchange
  pub are_harmless : AreHarmless before
  pub asked : es ≡ before ++ last ∷ []
  pub done : is_stop last.outcome ≡ false → is_stop o ≡ false

-- A turn asks for nothing that can change the registry, or for one such thing, which comes last. So an
-- error says that nothing was done, unless a fault of that command left open whether it was
abbrev pub CommandComesLast : Dialect → Type 0
CommandComesLast speaks = (w : Wanted) (at : ℕ) (es : List Exchange) (o : Outcome) → speaks.asks w at es o → AreHarmless es ⊎ ComesLast es o

-- after a fault nothing more is asked, and it is the answer
abbrev pub StopsAtFault : Outcome → List Exchange → Outcome → Type 0
StopsAtFault (Ok reply) es o = Unit {0}
StopsAtFault (Err fault) es o = (es ≡ []) × (o ≡ Err fault)

abbrev pub StopAtFaults : List Exchange → Outcome → Type 0
StopAtFaults [] o = Unit {0}
StopAtFaults (e ∷ es) o = StopsAtFault e.outcome es o × StopAtFaults es o

-- a fault of what is asked ends a turn, which answers it
abbrev pub FaultsEnd : Dialect → Type 0
FaultsEnd speaks = (w : Wanted) (at : ℕ) (es : List Exchange) (o : Outcome) → speaks.asks w at es o → StopAtFaults es o

-- ---- what npm takes for success

abbrev pub is_file_drop : NpmEndpoint → Bool
is_file_drop by.FileDrop = true
is_file_drop by.ScopedFileDrop = true
is_file_drop _ = false

-- the path names the archive's file of this version of the package
abbrev pub NamesFile : NpmEndpoint → Values → Text → VersionParts → Type 0
NamesFile by.FileDrop v p version = one reads_name v (Ok p) × reads_file p v.second (Ok version)
NamesFile by.ScopedFileDrop v p version = one reads_name v (Ok p) × reads_file p v.third (Ok version)
NamesFile _ v p version = ⊥

-- nothing was asked but for the archive of this version, for the caller, and it wasn't found
abbrev pub IsGone : Wanted → ℕ → Text → VersionParts → List Exchange → Type 0
IsGone w at p version es = (who : Credential) × reads_caller w.authorization (Ok who) × (es ≡ exchange (request at who (Archive p version)) (Ok (Refused NotFound)) ∷ [])

-- Where the deletion of an archive's file is answered by NotFound, the path names the file of no version
-- of the package, or the registry doesn't find the version whose file it names, for who calls
abbrev pub FilesAreGone : Type 0
FilesAreGone = (w : Wanted) (at : ℕ) (es : List Exchange) (r : NpmRoute) → npm_route_of w.method w.target ≡ Some r → is_file_drop r.endpoint ≡ true
    → npm.asks w at es (Ok (Refused NotFound)) → ((p : Text) (version : VersionParts) → ¬ (NamesFile r.endpoint r.values p version))
    ⊎ ((p : Text) × (version : VersionParts) × NamesFile r.endpoint r.values p version × IsGone w at p version es)

-- a document or a whole withdrawal under a revision
abbrev pub is_revised : NpmEndpoint → Bool
is_revised by.Revised = true
is_revised by.Unpublish = true
is_revised _ = false

-- what is sent under a revision is never answered by 404, which npm takes for success
abbrev pub NeverNotFound : Type 0
NeverNotFound = (w : Wanted) (at : ℕ) (es : List Exchange) (o : Outcome) (r : NpmRoute) → npm_route_of w.method w.target ≡ Some r → is_revised r.endpoint ≡ true
    → npm.asks w at es o → is_gone o ≡ false

-- ---- on whose behalf

-- it is asked at the moment of the request, by its caller or by nobody
abbrev pub IsAskedFor : Wanted → ℕ → Exchange → Type 0
IsAskedFor w at e = (e.asked.at ≡ at) × (reads_caller w.authorization (Ok e.asked.who) ⊎ (e.asked.who ≡ Anonymous))

abbrev pub AreAskedFor : Wanted → ℕ → List Exchange → Type 0
AreAskedFor w at [] = Unit {0}
AreAskedFor w at (e ∷ es) = IsAskedFor w at e × AreAskedFor w at es

-- whatever is asked is asked for the caller of the request, or for nobody
abbrev pub AsksForCaller : Dialect → Type 0
AsksForCaller speaks = (w : Wanted) (at : ℕ) (es : List Exchange) (o : Outcome) → speaks.asks w at es o → AreAskedFor w at es

-- ---- strangers

-- by these routes a body is read
abbrev pub has_body : NpmEndpoint → Bool
has_body by.Document = true
has_body by.Revised = true
has_body by.SetAccess = true
has_body by.OrgSet = true
has_body by.OrgRemove = true
has_body by.TeamCreate = true
has_body by.TeamAdd = true
has_body by.TeamRemove = true
has_body by.Grant = true
has_body by.Revoke = true
has_body _ = false

-- what is answered where the registry says this of who calls
abbrev pub TurnsAway : Outcome → List Exchange → Outcome → Type 0
TurnsAway caller es o = (es ≡ []) × (is_stop o ≡ true) × (is_gone caller ≡ false → o ≡ caller)

-- Who calls is asked first, and who is no user is answered that, and asked for nothing else. Who shows no
-- token in form is answered at once
abbrev pub AsksWhoFirst : Wanted → ℕ → List Exchange → Outcome → Type 0
AsksWhoFirst w at es o = ((s : Stop) × reads_caller w.authorization (Err s) × (es ≡ []) × (o ≡ stopped s))
    ⊎ ((who : Credential) × (caller : Outcome) × (later : List Exchange) × reads_caller w.authorization (Ok who) × (es ≡ exchange (request at who WhoAmI) caller ∷ later) × (is_stop caller ≡ true → TurnsAway caller later o))

-- a publication in form of the package that the path names is asked for at once, for the caller
abbrev pub PublishesAtOnce : NpmRoute → Wanted → ℕ → List Exchange → Outcome → Type 0
PublishesAtOnce r w at es o = (r.endpoint ≡ by.Document) × ((who : Credential) × (form : FormParts) × reads_caller w.authorization (Ok who) × IsFormOf w.body form × (form.name ≡ text_of r.values.first) × (es ≡ exchange (request at who (Publish form)) o ∷ []))

-- What is read of a body is read for users: nobody else is told anything of it. Only a publication in form
-- of a package may be asked for at once, where packages are put
abbrev pub BodiesAreOfUsers : Type 0
BodiesAreOfUsers = (w : Wanted) (at : ℕ) (es : List Exchange) (o : Outcome) (r : NpmRoute) → npm_route_of w.method w.target ≡ Some r → has_body r.endpoint ≡ true
    → is_npms r.endpoint w.body ≡ true → npm.asks w at es o → AsksWhoFirst w at es o ⊎ PublishesAtOnce r w at es o
