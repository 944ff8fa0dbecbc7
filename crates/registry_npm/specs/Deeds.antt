-- What npm may take for done: where the answer of a turn is no error, the turn did what its request names.
use Rattle.std.specs.Prelude.{◌≡◌, ◌⊎◌, ◌++◌, ◌∷◌, [], ℕ, Bool, true, false, codes, is_some, option_and_then, List, Option, Some, None, Ok}
use Rattle.serde_json.specs.Data.{Data}
use Rattle.serde_json.specs.Find.{get}
use Rattle.registry_access.specs.Spellings.{grant_named, role_named}
use Rattle.registry_documents.specs.Documents.{IsDocumentOf}
use Rattle.registry_documents.specs.Revisions.{revision}
use Rattle.registry_names.specs.Spellings.{status_named}
use Rattle.registry_names.specs.Texts.{Text}
use Rattle.registry_publish.specs.Form.{IsFormOf}
use Rattle.registry_publish.specs.Tokens.{digest_of}
use Rattle.registry_ranges.specs.Selectors.{Condition}
use Rattle.registry_routes.specs.Bodies.{IsJson}
use Rattle.registry_routes.specs.NpmRoutes.{NpmRoute, npm_route_of}
use Rattle.registry_routes.specs.Routes.{Values}
use Rattle.registry_routes.specs.Written.{text_of}
use Rattle.registry_routes.specs.declared.npm_endpoint.NpmEndpoint.{NpmEndpoint}
use Rattle.registry_routes.specs.declared.npm_endpoint.NpmEndpoint.TheVariants as by
use Rattle.registry_rules.specs.declared.reply.Reply.TheVariants.{Doc}
use Rattle.registry_rules.specs.declared.request.Action.{Action}
use Rattle.registry_rules.specs.declared.request.Action.TheVariants.{Deprecate, Grant, Maintainers, OrgRemove, OrgSet, Packument, Publish, Revoke, SetAccess, TeamAdd, TeamCreate, TeamRemove, TokenRemove, WhoAmI, WithdrawAll}
use Rattle.registry_rules.specs.declared.request.Credential.{Credential}
use Rattle.registry_service.specs.Callers.{reads_caller}
use Rattle.registry_service.specs.Dialects.{AreQueries}
use Rattle.registry_service.specs.HttpAnswers.{Outcome}
use Rattle.registry_service.specs.Turns.{Exchange, exchange}
use Rattle.registry_wire.specs.declared.wanted.Wanted.{Wanted}
use Rattle.registry_npm.specs.Bodies.{text_at}
use Rattle.registry_npm.specs.Changes.{AreRead, ChangesOneThing, SaysWhatIsThere}
use Rattle.registry_npm.specs.Laws.{AreHarmless, SelectNothing}
use Rattle.registry_npm.specs.Leading.{is_stop, request}
use Rattle.registry_npm.specs.Npm.{is_npms, npm}
use Rattle.registry_npm.specs.Packages.{is_gone}

-- ---- what a request names

-- the body is JSON, of which this holds
abbrev pub Says : Text → (Data → Type 0) → Type 0
Says body P = (d : Data) × IsJson body d × P d

-- the member of this name is a text, one of a few words, and stands for this
abbrev pub HasWord : {A : Type 0} → (Text → Option A) → Text → A → Data → Type 0
HasWord named key value d = option_and_then named (text_at key d) ≡ Some value

-- nothing is said of two-factor authentication
abbrev pub LeavesFactors : Data → Type 0
LeavesFactors d = is_some (get (codes "publish_requires_tfa") d) ≡ false

-- The path and the body name this command, and all that it is about
abbrev pub Names : NpmEndpoint → Values → Text → Action → Type 0
Names by.Document v body (Publish form) = (form.name ≡ text_of v.first) × IsFormOf body form
Names by.SetAccess v body (SetAccess p status) = (p ≡ text_of v.first) × Says body (λ d. LeavesFactors d × HasWord status_named (codes "access") status d)
Names by.OrgSet v body (OrgSet o u role) = (o ≡ text_of v.first) × Says body (λ d. (text_at (codes "user") d ≡ Some u) × HasWord role_named (codes "role") role d)
Names by.OrgRemove v body (OrgRemove o u) = (o ≡ text_of v.first) × Says body (λ d. text_at (codes "user") d ≡ Some u)
Names by.TeamCreate v body (TeamCreate o t) = (o ≡ text_of v.first) × Says body (λ d. text_at (codes "name") d ≡ Some t)
Names by.TeamAdd v body (TeamAdd o t u) = (o ≡ text_of v.first) × (t ≡ text_of v.second) × Says body (λ d. text_at (codes "user") d ≡ Some u)
Names by.TeamRemove v body (TeamRemove o t u) = (o ≡ text_of v.first) × (t ≡ text_of v.second) × Says body (λ d. text_at (codes "user") d ≡ Some u)
Names by.Grant v body (Grant o t p grant) = (o ≡ text_of v.first) × (t ≡ text_of v.second) × Says body (λ d. (text_at (codes "package") d ≡ Some p) × HasWord grant_named (codes "permissions") grant d)
Names by.Revoke v body (Revoke o t p) = (o ≡ text_of v.first) × (t ≡ text_of v.second) × Says body (λ d. text_at (codes "package") d ≡ Some p)
Names by.Logout v body (TokenRemove digest) = digest_of (text_of v.first) ≡ Some digest
Names _ v body what = ⊥

-- ---- what was done

-- The last that a turn asked is this command, for its caller and at its moment, and it was accepted. Nothing
-- that was asked before it can change the registry
pub record IsDeed (w : Wanted) (at : ℕ) (what : Action) (es : List Exchange) : Type 0 where
  pub who : Credential
  pub before : List Exchange
  pub outcome : Outcome
  pub is_caller : reads_caller w.authorization (Ok who)
  pub are_harmless : AreHarmless before
  pub asked : es ≡ before ++ exchange (request at who what) outcome ∷ []
  pub is_accepted : is_stop outcome ≡ false

-- the command that the request names was accepted
abbrev pub DoesWhatItNames : NpmEndpoint → Values → Wanted → ℕ → List Exchange → Type 0
DoesWhatItNames e v w at es = (what : Action) × Names e v w.body what × IsDeed w at what es

-- The body is a document, which says what is there; or the one thing in which it differs from what was read
-- was accepted
abbrev pub IsHeard : Option Text → Text → Wanted → ℕ → List Exchange → Outcome → Type 0
IsHeard path p w at es o = (d : Data) × IsDocumentOf w.body d × (SaysWhatIsThere w d p at es o ⊎ ((c : ChangesOneThing w path d p at es o) × (is_stop c.outcome ≡ false)))

-- All versions of this package were withdrawn last, under the revision of the packument and the maintainers
-- that were read in the turn
pub record WithdrawsAll (named p : Text) (w : Wanted) (at : ℕ) (es : List Exchange) : Type 0 where
  pub who : Credential
  pub text : Text
  pub names : List Text
  pub tried : Outcome
  pub outcome : Outcome
  pub reads : List Exchange
  pub is_caller : reads_caller w.authorization (Ok who)
  pub are_read : AreRead at who p text names tried reads
  pub is_present : named ≡ revision text names
  pub asked : es ≡ reads ++ exchange (request at who (WithdrawAll p)) outcome ∷ []
  pub is_accepted : is_stop outcome ≡ false

-- what wasn't found: the packument, or who maintains the package
abbrev pub IsMissing : ℕ → Credential → Text → Outcome → List Exchange → Type 0
IsMissing at who p missing es = (es ≡ exchange (request at who (Packument p)) missing ∷ [])
    ⊎ ((text : Text) × (es ≡ exchange (request at who (Packument p)) (Ok (Doc text)) ∷ exchange (request at who (Maintainers p)) missing ∷ []))

-- Who may write the package isn't shown it, since no version lives. So there is nothing to withdraw, and the
-- trial of their right is the answer
pub record HasNoVersion (p : Text) (w : Wanted) (at : ℕ) (es : List Exchange) (o : Outcome) : Type 0 where
  pub who : Credential
  pub caller : Outcome
  pub selector : List (List Condition)
  pub message : Text
  pub missing : Outcome
  pub later : List Exchange
  pub is_caller : reads_caller w.authorization (Ok who)
  pub selects_nothing : SelectNothing selector
  pub is_missing : is_gone missing ≡ true
  pub are_missing : IsMissing at who p missing later
  pub asked : es ≡ exchange (request at who WhoAmI) caller ∷ exchange (request at who (Deprecate p selector message)) o ∷ later

-- ---- all routes

-- by these routes npm only looks at something, and changes nothing
abbrev pub is_view : NpmEndpoint → Bool
is_view by.Packument = true
is_view by.Visibility = true
is_view by.Collaborators = true
is_view by.OrgPackages = true
is_view by.UserPackages = true
is_view by.Members = true
is_view by.Teams = true
is_view by.TeamMembers = true
is_view by.TeamPackages = true
is_view by.WhoAmI = true
is_view by.Profile = true
is_view by.User = true
is_view by.Ping = true
is_view _ = false

-- What a turn did that isn't answered by an error. The deletion of an archive's file is, and what isn't served:
-- they are no views, and name nothing
abbrev pub IsDone : NpmEndpoint → Values → Wanted → ℕ → List Exchange → Outcome → Type 0
IsDone by.Document v w at es o = DoesWhatItNames by.Document v w at es ⊎ IsHeard None (text_of v.first) w at es o
IsDone by.Revised v w at es o = IsHeard (Some (text_of v.second)) (text_of v.first) w at es o
IsDone by.Unpublish v w at es o = WithdrawsAll (text_of v.second) (text_of v.first) w at es ⊎ HasNoVersion (text_of v.first) w at es o
IsDone e v w at es o = ((is_view e ≡ true) × AreQueries es) ⊎ DoesWhatItNames e v w at es

-- Where a request of npm's own isn't answered by a refusal or a fault, it was done: the command that it names
-- was accepted, last of all that was asked; or nothing was to be done
abbrev pub DoneMeansDone : Type 0
DoneMeansDone = (w : Wanted) (at : ℕ) (es : List Exchange) (o : Outcome) (r : NpmRoute) → npm_route_of w.method w.target ≡ Some r → is_npms r.endpoint w.body ≡ true
    → npm.asks w at es o → is_stop o ≡ false → IsDone r.endpoint r.values w at es o
