-- What a turn on one of npm's documents may change.
use Rattle.std.specs.Prelude.{⊤, ◌≡◌, ◌≢◌, ◌⊎◌, ◌++◌, ◌∷◌, [], ℕ, true, false, is_some, List, Option, Some, None, Ok}
use Rattle.serde_json.specs.Data.{Data, Members}
use Rattle.serde_json.specs.Read.{read}
use Rattle.registry_documents.specs.Differences.{besides, repeats_owners, says_no_other}
use Rattle.registry_documents.specs.Documents.{IsDocumentOf, is_of, kind_of, names_in as maintainers_in, versions_in}
use Rattle.registry_documents.specs.Judging.{asked_in}
use Rattle.registry_documents.specs.Laws.{IsDeprecation, IsWithdrawal}
use Rattle.registry_documents.specs.declared.asked.Asked.TheVariants.{AlreadySo}
use Rattle.registry_documents.specs.declared.document.Kind.TheVariants.{Publication}
use Rattle.registry_names.specs.Names.{scope_of}
use Rattle.registry_names.specs.Texts.{Text}
use Rattle.registry_names.specs.Versions.{text_of_version}
use Rattle.registry_ranges.specs.Selectors.{Condition, HasConditions}
use Rattle.registry_routes.specs.NpmRoutes.{NpmRoute, npm_route_of}
use Rattle.registry_routes.specs.Routes.{Values}
use Rattle.registry_routes.specs.Written.{text_of}
use Rattle.registry_routes.specs.declared.npm_endpoint.NpmEndpoint.{NpmEndpoint}
use Rattle.registry_routes.specs.declared.npm_endpoint.NpmEndpoint.TheVariants as by
use Rattle.registry_rules.specs.declared.reply.Reply.TheVariants.{Doc}
use Rattle.registry_rules.specs.declared.request.Action.{Action}
use Rattle.registry_rules.specs.declared.request.Action.TheVariants.{Deprecate, Maintainers, OwnerAdd, OwnerRemove, Packument, WhoAmI, Withdraw}
use Rattle.registry_rules.specs.declared.request.Credential.{Credential}
use Rattle.registry_service.specs.Callers.{reads_caller}
use Rattle.registry_service.specs.HttpAnswers.{Outcome}
use Rattle.registry_service.specs.Readings.{one, reads_name}
use Rattle.registry_service.specs.Turns.{Exchange, exchange}
use Rattle.registry_wire.specs.declared.wanted.Wanted.{Wanted}
use Rattle.registry_npm.specs.Forms.{names_in}
use Rattle.registry_npm.specs.Laws.{AreHarmless, SelectNothing}
use Rattle.registry_npm.specs.Leading.{is_stop, request}
use Rattle.registry_npm.specs.Npm.{npm}
use Rattle.registry_npm.specs.Packages.{IsPublication}
use Rattle.registry_documents.specs.Revisions.{revision}

-- ---- what was sent, and what was read

-- A document under a revision, or one without, that brings no archive
abbrev pub IsSent : NpmEndpoint → Values → Text → Option Text → Data → Type 0
IsSent by.Revised v body path d = IsDocumentOf body d × (path ≡ Some (text_of v.second))
IsSent by.Document v body path d = IsDocumentOf body d × (kind_of d ≢ Publication) × (path ≡ None)
IsSent _ v body path d = ⊥

-- the maintainers that were asked for. A package with a scope has none, and isn't asked
abbrev pub AreNamed : ℕ → Credential → Text → List Text → List Exchange → Type 0
AreNamed at who p names es = ((is_some (scope_of p) ≡ true) × (names ≡ []) × (es ≡ []))
    ⊎ ((text : Text) × (is_some (scope_of p) ≡ false) × (names_in text ≡ Some names) × (es ≡ exchange (request at who (Maintainers p)) (Ok (Doc text)) ∷ []))

-- Who the caller is, whether they may write the package, what its packument is, and who maintains it, were
-- asked for, in this order. The trial of the right was a deprecation of no version, and came to this
pub record AreRead (at : ℕ) (who : Credential) (p text : Text) (names : List Text) (tried : Outcome) (es : List Exchange) : Type 0 where
  pub caller : Outcome
  pub selector : List (List Condition)
  pub message : Text
  pub selects_nothing : SelectNothing selector
  pub is_writer : is_stop tried ≡ false
  pub named : List Exchange
  pub are_named : AreNamed at who p names named
  pub asked : es ≡ exchange (request at who WhoAmI) caller ∷ exchange (request at who (Deprecate p selector message)) tried ∷ exchange (request at who (Packument p)) (Ok (Doc text)) ∷ named

-- ---- the one thing

module _ (d m : Data) (names : List Text) where
  -- beside the revision and maintainers the document says nothing but what is there, and these are its
  -- maintainers
  abbrev pub SaysMaintainers : List Text → Type 0
  SaysMaintainers owners = (says_no_other d m ≡ true) × (maintainers_in d ≡ Some owners)

  -- these are the versions that are there, and the maintainers whom the document says
  abbrev pub AreCompared : Members → List Text → Type 0
  AreCompared vs owners = (versions_in m ≡ Some vs) × (maintainers_in d ≡ Some owners)

  -- A command makes what a document d says, where the packument m and these maintainers are there: a
  -- message for the versions that have another one, the withdrawal of the version that is missing, or
  -- the maintainer who is more or less. Nothing else differs
  abbrev pub Makes : Action → Type 0
  Makes (Deprecate p conditions message) = (vs : Members) × (owners : List Text) × (selector : Text) × AreCompared vs owners × HasConditions selector conditions × IsDeprecation d m vs names owners selector message
  Makes (Withdraw p v) = (vs : Members) × (owners : List Text) × AreCompared vs owners × IsWithdrawal d m vs names owners (text_of_version v)
  Makes (OwnerAdd p u) = (owners : List Text) × SaysMaintainers owners × (besides names owners ≡ u ∷ []) × (besides owners names ≡ [])
  Makes (OwnerRemove p u) = (owners : List Text) × SaysMaintainers owners × (besides names owners ≡ []) × (besides owners names ≡ u ∷ [])
  Makes _ = ⊥

-- of the package p
abbrev pub IsAbout : Text → Action → Type 0
IsAbout p (Deprecate q conditions message) = q ≡ p
IsAbout p (Withdraw q v) = q ≡ p
IsAbout p (OwnerAdd q u) = q ≡ p
IsAbout p (OwnerRemove q u) = q ≡ p
IsAbout p _ = ⊥

-- an outcome is answered as it is, unless it is a refusal or a fault: then so is the answer
abbrev pub Answers : Outcome → Outcome → Type 0
Answers c o = (is_stop c ≡ false → o ≡ c) × (is_stop c ≡ true → is_stop o ≡ true)

-- the document is refused, and nothing was asked that can change the registry
abbrev pub IsRefused : List Exchange → Outcome → Type 0
IsRefused es o = AreHarmless es × (is_stop o ≡ true)

-- the document differs in nothing from the packument and the maintainers, or says nothing but these
abbrev pub IsSo : Data → Text → List Text → Type 0
IsSo d text names = ((m : Data) × (read text ≡ Some m) × (asked_in d m names ≡ Some AlreadySo)) ⊎ (repeats_owners d names ≡ true)

-- The document says what was read in the turn. Only that was asked, for a caller who may write the package,
-- and the trial of their right is the answer
pub record SaysWhatIsThere (w : Wanted) (d : Data) (p : Text) (at : ℕ) (es : List Exchange) (o : Outcome) : Type 0 where
  pub who : Credential
  pub is_caller : reads_caller w.authorization (Ok who)
  pub text : Text
  pub names : List Text
  pub are_read : AreRead at who p text names o es
  pub is_so : IsSo d text names

-- The last that a turn asks is a command of its caller, for the one thing in which a document of the present
-- revision differs from what was read in that turn, and its outcome is the answer
pub record ChangesOneThing (w : Wanted) (path : Option Text) (d : Data) (p : Text) (at : ℕ) (es : List Exchange) (o : Outcome) : Type 0 where
  pub who : Credential
  pub is_caller : reads_caller w.authorization (Ok who)
  pub text : Text
  pub names : List Text
  pub packument : Data
  pub is_packument : read text ≡ Some packument
  pub tried : Outcome
  pub what : Action
  pub outcome : Outcome
  pub reads : List Exchange
  pub are_read : AreRead at who p text names tried reads
  pub asked : es ≡ reads ++ exchange (request at who what) outcome ∷ []
  pub is_about : IsAbout p what
  pub is_present : is_of (revision text names) path d ≡ true
  pub makes : Makes d packument names what
  pub answers : Answers outcome o

-- A document is refused and changes nothing, or it says what is there, or a turn on it asks for the one thing
-- in which it differs from what was read in that turn
abbrev pub DocumentsChangeOneThing : Type 0
DocumentsChangeOneThing = (w : Wanted) (at : ℕ) (es : List Exchange) (o : Outcome) (r : NpmRoute) (path : Option Text) (d : Data) (p : Text)
    → npm_route_of w.method w.target ≡ Some r → IsSent r.endpoint r.values w.body path d → one reads_name r.values (Ok p)
    → npm.asks w at es o → IsRefused es o ⊎ SaysWhatIsThere w d p at es o ⊎ ChangesOneThing w path d p at es o

-- ---- for whom it is read

-- a document or a withdrawal under a revision, or a body that is no publication
abbrev pub IsNoPublication : NpmEndpoint → Text → Type 0
IsNoPublication by.Revised body = ⊤
IsNoPublication by.Unpublish body = ⊤
IsNoPublication by.Document body = ¬ (IsPublication body)
IsNoPublication _ body = ⊥

-- Their right to write the package is tried by a deprecation of no version. Where it is refused or fails,
-- nothing more is asked
abbrev pub TriesRight : ℕ → Credential → Text → List Exchange → Type 0
TriesRight at who p [] = ⊤
TriesRight at who p (e ∷ es) = (selector : List (List Condition)) × (message : Text) × SelectNothing selector × (e.asked ≡ request at who (Deprecate p selector message)) × (is_stop e.outcome ≡ true → es ≡ [])

-- who calls is asked first, and then whether they may write the package
abbrev pub AsksOfWriter : ℕ → Text → List Exchange → Type 0
AsksOfWriter at p [] = ⊤
AsksOfWriter at p (e ∷ es) = (who : Credential) × (e.asked ≡ request at who WhoAmI) × TriesRight at who p es

-- Whatever the answer is: for a document or a withdrawal, what there is of a package is asked only of who may write it
abbrev pub PackumentsAreOfWriters : Type 0
PackumentsAreOfWriters = (w : Wanted) (at : ℕ) (es : List Exchange) (o : Outcome) (r : NpmRoute) → npm_route_of w.method w.target ≡ Some r → IsNoPublication r.endpoint w.body
    → npm.asks w at es o → AsksOfWriter at (text_of r.values.first) es
