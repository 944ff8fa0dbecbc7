-- Packages as npm reads them and sends them back: packuments, documents, and the withdrawal of all
-- versions.
use Rattle.std.specs.Prelude.{◌≡◌, ◌≢◌, ◌⊎◌, ◌∷◌, ◌==◌, ℕ, Bool, true, false, List, [], bytes_eq, codes, is_some, length, IsUtf8, Option, Some, None, Ok, Err}
use Rattle.serde_json.specs.Data.{Data}
use Rattle.registry_documents.specs.Documents.{IsDocumentOf, IsNoDocument, kind_of}
use Rattle.registry_documents.specs.Judging.{IsJudged, StopsJudging}
use Rattle.registry_documents.specs.Revisions.{revision}
use Rattle.registry_documents.specs.declared.asked.Asked.{Asked}
use Rattle.registry_documents.specs.declared.asked.Asked.TheVariants.{AlreadySo, Deprecation as Deprecates, Withdrawal, OwnerAdd as AddsOwner, OwnerRemove as RemovesOwner}
use Rattle.registry_documents.specs.declared.document.Kind.TheVariants.{Publication}
use Rattle.registry_names.specs.Faults.{IsMemoryOr}
use Rattle.registry_names.specs.Idents.{is_ident}
use Rattle.registry_names.specs.Messages.{is_message}
use Rattle.registry_names.specs.Names.{scope_of}
use Rattle.registry_names.specs.Texts.{Text}
use Rattle.registry_names.specs.Versions.{IsVersion, IsVersionOf, VersionParts}
use Rattle.registry_names.specs.Refusals.{refusal_status}
use Rattle.registry_names.specs.declared.refusal.Refusal.TheVariants.{BadBody, BadName, BadSelector, BadVersion, Stale}
use Rattle.registry_names.specs.declared.stop.Fault.TheVariants.{Database}
use Rattle.registry_names.specs.declared.stop.Stop.{Stop}
use Rattle.registry_names.specs.declared.stop.Stop.TheVariants.{Refused as Refuses}
use Rattle.registry_publish.specs.Form.{FormParts}
use Rattle.registry_ranges.specs.Selectors.{HasConditions, IsSelector}
use Rattle.registry_routes.specs.Routes.{Values}
use Rattle.registry_routes.specs.Written.{StopsDecoding, text_of}
use Rattle.registry_routes.specs.declared.body.Deprecation.{Deprecation}
use Rattle.registry_rules.specs.declared.reply.Reply.{Reply}
use Rattle.registry_rules.specs.declared.reply.Reply.TheVariants.{Refused}
use Rattle.registry_rules.specs.declared.request.Action.{Action}
use Rattle.registry_rules.specs.declared.request.Action.TheVariants.{AbbreviatedPackument, Deprecate, Maintainers, OwnerAdd, OwnerRemove, Packument, Publish, RevisedPackument, Withdraw, WithdrawAll}
use Rattle.registry_rules.specs.declared.request.Credential.{Credential}
use Rattle.registry_rules.specs.declared.request.Request.{Request}
use Rattle.registry_service.specs.Bodies.{reads_form}
use Rattle.registry_service.specs.HttpAnswers.{Outcome}
use Rattle.registry_service.specs.Readings.{Reading, one, reads_name}
use Rattle.registry_service.specs.Requests.{reads_request}
use Rattle.registry_service.specs.Turns.{exchange}
use Rattle.registry_wire.specs.MediaRanges.{accepts_abbreviated}
use Rattle.registry_wire.specs.declared.wanted.Wanted.{Wanted}
use Rattle.registry_npm.specs.Forms.{names_in}
use Rattle.registry_npm.specs.Leading.{Leads, asks, by_caller, by_user, document_of, either, ends, or_memory, is_stop, reading, request}

-- this is asked, unless no memory is left to ask it
abbrev pub tries : Request → (Outcome → Leads) → Leads
tries r next = or_memory (asks r next)

-- ---- what there is of a package

abbrev pub for_document : (Text → Leads) → Leads → Option Text → Leads
for_document next other None = other
for_document next other (Some text) = next text

abbrev pub for_names : (List Text → Leads) → Option (List Text) → Leads
for_names next None = ends (Err Database)
for_names next (Some names) = next names

-- a text of names
abbrev pub with_names : (List Text → Leads) → Text → Leads
with_names next text = or_memory (for_names next (names_in text))

-- the maintainers that the registry answers, or what follows of anything else
abbrev pub named_by : (Outcome → Leads) → (List Text → Leads) → Outcome → Leads
named_by other next o = for_document (with_names next) (other o) (document_of o)

-- the maintainers of a package. One with a scope has none
abbrev pub asks_names : Text → ℕ → Credential → (Outcome → Leads) → (List Text → Leads) → Leads
asks_names p at who other next = either (is_some (scope_of p)) (next []) (tries (request at who (Maintainers p)) (named_by other next))

abbrev pub shown_by : Text → ℕ → Credential → (Outcome → Leads) → (Text → List Text → Leads) → Outcome → Leads
shown_by p at who other next o = for_document (λ text. asks_names p at who other (next text)) (other o) (document_of o)

-- the packument, and the maintainers; or what follows of what is answered instead of one of them
abbrev pub asks_package : Text → ℕ → Credential → (Outcome → Leads) → (Text → List Text → Leads) → Leads
asks_package p at who other next = tries (request at who (Packument p)) (shown_by p at who other next)

-- ---- what npm takes for success

-- it is answered by 404
abbrev pub is_not_found : Reply → Bool
is_not_found (Refused r) = refusal_status r == 404
is_not_found _ = false

abbrev pub is_gone : Outcome → Bool
is_gone (Ok reply) = is_not_found reply
is_gone (Err fault) = false

-- NotFound is Stale
abbrev pub stale : Outcome → Leads
stale o = either (is_gone o) (ends (Ok (Refused Stale))) (ends o)

-- the outcome; but under a revision npm takes NotFound for success, so there it is Stale
abbrev pub late : Option Text → Outcome → Leads
late None o = ends o
late (Some named) o = stale o

-- a command, whose outcome is the answer
abbrev pub asks_late : Option Text → ℕ → Credential → Action → Leads
asks_late path at who what = asks (request at who what) (late path)

-- ---- documents

-- what a document of so many bytes asks for, where the packument and the maintainers are these
abbrev pub judges : Data → ℕ → Option Text → Text → List Text → Reading Asked
judges d size path text names (Ok asked) = IsJudged d size path text names (revision text names) (Ok asked)
judges d size path text names (Err stop) = StopsJudging d size path text names (revision text names) stop

abbrev pub reads_versions : Text → Text → Reading Deprecation
reads_versions selector message (Ok d) = (d.message ≡ message) × (is_message message ≡ true) × HasConditions selector d.selector
reads_versions selector message (Err stop) = IsMemoryOr BadBody (is_message message ≡ false) stop ⊎ ((stop ≡ Refuses BadSelector) × (is_message message ≡ true) × ¬ (IsSelector selector))

abbrev pub reads_withdrawn : Text → Reading VersionParts
reads_withdrawn text (Ok version) = IsVersionOf text version
reads_withdrawn text (Err stop) = IsMemoryOr BadVersion (¬ (IsVersion text)) stop

abbrev pub reads_owner : Text → Reading Text
reads_owner text (Ok name) = (name ≡ text) × (is_ident text ≡ true)
reads_owner text (Err stop) = IsMemoryOr BadName (is_ident text ≡ false) stop

abbrev pub deprecates : Option Text → Text → ℕ → Credential → Deprecation → Leads
deprecates path p at who d = asks_late path at who (Deprecate p d.selector d.message)

abbrev pub withdraws : Option Text → Text → ℕ → Credential → VersionParts → Leads
withdraws path p at who v = asks_late path at who (Withdraw p v)

-- the outcome; but where it is NotFound, the document names nobody: BadName
abbrev pub unless_nobody : Outcome → Leads
unless_nobody o = either (is_gone o) (ends (Ok (Refused BadName))) (ends o)

abbrev pub adds : Text → ℕ → Credential → Text → Leads
adds p at who u = asks (request at who (OwnerAdd p u)) unless_nobody

abbrev pub removes : Option Text → Text → ℕ → Credential → Text → Leads
removes path p at who u = asks_late path at who (OwnerRemove p u)

-- The one command that a document asks for, of who may write the package. One that says what is so
-- already asks for none, and comes to what the trial of that right came to. Without a revision in its path
-- it may ask for messages alone
abbrev pub does : Option Text → Text → ℕ → Credential → Outcome → Asked → Leads
does path p at who tried AlreadySo = ends tried
does path p at who tried (Deprecates selector message) = reading (reads_versions selector message) (deprecates path p at who)
does path p at who tried (Withdrawal version) = either (is_some path) (reading (reads_withdrawn version) (withdraws path p at who)) (ends (Ok (Refused BadBody)))
does path p at who tried (AddsOwner user) = either (is_some path) (reading (reads_owner user) (adds p at who)) (ends (Ok (Refused BadBody)))
does path p at who tried (RemovesOwner user) = either (is_some path) (reading (reads_owner user) (removes path p at who)) (ends (Ok (Refused BadBody)))

-- the document is judged by what there is, and what it asks for is asked
abbrev pub judged_by : Text → Option Text → Data → ℕ → ℕ → Credential → Outcome → Text → List Text → Leads
judged_by p path d size at who tried text names = or_memory (reading (judges d size path text names) (does path p at who tried))

-- ---- all versions

-- where the path names the present revision, all versions are withdrawn
abbrev pub unpublished_by : Text → Text → ℕ → Credential → Text → List Text → Leads
unpublished_by p named at who text names = or_memory (either (bytes_eq named (revision text names)) (asks_late (Some named) at who (WithdrawAll p)) (ends (Ok (Refused Stale))))

-- ---- what npm wants of a package

-- to have a document of so many bytes judged, under the revision that a path names, if it names one; or
-- to withdraw all versions, under the revision that a path names
pub data Purpose : Type 0 where
  judged : Option Text → Data → ℕ → Purpose
  withdrawn : Text → Purpose

-- the revision that the path names, if it names one
abbrev pub path_of : Purpose → Option Text
path_of (judged path d size) = path
path_of (withdrawn named) = Some named

-- What follows where the registry refuses to show the package to who may write it. Where no version is
-- found, there is nothing to withdraw, and the trial of the right came to what is answered
abbrev pub refused_of : Purpose → Outcome → Outcome → Leads
refused_of (judged path d size) tried o = late path o
refused_of (withdrawn named) tried o = either (is_gone o) (ends tried) (ends o)

-- anything else that isn't a document is a fault of the registry
abbrev pub other_of : Purpose → Outcome → Outcome → Leads
other_of purpose tried o = either (is_stop o) (refused_of purpose tried o) (ends (Err Database))

abbrev pub fulfils : Purpose → Text → ℕ → Credential → Outcome → Text → List Text → Leads
fulfils (judged path d size) p at who tried text names = judged_by p path d size at who tried text names
fulfils (withdrawn named) p at who tried text names = unpublished_by p named at who text names

-- what there is of the package is asked, and then the purpose is fulfilled
abbrev pub serves : Purpose → Text → ℕ → Credential → Outcome → Leads
serves purpose p at who tried = asks_package p at who (other_of purpose tried) (fulfils purpose p at who tried)

-- a selector that selects nothing, since no version is below 0.0.0-0
abbrev pub no_version : Text
no_version = codes "<0.0.0-0"

-- The right to write the package is tried: the message of no version is changed. Who hasn't the right is
-- answered what that comes to, and what there is of the package isn't asked for
abbrev pub tries_right : Option Text → Text → ℕ → Credential → (Outcome → Leads) → Leads
tries_right path p at who next = reading (reads_versions no_version []) (λ d. asks (request at who (Deprecate p d.selector d.message)) (λ o. either (is_stop o) (late path o) (next o)))

abbrev pub serves_writer : Purpose → Text → ℕ → Credential → Leads
serves_writer purpose p at who = or_memory (tries_right (path_of purpose) p at who (serves purpose p at who))

-- ---- the routes

-- the revision that a path names
abbrev pub reads_revision : Text → Reading Text
reads_revision written (Ok named) = (named ≡ text_of written) × IsUtf8 (text_of written)
reads_revision written (Err stop) = StopsDecoding written stop

abbrev pub reads_document : Text → Reading Data
reads_document body (Ok d) = IsDocumentOf body d
reads_document body (Err stop) = IsMemoryOr BadBody (IsNoDocument body) stop

-- what a package is put with: a publication of it, or a claim about what was read
pub data Put : Type 0 where
  published : FormParts → Put
  claimed : Data → Put

-- the body brings an archive, or says neither what it was made from nor versions
abbrev pub IsPublication : Text → Type 0
IsPublication body = (d : Data) × IsDocumentOf body d × (kind_of d ≡ Publication)

-- the body is no document, or a publication that isn't in form
abbrev pub StopsPut : Text → Text → Stop → Type 0
StopsPut p body stop = IsMemoryOr BadBody (IsNoDocument body) stop ⊎ (IsPublication body × reads_form p body (Err stop))

-- The body is a document: either one that publishes a version of this package, or a claim
abbrev pub reads_put : Text → Text → Reading Put
reads_put p body (Ok (published form)) = IsPublication body × reads_form p body (Ok form)
reads_put p body (Ok (claimed d)) = IsDocumentOf body d × (kind_of d ≢ Publication)
reads_put p body (Err stop) = StopsPut p body stop

-- a query of the caller, as the registry answers it
abbrev pub shows_answer : Action → Wanted → ℕ → Leads
shows_answer what w at = by_caller w (λ who. asks (request at who what) ends)

-- the abbreviated packument where the request accepts it, and otherwise the full one, with its
-- revision and the maintainers
abbrev pub shows_packument : Text → Wanted → ℕ → Leads
shows_packument p w at = either (accepts_abbreviated w.accept) (shows_answer (AbbreviatedPackument p) w at) (shows_answer (RevisedPackument p) w at)

abbrev pub leads_packument : Values → Wanted → ℕ → Leads
leads_packument v w at = reading (one reads_name v) (λ p. shows_packument p w at)

-- a document under this revision
abbrev pub claims_under : Text → Text → Text → ℕ → Credential → Leads
claims_under p named body at who = reading (reads_document body) (λ d. serves_writer (judged (Some named) d (length body)) p at who)

abbrev pub leads_claim : Values → Text → ℕ → Credential → Leads
leads_claim v body at who = reading (one reads_name v) (λ p. reading (reads_revision v.second) (λ named. claims_under p named body at who))

abbrev pub leads_revised : Values → Wanted → ℕ → Leads
leads_revised v w at = by_user stale w at (leads_claim v w.body at)

-- the withdrawal of all versions under this revision
abbrev pub leads_withdrawal : Values → ℕ → Credential → Leads
leads_withdrawal v at who = reading (one reads_name v) (λ p. reading (reads_revision v.second) (λ named. serves_writer (withdrawn named) p at who))

abbrev pub leads_unpublish : Values → Wanted → ℕ → Leads
leads_unpublish v w at = by_user stale w at (leads_withdrawal v at)

-- a publication, or a claim without a revision in its path
abbrev pub puts : Text → Text → ℕ → Credential → Put → Leads
puts p body at who (published form) = asks (request at who (Publish form)) ends
puts p body at who (claimed d) = serves_writer (judged None d (length body)) p at who

abbrev pub leads_put : Values → Text → ℕ → Credential → Leads
leads_put v body at who = reading (one reads_name v) (λ p. reading (reads_put p body) (puts p body at who))

-- the registry's own request that a body in form spells, asked at once
abbrev pub publishes : Wanted → ℕ → Leads
publishes w at es o = (r : Request) × reads_request w at (Ok r) × (es ≡ exchange r o ∷ [])

-- A package is put by a user. A publication in form may also be asked for at once, as by the registry's
-- own routes, since the registry knows who calls then: so are small ones that come together
abbrev pub leads_document : Values → Wanted → ℕ → Leads
leads_document v w at es o = publishes w at es o ⊎ by_user ends w at (leads_put v w.body at) es o
