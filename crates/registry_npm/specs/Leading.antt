-- What a request of HTTP leads to: exchanges with the registry, one after the other, and an outcome
-- in the end.
use Rattle.std.specs.Prelude.{◌≡◌, ◌⊎◌, ◌∷◌, [], ℕ, Bool, true, false, Option, Some, None, List, Ok, Err, unwrap_or}
use Rattle.registry_names.specs.Texts.{Text}
use Rattle.registry_names.specs.declared.stop.Fault.TheVariants.{Memory}
use Rattle.registry_names.specs.declared.stop.Stop.{Stop}
use Rattle.registry_rules.specs.declared.reply.Reply.{Reply}
use Rattle.registry_rules.specs.declared.reply.Reply.TheVariants.{Doc, Refused}
use Rattle.registry_rules.specs.declared.request.Action.{Action}
use Rattle.registry_rules.specs.declared.request.Action.TheVariants.{WhoAmI}
use Rattle.registry_rules.specs.declared.request.Credential.{Credential}
use Rattle.registry_rules.specs.declared.request.Request.{Request}
use Rattle.registry_service.specs.Callers.{reads_caller}
use Rattle.registry_service.specs.HttpAnswers.{Outcome}
use Rattle.registry_service.specs.Readings.{Reading}
use Rattle.registry_service.specs.Turns.{Answering, AnswersEach, Exchange, stopped}
use Rattle.registry_wire.specs.declared.wanted.Wanted.{Wanted}

abbrev pub Leads : Type 1
Leads = List Exchange → Outcome → Type 0

-- the first where the test holds, and otherwise the second
abbrev pub either : {A : Type 1} → Bool → A → A → A
either true this other = this
either false this other = other

abbrev pub request : ℕ → Credential → Action → Request
request at who what = record { at = at; who = who; what = what }

-- nothing more is asked, and this is answered
abbrev pub ends : Outcome → Leads
ends answered es o = (es ≡ []) × (o ≡ answered)

-- nothing more is asked, and this document is answered, unless no memory is left for it
abbrev pub shows : Text → Leads
shows text es o = (es ≡ []) × ((o ≡ Ok (Doc text)) ⊎ (o ≡ Err Memory))

-- this, unless no memory is left
unfoldable pub or_memory : Leads → Leads
or_memory leads es o = leads es o ⊎ ends (Err Memory) es o

-- this is asked, and then comes what follows from its outcome
unfoldable pub asks : Request → (Outcome → Leads) → Leads
asks r next [] o = ⊥
asks r next (e ∷ es) o = (e.asked ≡ r) × next e.outcome es o

abbrev pub is_refused : Reply → Bool
is_refused (Refused refusal) = true
is_refused _ = false

-- a refusal or a fault
abbrev pub is_stop : Outcome → Bool
is_stop (Err fault) = true
is_stop (Ok reply) = is_refused reply

-- a refusal or a fault is answered as it is, and after any other reply comes this
abbrev pub unless_stopped : Leads → Outcome → Leads
unless_stopped next o = either (is_stop o) (ends o) next

-- What is read, and then what follows from it. Where it isn't in form, its refusal is answered, and
-- nothing is asked
unfoldable pub reading : {A : Type 0} → Reading A → (A → Leads) → Leads
reading {A} reads next es o = ((a : A) × reads (Ok a) × next a es o) ⊎ ((s : Stop) × reads (Err s) × ends (stopped s) es o)

-- by the caller of a request
abbrev pub by_caller : Wanted → (Credential → Leads) → Leads
by_caller w next = reading (reads_caller w.authorization) next

-- Who calls is asked before the path or the body is read. Who is no user is answered in this way,
-- whatever was sent
abbrev pub by_user : (Outcome → Leads) → Wanted → ℕ → (Credential → Leads) → Leads
by_user refused w at next = by_caller w (λ who. asks (request at who WhoAmI) (λ o. either (is_stop o) (refused o) (next who)))

-- ---- documents

abbrev pub document_in : Reply → Option Text
document_in (Doc text) = Some text
document_in _ = None

abbrev pub document_of : Outcome → Option Text
document_of (Ok reply) = document_in reply
document_of (Err fault) = None

-- a document in this form, and any other outcome as it is
abbrev pub in_form : (Text → Option Text) → Option Text → Outcome → Leads
in_form form None o = ends o
in_form form (Some text) o = shows (unwrap_or (form text) text)

-- A document in another form, if it has one. Any other outcome is answered as it is
abbrev pub shown_as : (Text → Option Text) → Outcome → Leads
shown_as form o = in_form form (document_of o) o

-- ---- services

-- what a service was asked, what that came to, and the service that this left
abbrev pub Comes : {D : Type 0} → Answering D → D → Leads → Outcome → D → Type 0
Comes answers M leads o N = (es : List Exchange) × leads es o × AnswersEach answers M es N
