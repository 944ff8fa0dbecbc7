-- What one turn of a connection is: what it is taken for, what is asked of the registry in it, what is
-- answered, and whether the connection ends.
use Rattle.std.specs.Prelude.{◌≡◌, ◌∷◌, ◌⊎◌, ◌&&◌, [], ℕ, Bool, true, false, List, Option, Some, None, is_some, map, Ok, Err, if◌then◌else◌}
use Rattle.registry_names.specs.declared.method.Method.{Method}
use Rattle.registry_names.specs.declared.method.Method.TheVariants.{Get, Put, Post, Delete, Other}
use Rattle.registry_names.specs.declared.refusal.Refusal.{Refusal}
use Rattle.registry_names.specs.declared.stop.Fault.TheVariants.{Memory}
use Rattle.registry_names.specs.declared.stop.Stop.{Stop}
use Rattle.registry_names.specs.declared.stop.Stop.TheVariants as stop
use Rattle.registry_rules.specs.declared.reply.Reply.TheVariants.{Refused}
use Rattle.registry_rules.specs.declared.request.Request.{Request}
use Rattle.registry_wire.specs.Responses.{no_labels}
use Rattle.registry_wire.specs.TagReading.{names_some}
use Rattle.registry_wire.specs.declared.labels.Labels.{Labels}
use Rattle.registry_wire.specs.declared.wanted.Wanted.{Wanted}
use Rattle.registry_service.specs.HttpAnswers.{AnswersPlainly, AnswersSo, Outcome, labelled, response_to}
use Rattle.registry_service.specs.Requests.{reads_request}
use Rattle.registry_service.specs.declared.answer.Answer.{Answer}
use Rattle.registry_service.specs.declared.turning.End.{End}
use Rattle.registry_service.specs.declared.turning.End.TheVariants.{Closed, Limit, BadInput, Faulted}
use Rattle.registry_service.specs.declared.turning.Turned.{Turned}

-- the most requests of one connection
abbrev pub request_limit : ℕ
request_limit = 1000

-- what a turn is taken for: a whole request, asked at a moment; input that isn't a request; or a
-- lack of memory while a request was read
pub data Cause : Type 0 where
  request : Wanted → ℕ → Cause
  bad_input : Refusal → Cause
  no_memory : Cause

-- a request of the registry, and what it came to
pub record Exchange : Type 0 where
  pub asked : Request
  pub outcome : Outcome

abbrev pub exchange : Request → Outcome → Exchange
exchange r o = record { asked = r; outcome = o }

-- the requests of exchanges, in their order, and their outcomes
abbrev pub asked_in : List Exchange → List Request
asked_in es = map (λ (e : Exchange). e.asked) es

abbrev pub outcomes_in : List Exchange → List Outcome
outcomes_in es = map (λ (e : Exchange). e.outcome) es

-- requests with their outcomes, in their order
abbrev pub exchanges : List Request → List Outcome → List Exchange
exchanges (r ∷ rs) (o ∷ os) = exchange r o ∷ exchanges rs os
exchanges _ _ = []

-- a turn, with what was asked of the registry in it, one request after the other
pub record Turn : Type 0 where
  pub cause : Cause
  pub exchanges : List Exchange
  pub outcome : Outcome
  pub ended : Option End

abbrev pub is_request : Cause → Bool
is_request (request w at) = true
is_request (bad_input r) = false
is_request no_memory = false

-- what is answered where a request isn't in form
abbrev pub stopped : Stop → Outcome
stopped (stop.Refused r) = Ok (Refused r)
stopped (stop.Fault f) = Err f

-- how the connection ends after a request, if it does: by a fault, by the last request that it has,
-- or because the request asked for it
abbrev pub end_of : Outcome → Bool → Bool → Option End
end_of (Err fault) last closes = Some (Faulted fault)
end_of (Ok reply) last closes = if last then Some Limit else (if closes then Some Closed else None)

-- ---- what requests of HTTP ask of a registry

-- A dialect: a turn for this request of HTTP, at this moment, asked these requests of the registry,
-- one after the other, which came to these outcomes, and the turn came to this outcome; and what its
-- response says to those who keep documents, where its status is 200
pub record Dialect : Type 1 where
  pub asks : Wanted → ℕ → List Exchange → Outcome → Type 0
  pub labels : Wanted → List Exchange → Outcome → Labels

-- By the registry's own routes, a request in form asks the registry for what it spells, once, and its
-- outcome is that of the turn; any other asks nothing, and comes to its first refusal
abbrev pub AsksByRoute : Wanted → ℕ → List Exchange → Outcome → Type 0
AsksByRoute w at es o = ((r : Request) × reads_request w at (Ok r) × (es ≡ exchange r o ∷ []))
    ⊎ ((s : Stop) × reads_request w at (Err s) × (es ≡ []) × (o ≡ stopped s))

-- the dialect of the registry's own routes: nothing is said to those who keep documents
abbrev pub profile : Dialect
profile = record { asks = AsksByRoute; labels = λ w es o. no_labels }

-- ---- responses

-- what the response of a turn says to those who keep documents
abbrev pub labels_of : Dialect → Cause → List Exchange → Outcome → Labels
labels_of speaks (request w at) es o = labelled o (speaks.labels w es o)
labels_of speaks (bad_input r) es o = no_labels
labels_of speaks no_memory es o = no_labels

abbrev pub is_get : Method → Bool
is_get Get = true
is_get Put = false
is_get Post = false
is_get Delete = false
is_get Other = false

-- the request is a GET of a document that who asks has with this tag, if it has one
abbrev pub names_document : Wanted → Option (List ℕ) → Bool
names_document w tag = names_some w.if_none_match tag && is_get w.method

-- who asks has the document with these labels: the request is a GET, and names its tag
abbrev pub is_known : Cause → Labels → Bool
is_known (request w at) labels = names_document w labels.tag
is_known (bad_input r) labels = false
is_known no_memory labels = false

-- who asks has what would be answered
abbrev pub is_known_in : Dialect → Cause → List Exchange → Outcome → Bool
is_known_in speaks c es o = is_known c (labels_of speaks c es o)

-- the bytes of a turn's response
abbrev pub response_of : Dialect → Turn → List ℕ
response_of speaks t =
    response_to (labels_of speaks t.cause t.exchanges t.outcome) (is_known_in speaks t.cause t.exchanges t.outcome) t.outcome (is_some t.ended)

-- the answer of such a turn
abbrev pub AnswersFor : Dialect → Cause → List Exchange → Outcome → Answer → Type 0
AnswersFor speaks c es o a = AnswersSo (labels_of speaks c es o) (is_known_in speaks c es o) o a

-- ---- what a service answers

-- what holds of a service, a request, its outcome, and the service that it leaves
abbrev pub Answering : Type 0 → Type 1
Answering D = D → Request → Outcome → D → Type 0

module _ {D : Type 0} (answers : Answering D) where
  -- requests are asked one after the other, each of what the earlier ones left, and nothing else is
  -- asked between them
  abbrev pub AnswersEach : D → List Exchange → D → Type 0
  AnswersEach M [] N = N ≡ M
  AnswersEach M (e ∷ es) N = (K : D) × answers M e.asked e.outcome K × AnswersEach K es N

  -- whatever the new service may answer, and leave, the old one might have
  abbrev pub AnswersAsBefore : D → D → Type 0
  AnswersAsBefore M N = (r : Request) (o : Outcome) (K : D) → answers N r o K → answers M r o K

-- a service over HTTP: the dialect of its requests, and what holds of the service, all that is asked
-- of it in one turn, and the service that this leaves
pub record Dialogue (D : Type 0) : Type 1 where
  pub speaks : Dialect
  pub answers : D → List Exchange → D → Type 0

-- a service that is asked in a dialect
abbrev pub spoken : {D : Type 0} → Dialect → Answering D → Dialogue D
spoken speaks answers = record { speaks = speaks; answers = AnswersEach answers }

-- ---- turns

-- the answer to input that isn't a request, after which the connection ends
abbrev pub IsTurnAway : Cause → Outcome → Option End → Type 0
IsTurnAway (request w at) o ended = ⊥
IsTurnAway (bad_input r) o ended = (o ≡ Ok (Refused r)) × (ended ≡ Some BadInput)
IsTurnAway no_memory o ended = (o ≡ Err Memory) × (ended ≡ Some (Faulted Memory))

module _ {D : Type 0} (dialogue : Dialogue D) where
  -- the service answers what the request asks in its dialect, and is asked nothing else
  abbrev pub IsAnswered : D → Wanted → ℕ → List Exchange → Outcome → D → Type 0
  IsAnswered M w at es o N = dialogue.speaks.asks w at es o × dialogue.answers M es N

  -- the turn of a request, which is the last of its connection or not
  pub record Serves (M : D) (w : Wanted) (at : ℕ) (last : Bool) (es : List Exchange) (o : Outcome) (ended : Option End) (N : D) : Type 0 where
    pub answered : IsAnswered M w at es o N
    pub ends : ended ≡ end_of o last w.closes

  -- for anything else the service is asked nothing
  abbrev pub IsTurnFor : Cause → D → Bool → List Exchange → Outcome → Option End → D → Type 0
  IsTurnFor (request w at) M last es o ended N = Serves M w at last es o ended N
  IsTurnFor (bad_input r) M last es o ended N = IsTurnAway (bad_input r) o ended × (N ≡ M) × (es ≡ [])
  IsTurnFor no_memory M last es o ended N = IsTurnAway no_memory o ended × (N ≡ M) × (es ≡ [])

  -- a turn by a service, and the service that it leaves
  abbrev pub IsTurn : D → Bool → Turn → D → Type 0
  IsTurn M last t N = IsTurnFor t.cause M last t.exchanges t.outcome t.ended N

  -- the same for what the code makes of a turn: its answer, and how the connection ends
  pub record Turns (M : D) (c : Cause) (last : Bool) (t : Turned) (N : D) : Type 0 where
    pub exchanges : List Exchange
    pub outcome : Outcome
    pub is_turn : IsTurnFor c M last exchanges outcome t.end N
    pub answer : AnswersFor dialogue.speaks c exchanges outcome t.answer
    pub counts : t.is_request ≡ is_request c

-- the turn of input that isn't a request, for which no service is asked
pub record TurnsAway (c : Cause) (t : Turned) : Type 0 where
  pub outcome : Outcome
  pub is_turn : IsTurnAway c outcome t.end
  pub answer : AnswersPlainly outcome t.answer
  pub counts : t.is_request ≡ false
