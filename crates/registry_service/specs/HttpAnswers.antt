-- What an outcome of the registry is in HTTP.
use Rattle.std.specs.Prelude.{◌≡◌, ◌==◌, not, ℕ, Bool, false, List, [], ◌++◌, length, drop, codes, decimal, if◌then◌else◌, Result, Ok, Err}
use Rattle.registry_names.specs.Faults.{fault_status, fault_text}
use Rattle.registry_names.specs.Refusals.{refusal_status, refusal_text}
use Rattle.registry_names.specs.Texts.{Text}
use Rattle.registry_names.specs.declared.stop.Fault.{Fault}
use Rattle.registry_rules.specs.declared.reply.Reply.{Reply}
use Rattle.registry_rules.specs.declared.reply.Reply.TheVariants.{Created, Done, Count, Doc, Bytes, Refused}
use Rattle.registry_wire.specs.Responses.{head_bytes, no_labels, not_modified, only_if}
use Rattle.registry_wire.specs.declared.labels.Labels.{Labels}
use Rattle.registry_wire.specs.declared.response.ContentKind.{ContentKind}
use Rattle.registry_wire.specs.declared.response.ContentKind.TheVariants as content
use Rattle.registry_service.specs.declared.answer.Answer.{Answer}
use Rattle.registry_service.specs.declared.answer.Body.{Body}
use Rattle.registry_service.specs.declared.answer.Body.TheVariants as body
use Rattle.registry_service.specs.declared.answer.Fronted.{Fronted}

-- the outcome of a request
abbrev pub Outcome : Type 0
Outcome = Result Reply Fault

-- OK 200, Created 201
abbrev pub status_of : Outcome → ℕ
status_of (Ok Created) = 201
status_of (Ok Done) = 200
status_of (Ok (Count n)) = 200
status_of (Ok (Doc text)) = 200
status_of (Ok (Bytes bytes)) = 200
status_of (Ok (Refused refusal)) = refusal_status refusal
status_of (Err fault) = fault_status fault

abbrev pub kind_of : Outcome → ContentKind
kind_of (Ok (Bytes bytes)) = content.Bytes
kind_of _ = content.Json

abbrev pub ok_text : Text
ok_text = codes "{\"ok\":true}"

abbrev pub count_text : ℕ → Text
count_text n = codes "{\"count\":" ++ decimal n ++ codes ",\"ok\":true}"

abbrev pub error_text : Text → Text
error_text name = codes "{\"error\":\"" ++ name ++ codes "\"}"

abbrev pub body_of : Outcome → List ℕ
body_of (Ok Created) = ok_text
body_of (Ok Done) = ok_text
body_of (Ok (Count n)) = count_text n
body_of (Ok (Doc text)) = text
body_of (Ok (Bytes bytes)) = bytes
body_of (Ok (Refused refusal)) = error_text (refusal_text refusal)
body_of (Err fault) = error_text (fault_text fault)

-- ---- the response

-- only where the status is 200 are there labels: a refusal and a fault have none
abbrev pub labelled : Outcome → Labels → Labels
labelled o labels = if status_of o == 200 then labels else no_labels

-- where who asks has the document already, it isn't sent
abbrev pub sent_status : Bool → Outcome → ℕ
sent_status known o = if known then not_modified else status_of o

abbrev pub sent_body : Bool → Outcome → List ℕ
sent_body known o = if known then [] else body_of o

-- the bytes of the response to an outcome, with these labels, to one who has the document or
-- doesn't, after which the connection ends or not
abbrev pub response_to : Labels → Bool → Outcome → Bool → List ℕ
response_to labels known o closes = head_bytes (sent_status known o) (kind_of o) labels (length (sent_body known o)) closes ++ sent_body known o

-- the response that says nothing to those who keep documents
abbrev pub plain_response : Outcome → Bool → List ℕ
plain_response o closes = response_to no_labels false o closes

-- the head of the response that is a document of this many bytes, after which the connection ends
-- or not
abbrev pub document_head : Bool → ℕ → List ℕ
document_head closes len = head_bytes 200 content.Json no_labels len closes

-- ---- the answer, which holds its body

-- the front, and the text without the bytes that are skipped
abbrev pub fronted_text : Fronted → Text
fronted_text f = f.front ++ drop f.skipped f.text

abbrev pub body_bytes : Body → List ℕ
body_bytes (body.Short text) = text
body_bytes (body.Text text) = text
body_bytes (body.Doc text) = text
body_bytes (body.Fronted f) = fronted_text f
body_bytes (body.Bytes bytes) = bytes

abbrev pub answer : ℕ → ContentKind → Labels → Body → Answer
answer status kind labels body = record { status = status; kind = kind; labels = labels; body = body }

abbrev pub short : Text → Body
short text = body.Short text

-- the bytes that are sent of its body: none where the status is 304
abbrev pub sent_bytes : Answer → List ℕ
sent_bytes a = only_if (not (a.status == not_modified)) (body_bytes a.body)

abbrev pub answer_bytes : Answer → Bool → List ℕ
answer_bytes a closes = head_bytes a.status a.kind a.labels (length (sent_bytes a)) closes ++ sent_bytes a

-- the answer is that of the outcome, with these labels, to one who has the document or doesn't
pub record AnswersSo (says : Labels) (known : Bool) (o : Outcome) (a : Answer) : Type 0 where
  pub status : a.status ≡ sent_status known o
  pub kind : a.kind ≡ kind_of o
  pub labels : a.labels ≡ says
  pub body : body_bytes a.body ≡ sent_body known o

-- the answer that says nothing to those who keep documents
abbrev pub AnswersPlainly : Outcome → Answer → Type 0
AnswersPlainly o a = AnswersSo no_labels false o a
