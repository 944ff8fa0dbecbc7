-- What responses say to those who keep documents.
use Rattle.std.proofs.Common.{◌≡◌, ◌≢◌, ◌==◌, ◌∙◌, ℕ, Bool, true, false, cond, not, List, Option, Some, None, Ok, Err, refl, sym, ap, subst, is_some}
use Rattle.std.proofs.lemmas.Bool.{and_from, and_parts, eqb-true, false≢true}
use Rattle.registry_names.specs.Faults.{fault_status}
use Rattle.registry_names.specs.Refusals.{refusal_status}
use Rattle.registry_names.specs.declared.method.Method.{Method}
use Rattle.registry_names.specs.declared.method.Method.TheVariants.{Get, Put, Post, Delete, Other}
use Rattle.registry_names.specs.declared.refusal.Refusal.{Refusal}
use Rattle.registry_names.specs.declared.refusal.Refusal.TheVariants.{BadName, BadVersion, RangeTag, BadTag, BadBody, BadIntegrity, TooLarge, NoCaller, NotFound, Published, Spent, TooLate, Depended, KeepsLatest, BadSelector, LastOwner, KeepsDevelopers, Exists, OtherScope, AlwaysPublic, Waiting, Stale, NotServed, Denied}
use Rattle.registry_names.specs.declared.stop.Fault.{Fault}
use Rattle.registry_names.specs.declared.stop.Fault.TheVariants.{Memory, Database}
use Rattle.registry_rules.specs.declared.reply.Reply.TheVariants.{Created, Done, Count, Doc, Bytes, Refused}
use Rattle.registry_wire.specs.EntityTags.{NamesTag}
use Rattle.registry_wire.specs.Responses.{no_labels, not_modified, only_if}
use Rattle.registry_wire.specs.TagReading.{names_some}
use Rattle.registry_wire.specs.declared.labels.Labels.{Labels}
use Rattle.registry_wire.specs.declared.wanted.FieldValue.{FieldValue}
use Rattle.registry_wire.proofs.TagFacts.{named}
use Rattle.registry_service.specs.HttpAnswers.{AnswersPlainly, AnswersSo, Outcome, body_bytes, body_of, plain_response, response_to, sent_body, sent_bytes, sent_status, status_of}
use Rattle.registry_service.specs.Turns.{AnswersFor, Answering, Cause, Dialect, Exchange, Turn, bad_input, is_get, is_known, is_known_in, labels_of, no_memory, profile, request, response_of}
use Rattle.registry_service.specs.Laws.{IsHonest, KnowsDocument, NotModifiedIsHonest}
use Rattle.registry_service.specs.declared.answer.Answer.{Answer}

-- ---- the profile says nothing

same-both : {A : Type 0} (b : Bool) (x : A) → cond b x x ≡ x
same-both true x = refl
same-both false x = refl

plain-labels : (c : Cause) (es : List Exchange) (o : Outcome) → labels_of profile c es o ≡ no_labels
plain-labels (request w at) es o = same-both (status_of o == 200) no_labels
plain-labels (bad_input r) es o = refl
plain-labels no_memory es o = refl

known-none : (c : Cause) → is_known c no_labels ≡ false
known-none (request w at) = refl
known-none (bad_input r) = refl
known-none no_memory = refl

plain-known : (c : Cause) (es : List Exchange) (o : Outcome) → is_known_in profile c es o ≡ false
plain-known c es o = ap (is_known c) (plain-labels c es o) ∙ known-none c

-- a plain answer is that of the profile
pub plain-answers : (c : Cause) (es : List Exchange) (o : Outcome) (a : Answer) → AnswersPlainly o a → AnswersFor profile c es o a
plain-answers c es o a is =
    subst (λ (labels : Labels). AnswersSo labels (is_known_in profile c es o) o a) (sym (plain-labels c es o))
    (subst (λ (known : Bool). AnswersSo no_labels known o a) (sym (plain-known c es o)) is)

-- and the bytes of its response are plain
pub plain-bytes : (t : Turn) → response_of profile t ≡ plain_response t.outcome (is_some t.ended)
plain-bytes t =
    ap (λ (labels : Labels). response_to labels (is_known_in profile t.cause t.exchanges t.outcome) t.outcome (is_some t.ended)) (plain-labels t.cause t.exchanges t.outcome)
    ∙ ap (λ (known : Bool). response_to no_labels known t.outcome (is_some t.ended)) (plain-known t.cause t.exchanges t.outcome)

-- ---- a 304 is honest

-- no outcome has this status
refusal-other : (r : Refusal) → (refusal_status r == 304) ≡ false
refusal-other BadName = refl
refusal-other BadVersion = refl
refusal-other RangeTag = refl
refusal-other BadTag = refl
refusal-other BadBody = refl
refusal-other BadIntegrity = refl
refusal-other TooLarge = refl
refusal-other NoCaller = refl
refusal-other NotFound = refl
refusal-other Published = refl
refusal-other Spent = refl
refusal-other TooLate = refl
refusal-other Depended = refl
refusal-other KeepsLatest = refl
refusal-other BadSelector = refl
refusal-other LastOwner = refl
refusal-other KeepsDevelopers = refl
refusal-other Exists = refl
refusal-other OtherScope = refl
refusal-other AlwaysPublic = refl
refusal-other Waiting = refl
refusal-other Stale = refl
refusal-other NotServed = refl
refusal-other (Denied rule) = refl

fault-other : (f : Fault) → (fault_status f == 304) ≡ false
fault-other Memory = refl
fault-other Database = refl

outcome-other : (o : Outcome) → (status_of o == 304) ≡ false
outcome-other (Ok Created) = refl
outcome-other (Ok Done) = refl
outcome-other (Ok (Count n)) = refl
outcome-other (Ok (Doc text)) = refl
outcome-other (Ok (Bytes bytes)) = refl
outcome-other (Ok (Refused r)) = refusal-other r
outcome-other (Err f) = fault-other f

status-known : (known : Bool) (o : Outcome) → sent_status known o ≡ not_modified → known ≡ true
status-known true o e = refl
status-known false o e = absurd (false≢true (sym (outcome-other o) ∙ ap (λ (n : ℕ). n == 304) e))

-- what is sent of the body that is told
sent-again : (known : Bool) (o : Outcome) → only_if (not (sent_status known o == not_modified)) (sent_body known o) ≡ sent_body known o
sent-again true o = refl
sent-again false o = ap (λ (b : Bool). only_if (not b) (body_of o)) (outcome-other o)

pub sent-so : (labels : Labels) (known : Bool) (o : Outcome) (a : Answer) → AnswersSo labels known o a → sent_bytes a ≡ sent_body known o
sent-so labels known o a is =
    ap (λ (n : ℕ). only_if (not (n == not_modified)) (body_bytes a.body)) is.status
    ∙ ap (λ (body : List ℕ). only_if (not (sent_status known o == not_modified)) body) is.body ∙ sent-again known o

status-unknown : (known : Bool) (o : Outcome) → sent_status known o ≢ not_modified → known ≡ false
status-unknown true o other = absurd (other refl)
status-unknown false o other = refl

-- what it is to be known
some-means : (f : FieldValue) (tag : Option (List ℕ)) → names_some f tag ≡ true → (text : List ℕ) × (tag ≡ Some text) × NamesTag f text
some-means f None e = absurd (false≢true e)
some-means f (Some text) e = (text, refl, (named f text).0 e)

get-means : (m : Method) → is_get m ≡ true → m ≡ Get
get-means Get e = refl
get-means Put e = absurd (false≢true e)
get-means Post e = absurd (false≢true e)
get-means Delete e = absurd (false≢true e)
get-means Other e = absurd (false≢true e)

known-means : (f : FieldValue) (b : Bool) (labels : Labels) → names_some f (cond b labels no_labels).tag ≡ true → (b ≡ true) × ((text : List ℕ) × (labels.tag ≡ Some text) × NamesTag f text)
known-means f true labels e = (refl, some-means f labels.tag e)
known-means f false labels e = absurd (false≢true e)

known-from : (f : FieldValue) (b : Bool) (labels : Labels) (text : List ℕ) → b ≡ true → labels.tag ≡ Some text → NamesTag f text → names_some f (cond b labels no_labels).tag ≡ true
known-from f true labels text ok is n = ap (names_some f) is ∙ (named f text).1 n
known-from f false labels text ok is n = absurd (false≢true ok)

knows-means : (speaks : Dialect) (c : Cause) (es : List Exchange) (o : Outcome) → is_known_in speaks c es o ≡ true → KnowsDocument speaks c es o
knows-means speaks (request w at) es o e =
    let both = and_parts _ _ e in
    let known = known-means w.if_none_match (status_of o == 200) (speaks.labels w es o) both.0 in
    (get-means w.method both.1, eqb-true (status_of o) 200 known.0, known.1)
knows-means speaks (bad_input r) es o e = absurd (false≢true e)
knows-means speaks no_memory es o e = absurd (false≢true e)

knows-from : (speaks : Dialect) (c : Cause) (es : List Exchange) (o : Outcome) → KnowsDocument speaks c es o → is_known_in speaks c es o ≡ true
knows-from speaks (request w at) es o (get, ok, (text, is, n)) =
    and_from _ _ (known-from w.if_none_match (status_of o == 200) (speaks.labels w es o) text (ap (λ (n : ℕ). n == 200) ok) is n) (ap is_get get)
knows-from speaks (bad_input r) es o k = absurd k
knows-from speaks no_memory es o k = absurd k

-- only a response with the status 200 has labels
by-status : (b : Bool) (status : ℕ) (labels : Labels) → (status == 200) ≡ b → status ≢ 200 → cond b labels no_labels ≡ no_labels
by-status true status labels same other = absurd (other (eqb-true status 200 same))
by-status false status labels same other = refl

unlabelled : (speaks : Dialect) (c : Cause) (es : List Exchange) (o : Outcome) → status_of o ≢ 200 → labels_of speaks c es o ≡ no_labels
unlabelled speaks (request w at) es o other = by-status (status_of o == 200) (status_of o) (speaks.labels w es o) refl other
unlabelled speaks (bad_input r) es o other = refl
unlabelled speaks no_memory es o other = refl

pub answers-honestly : (speaks : Dialect) (c : Cause) (es : List Exchange) (o : Outcome) (a : Answer) → AnswersFor speaks c es o a → IsHonest speaks c es o a
answers-honestly speaks c es o a is = record {
  exactly = (
    λ e. knows-means speaks c es o (status-known (is_known_in speaks c es o) o (sym is.status ∙ e)),
    λ k. is.status ∙ ap (λ (known : Bool). sent_status known o) (knows-from speaks c es o k),
  );
  empty = λ e. is.body ∙ ap (λ (known : Bool). sent_body known o) (status-known (is_known_in speaks c es o) o (sym is.status ∙ e));
  whole = λ other.
      let known = status-unknown (is_known_in speaks c es o) o (λ e. other (is.status ∙ e)) in (
        is.status ∙ ap (λ (known : Bool). sent_status known o) known,
        is.body ∙ ap (λ (known : Bool). sent_body known o) known,
      );
  labels = is.labels;
  plain = λ other. is.labels ∙ unlabelled speaks c es o other;
}

pub turns-honest : {D : Type 0} (speaks : Dialect) (answers : Answering D) → NotModifiedIsHonest speaks answers
turns-honest speaks answers M N c last t turns = answers-honestly speaks c turns.exchanges turns.outcome t.answer turns.answer
