-- What the private parts of serving a connection say.
use Rattle.std.specs.Prelude.{◌≡◌, ℕ, Bool, true, List, Option, is_some}
use Rattle.registry_names.specs.ByteStreams.{Writes, WritesPrefix, raised}
use Rattle.registry_wire.specs.declared.labels.Labels.{Labels}
use Rattle.registry_wire.specs.declared.wanted.Wanted.{Wanted}
use Rattle.registry_service.specs.HttpAnswers.{AnswersPlainly, AnswersSo, Outcome, answer_bytes, labelled}
use Rattle.registry_service.specs.Turns.{end_of, names_document}
use Rattle.registry_service.specs.declared.responding.Responded.{Responded}
use Rattle.registry_service.specs.declared.responding.Responded.TheVariants as responded
use Rattle.registry_service.specs.declared.turning.End.{End}
use Rattle.registry_service.specs.declared.turning.End.TheVariants.{WriteFault}
use Rattle.registry_service.specs.declared.turning.Turned.{Turned}

-- the bytes of its response
abbrev pub bytes_of : Turned → List ℕ
bytes_of t = answer_bytes t.answer (is_some t.end)

-- it is the turn of a request with this outcome, which is the last of its connection or not, and
-- asks to end it or not
pub record IsTurnWith (o : Outcome) (last closes : Bool) (t : Turned) : Type 0 where
  pub ends : t.end ≡ end_of o last closes
  pub answer : AnswersPlainly o t.answer
  pub counts : t.is_request ≡ true

-- the same of this request, with these labels where the status is 200
pub record IsTurnTold (o : Outcome) (labels : Labels) (w : Wanted) (last : Bool) (t : Turned) : Type 0 where
  pub ends : t.end ≡ end_of o last w.closes
  pub answer : AnswersSo (labelled o labels) (names_document w (labelled o labels).tag) o t.answer
  pub counts : t.is_request ≡ true

-- the response of a turn was written whole, or a part of it, and then a write failed
abbrev pub RespondsWith : Turned → Option (List ℕ) → Option (List ℕ) → Bool → Responded → Type 0
RespondsWith t out out2 unknown (responded.Whole ended counts) = Writes out out2 unknown (bytes_of t) × (ended ≡ t.end) × (counts ≡ t.is_request)
RespondsWith t out out2 unknown responded.BrokenOff = WritesPrefix out out2 unknown (bytes_of t)
RespondsWith t out out2 unknown (responded.CutShort fault) = ⊥

-- a failed write breaks a response off, and nothing else does
abbrev pub response_failures : Responded → ℕ → ℕ
response_failures (responded.Whole ended counts) failures = failures
response_failures responded.BrokenOff failures = raised failures
response_failures (responded.CutShort fault) failures = failures

-- a failed write ends a connection, and nothing else does
abbrev pub written_failures : End → ℕ → ℕ
written_failures WriteFault failures = raised failures
written_failures _ failures = failures
