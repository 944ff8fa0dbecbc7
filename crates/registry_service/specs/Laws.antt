-- What holds of every connection: the laws that the functions of `src/laws.rt` ensure.
use Rattle.std.specs.Prelude.{◌≡◌, ◌≢◌, ◌↔◌, ◌++◌, ◌∷◌, [], ℕ, Bool, false, List, Some}
use Rattle.registry_names.specs.declared.method.Method.TheVariants.{Get}
use Rattle.registry_wire.specs.EntityTags.{NamesTag}
use Rattle.registry_wire.specs.Responses.{no_labels, not_modified}
use Rattle.registry_wire.specs.Spelling.{Spells}
use Rattle.registry_wire.specs.declared.first.Ending.{Ending}
use Rattle.registry_wire.specs.declared.wanted.Wanted.{Wanted}
use Rattle.registry_service.specs.Courses.{Course, Side, Took}
use Rattle.registry_service.specs.Turns.{Answering, AnswersAsBefore, Cause, Dialect, Dialogue, Exchange, IsTurn, Turn, Turns, bad_input, labels_of, no_memory, request, spoken}
use Rattle.registry_service.specs.declared.answer.Answer.{Answer}
use Rattle.registry_service.specs.declared.turning.Turned.{Turned}
use Rattle.registry_service.specs.HttpAnswers.{Outcome, body_bytes, body_of, status_of}

abbrev pub wanted_by : Cause → List Wanted
wanted_by (request w at) = w ∷ []
wanted_by (bad_input r) = []
wanted_by no_memory = []

-- the whole requests that the turns were taken for, in their order
abbrev pub wanted_of : List Turn → List Wanted
wanted_of [] = []
wanted_of (t ∷ ts) = wanted_of ts ++ wanted_by t.cause

-- The requests of the turns are the first that the bytes spell, and what the rest spells follows
-- them. It doesn't matter whether more may come
abbrev pub TurnsAreSpelled : Type 0
TurnsAreSpelled = (came rest : List ℕ) (ts : List Turn) (vs : List Wanted) (e : Ending) → Took came ts rest (Unit {0}) → Spells rest vs e → Spells came (wanted_of ts ++ vs) e

-- of a reader whose bytes are known, the turns were taken of everything that was held or left
abbrev pub TakenOfAll : {D : Type 0} → Dialogue D → Type 0
TakenOfAll {D} dialogue = (old new : Side D) (ts : List Turn) (left left2 : List ℕ) → Course dialogue old new ts → old.left ≡ Some left → new.left ≡ Some left2 → new.unknown ≡ false
    → Took (old.held ++ left) ts (new.held ++ left2) (left2 ≡ [])

-- A turn that is taken after a look-up might have been taken without it, and what may be answered
-- after it might then be answered, too
abbrev pub LookUpsAreUnseen : {D : Type 0} → Dialect → Answering D → Type 0
LookUpsAreUnseen {D} speaks answers = (M K N : D) (last : Bool) (t : Turn) → AnswersAsBefore answers M K → IsTurn (spoken speaks answers) K last t N
    → (left : D) × IsTurn (spoken speaks answers) M last t left × AnswersAsBefore answers left N

-- Who asks has the document that would be answered: the request is a GET, the status would be 200, the
-- document has a tag, and the request names that tag
abbrev pub KnowsDocument : Dialect → Cause → List Exchange → Outcome → Type 0
KnowsDocument speaks (request w at) es o = (w.method ≡ Get) × (status_of o ≡ 200) × ((tag : List ℕ) × ((speaks.labels w es o).tag ≡ Some tag) × NamesTag w.if_none_match tag)
KnowsDocument speaks (bad_input r) es o = ⊥
KnowsDocument speaks no_memory es o = ⊥

-- An answer is a 304 exactly where who asks has the document, and then nothing is sent of it. Any
-- other answer is that of the outcome, whole. What either says to those who keep documents is what the
-- dialect says, and where the status would be another than 200 it is nothing
pub record IsHonest (speaks : Dialect) (c : Cause) (es : List Exchange) (o : Outcome) (a : Answer) : Type 0 where
  pub exactly : (a.status ≡ not_modified) ↔ KnowsDocument speaks c es o
  pub empty : a.status ≡ not_modified → body_bytes a.body ≡ []
  pub whole : a.status ≢ not_modified → (a.status ≡ status_of o) × (body_bytes a.body ≡ body_of o)
  pub labels : a.labels ≡ labels_of speaks c es o
  pub plain : status_of o ≢ 200 → a.labels ≡ no_labels

-- so is the answer of every turn
abbrev pub NotModifiedIsHonest : {D : Type 0} → Dialect → Answering D → Type 0
NotModifiedIsHonest {D} speaks answers = (M N : D) (c : Cause) (last : Bool) (t : Turned) → (turns : Turns (spoken speaks answers) M c last t N)
    → IsHonest speaks c turns.exchanges turns.outcome t.answer
