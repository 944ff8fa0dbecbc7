-- A connection without its socket, and what a turn makes of it.
use Rattle.std.specs.Prelude.{◌≡◌, ◌-◌, ◌==◌, [], ℕ, Bool, true, false, List, Option, Some, None, is_some, length, min}
use Rattle.registry_wire.specs.Reading.{TakenOf}
use Rattle.registry_wire.specs.Responses.{head_bytes}
use Rattle.registry_wire.specs.Spelling.{IsUnfinished}
use Rattle.registry_service.specs.HttpAnswers.{sent_bytes}
use Rattle.registry_service.specs.Courses.{Gave, count_of, moment_of, taken_for}
use Rattle.registry_service.specs.Servings.{bytes_of}
use Rattle.registry_service.specs.Turns.{Cause, Dialogue, Turns, TurnsAway, no_memory, request_limit}
use Rattle.registry_service.specs.declared.turning.End.{End}
use Rattle.registry_service.specs.declared.turning.Turned.{Turned}
use Rattle.registry_server.specs.declared.state.Progress.{Progress}
use Rattle.registry_server.specs.declared.state.Progress.TheVariants.{Answered, Waits, Closed}

-- the head of a turn's response
abbrev pub head_in : Turned → List ℕ
head_in t = head_bytes t.answer.status t.answer.kind t.answer.labels (length (sent_bytes t.answer)) (is_some t.end)

-- what is sent of the body of a turn's answer, where there is one
abbrev pub body_in : Option Turned → List ℕ
body_in None = []
body_in (Some turned) = sent_bytes turned.answer

-- the bytes that came and aren't used yet, the bytes of a response that aren't sent yet, how many
-- requests it may still have, and how it ends once everything is sent, if it does
pub record Pending : Type 0 where
  pub held : List ℕ
  pub outgoing : List ℕ
  pub left : ℕ
  pub ends : Option End

abbrev pub pending : List ℕ → List ℕ → ℕ → Option End → Pending
pending held outgoing left ends = record { held = held; outgoing = outgoing; left = left; ends = ends }

-- a connection on which nothing came
abbrev pub fresh : Pending
fresh = pending [] [] request_limit None

-- the same with these bytes held
abbrev pub holding : Pending → List ℕ → Pending
holding p held = pending held p.outgoing p.left p.ends

-- the same with these bytes not sent
abbrev pub sending : Pending → List ℕ → Pending
sending p outgoing = pending p.held outgoing p.left p.ends

-- the same, but its next request, if it may have one, is its last
abbrev pub lasting : Pending → Pending
lasting p = pending p.held p.outgoing (min p.left 1) p.ends

-- a turn may be taken: the response before was sent whole, and the connection goes on
pub record MayTakeTurn (p : Pending) : Type 0 where
  pub all_sent : p.outgoing ≡ []
  pub goes_on : p.ends ≡ None

-- a lack of memory for what came is answered, and the connection ends
pub record IsStarved (old new : Pending) : Type 0 where
  pub turned : Turned
  pub away : TurnsAway no_memory turned
  pub state : new ≡ pending old.held (bytes_of turned) old.left turned.end

module _ {D : Type 0} (answers : Dialogue D) where
  -- One turn was taken of what was held, by a service and a clock, and its response is to be sent.
  -- `over` says that no more bytes come.
  pub record TakesTurn (old new : Pending) (M N : D) (readings readings2 : Option (List ℕ)) (over : Bool) : Type 0 where
    pub cause : Cause
    pub turned : Turned
    pub took : TakenOf old.held new.held (over ≡ true) (taken_for cause)
    pub turns : Turns answers M cause (old.left == 1) turned N
    pub asked : Gave readings readings2 (moment_of cause)
    pub outgoing : new.outgoing ≡ bytes_of turned
    pub ends : new.ends ≡ turned.end
    pub left : new.left ≡ old.left - count_of cause

  -- no turn was taken, and nothing changed
  pub record TakesNone (old new : Pending) (M N : D) (readings readings2 : Option (List ℕ)) : Type 0 where
    pub state : new ≡ old
    pub service : N ≡ M
    pub unasked : readings2 ≡ readings

  -- what a turn does: where a request has come, or input that isn't one, it is answered; where a
  -- request may still come, the turn waits; and after the last byte nothing is answered
  abbrev pub Does : Pending → Pending → D → D → Option (List ℕ) → Option (List ℕ) → Bool → Progress → Type 0
  Does old new M N readings readings2 over Answered = TakesTurn old new M N readings readings2 over
  Does old new M N readings readings2 over Waits = TakesNone old new M N readings readings2 × IsUnfinished old.held × (over ≡ false)
  Does old new M N readings readings2 over Closed = TakesNone old new M N readings readings2 × (old.held ≡ []) × (over ≡ true)
