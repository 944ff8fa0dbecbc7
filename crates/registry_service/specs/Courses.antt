-- The turns of one connection, one after the other: what they take, what they write, and how it
-- ends.
use Rattle.std.specs.Prelude.{◌≡◌, ◌≤◌, ◌<◌, ◌+◌, ◌==◌, ◌++◌, ◌∷◌, ◌⊎◌, [], ℕ, Bool, false, List, length, take, Option, Some, None, Err, if◌then◌else◌}
use Rattle.std.specs.Io.KnownBytes.{IsAtEnd}
use Rattle.registry_names.specs.ByteStreams.{Reads, RisesBetween, Writes}
use Rattle.registry_names.specs.declared.stop.Fault.{Fault}
use Rattle.registry_names.specs.declared.stop.Fault.TheVariants.{Memory}
use Rattle.registry_wire.specs.Inboxes.{failures_admitted}
use Rattle.registry_wire.specs.Reading.{CountsInterrupted, ReadsWhileUnfinished, TakenOf}
use Rattle.registry_wire.specs.Spelling.{EndsWith, IsUnfinished}
use Rattle.registry_wire.specs.declared.first.Ending.TheVariants as ending
use Rattle.registry_wire.specs.declared.inbox.Taken.{Taken}
use Rattle.registry_wire.specs.declared.inbox.Taken.TheVariants as taken
use Rattle.registry_service.specs.Responses.{MayBegin, Responds}
use Rattle.registry_service.specs.Turns.{Cause, Dialect, Dialogue, IsTurn, Turn, bad_input, is_request, no_memory, request, request_limit, response_of}
use Rattle.registry_service.specs.declared.responding.Responded.{Responded}
use Rattle.registry_service.specs.declared.serving.Served.{Served}
use Rattle.registry_service.specs.declared.turning.End.{End}
use Rattle.registry_service.specs.declared.turning.End.TheVariants.{Closed, Limit, BadInput, ReadFault, WriteFault, Faulted}

-- ---- lists of turns, the newest first

-- the connection goes on after each of them
abbrev pub GoOn : List Turn → Type 0
GoOn [] = Unit {0}
GoOn (t ∷ ts) = (t.ended ≡ None) × GoOn ts

-- what is written of the turns, in their order
abbrev pub written : Dialect → List Turn → List ℕ
written speaks [] = []
written speaks (t ∷ ts) = written speaks ts ++ response_of speaks t

-- a request has one moment
abbrev pub moment_of : Cause → List ℕ
moment_of (request w at) = at ∷ []
moment_of (bad_input r) = []
moment_of no_memory = []

-- the moments of the requests, in their order
abbrev pub moments : List Turn → List ℕ
moments [] = []
moments (t ∷ ts) = moments ts ++ moment_of t.cause

abbrev pub count_of : Cause → ℕ
count_of c = if is_request c then 1 else 0

-- how many of the turns are those of requests
abbrev pub requests : List Turn → ℕ
requests [] = 0
requests (t ∷ ts) = requests ts + count_of t.cause

-- what an inbox gives for a turn
abbrev pub taken_for : Cause → Taken
taken_for (request w at) = taken.Whole w
taken_for (bad_input r) = taken.Bad r
taken_for no_memory = taken.Faulted Memory

-- The turns were taken of these bytes, one after the other, and what is held follows them. `AtEnd`
-- says that no more bytes are left
abbrev pub Took : List ℕ → List Turn → List ℕ → Type 0 → Type 0
Took came [] held AtEnd = held ≡ came
Took came (t ∷ ts) held AtEnd = (rest : List ℕ) × Took came ts rest ⊥ × TakenOf rest held AtEnd (taken_for t.cause)

-- What was read for turns, and then newer bytes: no more of these than the next request needed,
-- after what the turns left of everything that had come.
pub record ReadsAfter (held : List ℕ) (ts : List Turn) (got : List ℕ) (ForTurns : List ℕ → Type 0) : Type 0 where
  pub older : List ℕ
  pub newer : List ℕ
  pub both : got ≡ older ++ newer
  pub before : ForTurns older
  pub rest : List ℕ
  pub left : Took (held ++ older) ts rest ⊥
  pub lean : ReadsWhileUnfinished rest newer

-- What was read for the turns, one after the other: for each of them no more than it needed.
abbrev pub ReadsFor : List ℕ → List Turn → List ℕ → Type 0
ReadsFor held [] got = got ≡ []
ReadsFor held (t ∷ ts) got = ReadsAfter held ts got (ReadsFor held ts)

-- What was read for the turns, and for a request after them that never came whole.
abbrev pub ReadsOn : List ℕ → List Turn → List ℕ → Type 0
ReadsOn held ts got = ReadsAfter held ts got (ReadsFor held ts)

-- The clock gave these moments, the first of its readings, where that many are known
abbrev pub Gave : Option (List ℕ) → Option (List ℕ) → List ℕ → Type 0
Gave None new ms = Unit {0}
Gave (Some readings) new ms = length ms ≤ length readings → (rest : List ℕ) × (readings ≡ ms ++ rest) × (new ≡ Some rest)

-- ---- a connection

-- a service, what came on a connection and isn't used yet, the bytes of its reader that are known,
-- and the clock's readings that are known
pub record Side (D : Type 0) : Type 0 where
  pub service : D
  pub held : List ℕ
  pub left : Option (List ℕ)
  pub unknown : Bool
  pub readings : Option (List ℕ)

abbrev pub side : {D : Type 0} → D → List ℕ → Option (List ℕ) → Bool → Option (List ℕ) → Side D
side service held left unknown readings = record { service = service; held = held; left = left; unknown = unknown; readings = readings }

-- no more bytes are left
abbrev pub AtEndOf : {D : Type 0} → Side D → Type 0
AtEndOf s = s.unknown ≡ false → IsAtEnd s.left

-- the turns in a row ended the connection, with the newest of them
abbrev pub EndedBy : List Turn → End → Type 0
EndedBy [] e = ⊥
EndedBy (t ∷ ts) e = (t.ended ≡ Some e) × GoOn ts

-- how a connection ended whose responses were all written
abbrev pub EndsAs : {D : Type 0} → Side D → List Turn → End → Type 0
EndsAs s ts Closed = EndedBy ts Closed ⊎ (GoOn ts × EndsWith s.held ending.Closed × AtEndOf s)
EndsAs s ts Limit = EndedBy ts Limit
EndsAs s ts BadInput = EndedBy ts BadInput
EndsAs s ts ReadFault = GoOn ts × IsUnfinished s.held
EndsAs s ts WriteFault = ⊥
EndsAs s ts (Faulted fault) = EndedBy ts (Faulted fault)

-- What was read on a connection that ended like this: after a turn that ended it, nothing more;
-- where it went on after the last turn, what was read for a request that never came whole
abbrev pub ReadsUntil : List ℕ → List Turn → End → List ℕ → Type 0
ReadsUntil held ts e got = (EndedBy ts e × ReadsFor held ts got) ⊎ (GoOn ts × ReadsOn held ts got)

-- why no turn is taken: nothing is left after the last one, or a read failed
abbrev pub EndsUnasked : {D : Type 0} → Side D → End → Type 0
EndsUnasked s e = ((e ≡ Closed) × EndsWith s.held ending.Closed × AtEndOf s) ⊎ ((e ≡ ReadFault) × IsUnfinished s.held)

-- How many reads failed, and how many were interrupted. At a read fault at least one failed, and no
-- more than the inbox admitted; at any other end each failure was an interruption, and the read was
-- tried again
abbrev pub ReadsFail : End → ℕ → ℕ → ℕ → ℕ → Type 0
ReadsFail Closed count count2 failures failures2 = CountsInterrupted count count2 failures failures2
ReadsFail Limit count count2 failures failures2 = CountsInterrupted count count2 failures failures2
ReadsFail BadInput count count2 failures failures2 = CountsInterrupted count count2 failures failures2
ReadsFail ReadFault count count2 failures failures2 = RisesBetween 1 (failures_admitted count) failures failures2
ReadsFail WriteFault count count2 failures failures2 = CountsInterrupted count count2 failures failures2
ReadsFail (Faulted fault) count count2 failures failures2 = CountsInterrupted count count2 failures failures2

module _ {D : Type 0} (dialogue : Dialogue D) where
  -- the turns by a service, each on what the older ones left, and the service that they leave
  abbrev pub Follow : D → List Turn → D → Type 0
  Follow M [] N = N ≡ M
  Follow M (t ∷ ts) N = (K : D) × Follow M ts K × IsTurn dialogue K (length ts + 1 == request_limit) t N

  -- the turns, of everything that was held at first or that the reader has given since
  pub record Course (old new : Side D) (ts : List Turn) : Type 0 where
    pub got : List ℕ
    pub gave : Reads old.left new.left new.unknown got
    pub took : Took (old.held ++ got) ts new.held (AtEndOf new)
    pub follow : Follow old.service ts new.service
    pub asked : Gave old.readings new.readings (moments ts)

  -- one more turn, and what came of its response
  pub record GoesTo (old new : Side D) (last : Bool) (out out2 : Option (List ℕ)) (out_unknown : Bool) (responded : Responded) : Type 0 where
    pub cause : Cause
    pub got : List ℕ
    pub gave : Reads old.left new.left new.unknown got
    pub lean : ReadsWhileUnfinished old.held got
    pub took : TakenOf (old.held ++ got) new.held (AtEndOf new) (taken_for cause)
    pub responds : Responds dialogue old.service cause last new.service out out2 out_unknown responded
    pub asked : Gave old.readings new.readings (moment_of cause)

  -- no turn
  pub record Rests (old new : Side D) (e : End) : Type 0 where
    pub got : List ℕ
    pub gave : Reads old.left new.left new.unknown got
    pub lean : ReadsWhileUnfinished old.held got
    pub held : new.held ≡ old.held ++ got
    pub service : new.service ≡ old.service
    pub readings : new.readings ≡ old.readings
    pub ends : EndsUnasked new e

  -- ---- the whole connection

  -- everything was written of the turns
  pub record Completes (old new : Side D) (out out2 : Option (List ℕ)) (out_unknown : Bool) (s : Served) : Type 0 where
    pub turns : List Turn
    pub course : Course old new turns
    pub lean : ReadsUntil old.held turns s.end course.got
    pub wrote : Writes out out2 out_unknown (written dialogue.speaks turns)
    pub ends : EndsAs new turns s.end
    pub count : s.requests ≡ requests turns

  -- A write failed: the older responses were written whole, and the newest only in part. After this
  -- turn nothing was asked or read.
  pub record BreaksOff (old new : Side D) (out out2 : Option (List ℕ)) (out_unknown : Bool) (s : Served) : Type 0 where
    pub newest : Turn
    pub older : List Turn
    pub course : Course old new (newest ∷ older)
    pub lean : ReadsFor old.held (newest ∷ older) course.got
    pub go_on : GoOn older
    pub sent : ℕ
    pub is_less : sent < length (response_of dialogue.speaks newest)
    pub wrote : Writes out out2 out_unknown (written dialogue.speaks older ++ take sent (response_of dialogue.speaks newest))
    pub ends : s.end ≡ WriteFault
    pub count : s.requests ≡ requests older

  -- A fault came in the middle of a packument. The older responses were written whole. The newest
  -- was begun as that of the packument, and a part of it was written, of at least a byte. The
  -- outcome of this turn is the fault; nothing was written of the fault, and nothing was asked or
  -- read after it.
  pub record IsCutShort (old new : Side D) (out out2 : Option (List ℕ)) (out_unknown : Bool) (s : Served) : Type 0 where
    pub newest : Turn
    pub older : List Turn
    pub course : Course old new (newest ∷ older)
    pub lean : ReadsFor old.held (newest ∷ older) course.got
    pub go_on : GoOn older
    pub fault : Fault
    pub is_fault : newest.outcome ≡ Err fault
    pub begun : Turn
    pub may_begin : MayBegin dialogue course.follow.0 (length older + 1 == request_limit) newest.cause begun fault new.service
    pub sent : ℕ
    pub some : 0 < sent
    pub is_within : sent < length (response_of dialogue.speaks begun)
    pub wrote : Writes out out2 out_unknown (written dialogue.speaks older ++ take sent (response_of dialogue.speaks begun))
    pub ends : s.end ≡ Faulted fault
    pub count : s.requests ≡ requests older

  abbrev pub IsServed : Side D → Side D → Option (List ℕ) → Option (List ℕ) → Bool → Served → Type 0
  IsServed old new out out2 out_unknown s = Completes old new out out2 out_unknown s ⊎ (BreaksOff old new out out2 out_unknown s ⊎ IsCutShort old new out out2 out_unknown s)
