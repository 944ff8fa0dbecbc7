-- Many connections that take turns with one service: what may happen, and the one list of turns
-- that it amounts to.
use Rattle.std.specs.Prelude.{◌≡◌, ◌+◌, ◌==◌, ◌||◌, ◌++◌, ◌∷◌, [], ℕ, Bool, true, false, List, length, if◌then◌else◌}
use Rattle.registry_wire.specs.Reading.{TakenOf}
use Rattle.registry_service.specs.Courses.{GoOn, Took, taken_for, written}
use Rattle.registry_service.specs.Turns.{Dialect, Dialogue, IsTurn, Turn, request_limit, response_of}

-- a connection
pub record Transcript : Type 0 where
  -- all that ever came
  pub came : List ℕ
  -- the bytes of it that no turn was taken for: they are held, or came after the end and are
  -- dropped
  pub rest : List ℕ
  -- no more comes
  pub shut : Bool
  -- all that was answered, and what of it was sent
  pub out : List ℕ
  pub sent : List ℕ

abbrev pub new_transcript : Transcript
new_transcript = record { came = []; rest = []; shut = false; out = []; sent = [] }

-- bytes come
abbrev pub with_bytes : List ℕ → Transcript → Transcript
with_bytes bytes l = record { came = l.came ++ bytes; rest = l.rest ++ bytes; shut = l.shut; out = l.out; sent = l.sent }

-- the other side sends no more
abbrev pub at_end : Transcript → Transcript
at_end l = record { came = l.came; rest = l.rest; shut = true; out = l.out; sent = l.sent }

-- a turn is taken, and leaves this of what had come
abbrev pub with_turn : Dialect → Turn → List ℕ → Transcript → Transcript
with_turn speaks t rest l = record { came = l.came; rest = rest; shut = l.shut; out = l.out ++ response_of speaks t; sent = l.sent }

-- this was sent by now
abbrev pub with_sent : List ℕ → Transcript → Transcript
with_sent sent l = record { came = l.came; rest = l.rest; shut = l.shut; out = l.out; sent = sent }

-- a turn, the connection that it was taken on, and whether the server was to end then
pub record LogEntry : Type 0 where
  pub from : ℕ
  pub stops : Bool
  pub turn : Turn

-- the turns of a connection, in the order of the whole list
abbrev pub turns_of : ℕ → List LogEntry → List Turn
turns_of k [] = []
turns_of k (e ∷ es) = if k == e.from then e.turn ∷ turns_of k es else turns_of k es

-- a service, all connections by their numbers, and all turns, the newest first
pub record World (D : Type 0) : Type 0 where
  pub service : D
  pub transcripts : ℕ → Transcript
  pub log : List LogEntry

abbrev pub start : {D : Type 0} → D → World D
start M = record { service = M; transcripts = λ k. new_transcript; log = [] }

abbrev pub changed : (ℕ → Transcript) → ℕ → (Transcript → Transcript) → ℕ → Transcript
changed transcripts on change k = if k == on then change (transcripts k) else transcripts k

-- one connection is changed
abbrev pub on_connection : {D : Type 0} → World D → ℕ → (Transcript → Transcript) → World D
on_connection w on change = record { service = w.service; transcripts = changed w.transcripts on change; log = w.log }

-- a turn is taken on a connection, by a server that is to end or isn't
abbrev pub turned_on : {D : Type 0} → Dialect → World D → ℕ → Bool → Turn → List ℕ → D → World D
turned_on speaks w on stops t rest N = record { service = N; transcripts = changed w.transcripts on (with_turn speaks t rest); log = record { from = on; stops = stops; turn = t } ∷ w.log }

-- the next turn of a connection that had these turns is the last that it may have: because its
-- server is to end, or by the limit
abbrev pub is_last : Bool → List Turn → Bool
is_last stops ts = stops || (length ts + 1 == request_limit)

-- a connection that had these turns is what they leave
pub record IsTranscript (speaks : Dialect) (ts : List Turn) (l : Transcript) : Type 0 where
  pub took : Took l.came ts l.rest (l.shut ≡ true)
  pub answered : l.out ≡ written speaks ts
  pub prefix : (later : List ℕ) × (l.out ≡ l.sent ++ later)

-- only the newest turn may have ended the connection
abbrev pub EndsOnce : List Turn → Type 0
EndsOnce [] = Unit {0}
EndsOnce (t ∷ ts) = GoOn ts

module _ {D : Type 0} (dialogue : Dialogue D) where
  -- What may happen, from a service: bytes come on a connection, or their end; a turn is taken on a
  -- connection that goes on, and is its last where the server is to end; some of what was answered
  -- is sent
  pub data Reached (M : D) : World D → Type 0 where
    begins : Reached M (start M)
    comes : (w : World D) → Reached M w → (on : ℕ) (bytes : List ℕ) → (w.transcripts on).shut ≡ false → Reached M (on_connection w on (with_bytes bytes))
    shuts : (w : World D) → Reached M w → (on : ℕ) → Reached M (on_connection w on at_end)
    turns : (w : World D) → Reached M w → (on : ℕ) (stops : Bool) (t : Turn) (rest : List ℕ) (N : D) → GoOn (turns_of on w.log)
        → TakenOf (w.transcripts on).rest rest ((w.transcripts on).shut ≡ true) (taken_for t.cause) → IsTurn dialogue w.service (is_last stops (turns_of on w.log)) t N
        → Reached M (turned_on dialogue.speaks w on stops t rest N)
    sends : (w : World D) → Reached M w → (on : ℕ) (sent later : List ℕ) → (w.transcripts on).out ≡ sent ++ later → Reached M (on_connection w on (with_sent sent))

  -- each turn was taken at the service that all older ones left, whichever connection they were on
  abbrev pub FollowAll : D → List LogEntry → D → Type 0
  FollowAll M [] N = N ≡ M
  FollowAll M (e ∷ es) N = (K : D) × FollowAll M es K × IsTurn dialogue K (is_last e.stops (turns_of e.from es)) e.turn N

  -- There is one list of turns: the service is what they leave, and each connection is what its own
  -- turns among them leave
  pub record IsOneHistory (M : D) (w : World D) : Type 0 where
    pub service : FollowAll M w.log w.service
    pub transcripts : (k : ℕ) → IsTranscript dialogue.speaks (turns_of k w.log) (w.transcripts k)
    pub once : (k : ℕ) → EndsOnce (turns_of k w.log)
