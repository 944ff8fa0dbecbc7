-- An open connection with its socket, and what a visit makes of both.
use Rattle.std.specs.Prelude.{◌≡◌, ◌≢◌, ◌≤◌, ◌==◌, ◌⊎◌, ◌++◌, ◌&&◌, [], ℕ, Bool, true, false, List, Option, None, Some, IsSome, codes, is_none, is_some, length, nat_eq, nat_lt, not, if◌then◌else◌}
use Rattle.std.proofs.Common.{inl, inr}
use Rattle.std.specs.Io.KnownBytes.{append_known}
use Rattle.std.specs.List.{starts_with}
use Rattle.registry_wire.specs.Spelling.{HasRequest, IsUnfinished, head_limit}
use Rattle.registry_wire.specs.declared.wanted.Wanted.{Wanted}
use Rattle.registry_service.specs.Turns.{Dialogue, Exchange}
use Rattle.registry_service.specs.declared.turning.End.{End}
use Rattle.registry_server.specs.ConnectionStates.{IsStarved, MayTakeTurn, Pending, TakesNone, TakesTurn, holding, lasting, sending}
use Rattle.registry_server.specs.Phases.{HeardAt, LookedAt, SentAt, entered, is_under_way, receives, takes_turns, waited}
use Rattle.registry_server.specs.declared.phase.Phase.{Phase}
use Rattle.registry_server.specs.declared.phase.Stage.{Stage}
use Rattle.registry_server.specs.declared.phase.Stage.TheVariants.{Idle, Begun, Next, Sends, Drains}

-- a socket, what is left to do on the connection, its stage and until when that may last, and
-- whether the other side sends no more
pub record OpenConnection (S : Type 0) : Type 0 where
  pub socket : S
  pub state : Pending
  pub phase : Phase
  pub is_over : Bool

abbrev pub connected : {S : Type 0} → S → Pending → Phase → Bool → OpenConnection S
connected socket state phase is_over = record { socket = socket; state = state; phase = phase; is_over = is_over }

-- What is held and due at each stage. Where a connection takes turns, everything is sent and it
-- goes on; where more has to come, no whole request is held.
pub record IsInOrder (stage : Stage) (p : Pending) : Type 0 where
  pub turns : takes_turns stage ≡ true → MayTakeTurn p
  pub waits : receives stage ≡ true → IsUnfinished p.held
  pub idle : stage ≡ Idle → p.held ≡ []
  pub begun : stage ≡ Begun → p.held ≢ []
  pub next : stage ≡ Next → p.held ≢ []
  pub sends : stage ≡ Sends → p.outgoing ≢ []
  pub drains : stage ≡ Drains → p.outgoing ≡ []
  pub ends : stage ≡ Drains → IsSome p.ends

-- the stage of a connection once everything is sent
abbrev pub stage_after : Pending → Stage
stage_after p = if is_some p.ends then Drains else (if length p.held == 0 then Idle else Next)

-- What a connection waits for at a stage: while a response is due, that its socket takes some of
-- it, and otherwise that its socket gives something. So it has to wait where the socket is full, or
-- has nothing.
abbrev pub must_wait_in : Stage → Bool → Bool → Bool
must_wait_in Idle has_none is_full = has_none
must_wait_in Begun has_none is_full = has_none
must_wait_in Next has_none is_full = has_none
must_wait_in Sends has_none is_full = is_full
must_wait_in Drains has_none is_full = has_none

-- a connection has to wait
abbrev pub must_wait : {S : Type 0} → (S → Bool) → (S → Bool) → OpenConnection S → Bool
must_wait has_none is_full c = must_wait_in c.phase.stage (has_none c.socket) (is_full c.socket)

-- a body is under way where more bytes are held of a request that isn't whole than a head may have
abbrev pub body_least : ℕ
body_least = head_limit

abbrev pub has_body_in : Stage → ℕ → Bool
has_body_in Idle held = false
has_body_in Begun held = nat_lt body_least held
has_body_in Next held = false
has_body_in Sends held = false
has_body_in Drains held = false

-- a body is under way on a connection
abbrev pub has_body : {S : Type 0} → OpenConnection S → Bool
has_body c = has_body_in c.phase.stage (length c.state.held)

-- since when a body is under way, if one is: since its request began
abbrev pub body_since : {S : Type 0} → OpenConnection S → Option ℕ
body_since c = if has_body c then Some c.phase.since else None

-- the first byte of `GET`, with which no method of a command begins
abbrev pub query_start : List ℕ
query_start = codes "G"

-- a request is under way on a connection, and may be a command, as it doesn't begin as a query does
abbrev pub may_command : {S : Type 0} → OpenConnection S → Bool
may_command c = is_under_way c.phase.stage && not (starts_with nat_eq c.state.held query_start)

-- at these stages a request was answered, and what follows it wasn't looked at yet
abbrev pub is_answered_in : Stage → Option End → Bool
is_answered_in Idle ends = false
is_answered_in Begun ends = false
is_answered_in Next ends = is_none ends
is_answered_in Sends ends = is_none ends
is_answered_in Drains ends = false

-- the request of a connection was answered, and it goes on
abbrev pub is_answered : {S : Type 0} → OpenConnection S → Bool
is_answered c = is_answered_in c.phase.stage c.state.ends

-- then what is held follows a whole request, which came first of all these bytes
abbrev pub LeavesRest : {S : Type 0} → List ℕ → OpenConnection S → Type 0
LeavesRest all c = is_answered c ≡ true → (w : Wanted) × HasRequest all w c.state.held

-- then no more is held than one read gives
abbrev pub LeavesLittle : {S : Type 0} → ℕ → OpenConnection S → Type 0
LeavesLittle most c = is_answered c ≡ true → length c.state.held ≤ most

-- the same connection, while it waits for others
abbrev pub waiting : {S : Type 0} → ℕ → OpenConnection S → OpenConnection S
waiting now c = connected c.socket c.state (waited c.phase now) c.is_over

-- the same connection, but its next request, if it may have one, is its last
abbrev pub finishing : {S : Type 0} → OpenConnection S → OpenConnection S
finishing c = connected c.socket (lasting c.state) c.phase c.is_over

-- Everything is sent, and nothing is left to answer: no byte is held, or the connection has ended.
pub record IsDone (p : Pending) : Type 0 where
  pub all_sent : p.outgoing ≡ []
  pub none_left : (p.held ≡ []) ⊎ IsSome p.ends

-- The connection is broken; or the other side sends no more, and everything is answered and sent.
abbrev pub IsLost : {S : Type 0} → (S → Bool) → (S → Bool) → OpenConnection S → Type 0
IsLost is_ended is_broken c = (is_broken c.socket ≡ true) ⊎ ((is_ended c.socket ≡ true) × (c.is_over ≡ true) × IsDone c.state)

module _ {S : Type 0} (received sent : S → Option (List ℕ)) where
  -- At most this many bytes were received, and are held after those that were held before. Where
  -- there was no memory for them, none of them is held.
  pub record Receives (now most : ℕ) (old new : OpenConnection S) (kept : Bool) : Type 0 where
    pub got : List ℕ
    pub few : length got ≤ most
    pub gave : received new.socket ≡ append_known (received old.socket) got
    pub unsent : sent new.socket ≡ sent old.socket
    pub state : new.state ≡ (if kept then holding old.state (old.state.held ++ got) else old.state)
    pub none : old.is_over ≡ true → got ≡ []
    pub over : old.is_over ≡ true → new.is_over ≡ true
    pub times : HeardAt now old.phase new.phase

  -- The socket took bytes to send, the first of those that were due, and the others are still due.
  pub record SendsDue (now : ℕ) (old new : OpenConnection S) : Type 0 where
    pub put : List ℕ
    pub took : sent new.socket ≡ append_known (sent old.socket) put
    pub unread : received new.socket ≡ received old.socket
    pub state : old.state ≡ sending new.state (put ++ new.state.outgoing)
    pub over : new.is_over ≡ old.is_over
    pub times : SentAt now (length put) old.phase new.phase

  -- A lack of memory for what was received was answered, and the socket took some of what is due
  -- then.
  pub record StarvesOnce (now : ℕ) (old new : OpenConnection S) : Type 0 where
    pub due : Pending
    pub starved : IsStarved old.state due
    pub put : List ℕ
    pub took : sent new.socket ≡ append_known (sent old.socket) put
    pub unread : received new.socket ≡ received old.socket
    pub sends : due ≡ sending new.state (put ++ new.state.outgoing)
    pub over : new.is_over ≡ old.is_over
    pub times : SentAt now (length put) (entered old.phase Sends now) new.phase

  -- At most this many bytes were received and dropped.
  pub record Drops (most : ℕ) (old new : OpenConnection S) : Type 0 where
    pub got : List ℕ
    pub few : length got ≤ most
    pub gave : received new.socket ≡ append_known (received old.socket) got
    pub unsent : sent new.socket ≡ sent old.socket
    pub state : new.state ≡ old.state
    pub over : old.is_over ≡ true → new.is_over ≡ true
    pub times : new.phase ≡ old.phase

-- While the connection goes on, what was received is held after what was held before. It is dropped
-- only where the connection had ended before, or where there was no memory for it, which is
-- answered.
abbrev pub Keeps : List ℕ → Pending → Bool → Pending → Pending → Type 0
Keeps got old over read due =
    ((old.ends ≡ None) × (read ≡ holding old (old.held ++ got)) × (over ≡ true → got ≡ []))
    ⊎ ((read ≡ old) × (IsSome old.ends ⊎ IsStarved old due))

-- More may be received at a stage where no byte is held, where a request was begun that isn't
-- whole, or where the connection has ended; and everything was sent.
abbrev pub MayReceive : Stage → Pending → Type 0
MayReceive Idle p = (p.outgoing ≡ []) × (p.held ≡ [])
MayReceive Begun p = (p.outgoing ≡ []) × IsUnfinished p.held
MayReceive Next p = ⊥
MayReceive Sends p = ⊥
MayReceive Drains p = (p.outgoing ≡ []) × IsSome p.ends

-- no more is received than is needed
abbrev pub ReceivesLean : List ℕ → Stage → Pending → Type 0
ReceivesLean got stage old = (got ≡ []) ⊎ MayReceive stage old

module _ {D : Type 0} (answers : Dialogue D) where
  -- A turn is taken, where everything is sent and the connection goes on.
  pub record TakesOne (old new : Pending) (M N : D) (readings readings2 : Option (List ℕ)) (over : Bool) : Type 0 where
    pub may : MayTakeTurn old
    pub takes : TakesTurn answers old new M N readings readings2 over

  -- what is asked of the service in the turn, if one is taken
  abbrev pub asked_in_turn : {old new : Pending} {M N : D} {readings readings2 : Option (List ℕ)} {over : Bool} {A B : Type 0} → (TakesOne old new M N readings readings2 over × A) ⊎ B → List Exchange
  asked_in_turn (inl turn) = turn.0.takes.turns.exchanges
  asked_in_turn (inr none) = []

module _ {S : Type 0} (received sent : S → Option (List ℕ)) {D : Type 0} (answers : Dialogue D) where
  -- A turn was taken, or none, and the socket took some of what is due then.
  pub record AnswersOnce (now : ℕ) (old new : OpenConnection S) (M N : D) (readings readings2 : Option (List ℕ)) : Type 0 where
    pub due : Pending
    pub put : List ℕ
    pub turns : (TakesOne answers old.state due M N readings readings2 old.is_over × SentAt now (length put) (entered old.phase Sends now) new.phase)
        ⊎ (TakesNone answers old.state due M N readings readings2 × (put ≡ []) × LookedAt now old.phase new.phase)
    pub took : sent new.socket ≡ append_known (sent old.socket) put
    pub unread : received new.socket ≡ received old.socket
    pub sends : due ≡ sending new.state (put ++ new.state.outgoing)
    pub over : new.is_over ≡ old.is_over

  -- A visit of a connection. Exactly the bytes that it received from its socket are held after the
  -- others, or dropped where it had ended; it receives no more than is needed, nor more than this
  -- many. A turn is taken of what is held, or none. What is due then is exactly what the socket
  -- took to send, followed by what isn't sent yet. A stage that lasts keeps its time, and that of a
  -- response begins with its turn.
  pub record Visits (now most : ℕ) (old new : OpenConnection S) (M N : D) (readings readings2 : Option (List ℕ)) : Type 0 where
    pub got : List ℕ
    pub few : length got ≤ most
    pub gave : received new.socket ≡ append_known (received old.socket) got
    pub lean : ReceivesLean got old.phase.stage old.state
    pub read : Pending
    pub due : Pending
    pub keeps : Keeps got old.state old.is_over read due
    pub put : List ℕ
    pub turns : (TakesOne answers read due M N readings readings2 new.is_over × SentAt now (length put) (entered old.phase Sends now) new.phase)
        ⊎ (TakesNone answers read due M N readings readings2 × SentAt now (length put) old.phase new.phase)
    pub took : sent new.socket ≡ append_known (sent old.socket) put
    pub sends : due ≡ sending new.state (put ++ new.state.outgoing)
    pub over : old.is_over ≡ true → new.is_over ≡ true

  -- what is asked of the service in a visit
  abbrev pub asked_in_visit : {now most : ℕ} {old new : OpenConnection S} {M N : D} {readings readings2 : Option (List ℕ)} → Visits now most old new M N readings readings2 → List Exchange
  asked_in_visit visit = asked_in_turn answers visit.turns

  -- and in an answer to what is held
  abbrev pub asked_in_answer : {now : ℕ} {old new : OpenConnection S} {M N : D} {readings readings2 : Option (List ℕ)} → AnswersOnce now old new M N readings readings2 → List Exchange
  asked_in_answer answered = asked_in_turn answers answered.turns
