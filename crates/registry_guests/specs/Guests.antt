-- A guest: what is received from it, what it is answered, and what of that is sent.
use Rattle.std.specs.Prelude.{◌≡◌, ◌⊎◌, ◌+◌, ◌-◌, ◌<◌, ◌≤◌, ◌++◌, ◌∷◌, ◌^◌, min, nat_le, ℕ, Bool, true, List, [], Option, Some, None, IfNone, length}
use Rattle.std.specs.Io.KnownBytes.{append_known}
use Rattle.registry_service.specs.Courses.{Gave}
use Rattle.registry_service.specs.Turns.{Answering}
use Rattle.registry_guests.specs.GuestTurns.{IsGuestTurn, on_memory}
use Rattle.registry_guests.specs.Outputs.{Output, prints, sent_as}
use Rattle.registry_guests.specs.Spelling.{AreWords, spelling}

-- the most bytes of a message: a body, one byte more to see that it is too large, and 8 MiB of words
abbrev pub message_limit : ℕ
message_limit = 12_582_913

-- how many milliseconds a guest has in all
abbrev pub time_limit : ℕ
time_limit = 8_000

-- its socket, the part of its message that came, the part of its answer that isn't sent (once it
-- has one), and until when it has time
pub record OpenGuest (S : Type 0) : Type 0 where
  pub socket : S
  pub held : List ℕ
  pub left : Option (List ℕ)
  pub until : ℕ

abbrev pub guest_at : {S : Type 0} → S → List ℕ → Option (List ℕ) → ℕ → OpenGuest S
guest_at socket held left until = record { socket = socket; held = held; left = left; until = until }

-- What a guest waits for: that its socket gives more of its message, or, once that is answered,
-- that its socket takes some of the answer. So it has to wait where the socket has nothing, or is
-- full.
abbrev pub must_wait_in : Option (List ℕ) → Bool → Bool → Bool
must_wait_in None has_none is_full = has_none
must_wait_in (Some left) has_none is_full = is_full

-- a guest has to wait
abbrev pub must_wait : {S : Type 0} → (S → Bool) → (S → Bool) → OpenGuest S → Bool
must_wait has_none is_full g = must_wait_in g.left (has_none g.socket) (is_full g.socket)

-- one that has just come
abbrev pub first_guest : {S : Type 0} → S → ℕ → OpenGuest S
first_guest socket now = guest_at socket [] None (min (now + time_limit) (2 ^ 64 - 1))

abbrev pub is_late : {S : Type 0} → OpenGuest S → ℕ → Bool
is_late g now = nat_le g.until now

-- no more of its message is held than a message may have
abbrev pub IsWithin : {S : Type 0} → OpenGuest S → Type 0
IsWithin g = length g.held ≤ message_limit

-- bytes that aren't a message
abbrev pub IsNoMessage : List ℕ → Type 0
IsNoMessage bytes = (ws : List (List ℕ)) (body : List ℕ) → AreWords ws → length body < 2 ^ 64 → bytes ≡ spelling ws body → ⊥

-- no answer to it has begun, and what came of it is no message; or its answer has begun
abbrev pub HasNoMessage : {S : Type 0} → OpenGuest S → Type 0
HasNoMessage g = IfNone g.left (IsNoMessage g.held)

module _ {S : Type 0} (received sent : S → Option (List ℕ)) where
  -- At most this many bytes were received, and are held after the others. Nothing was sent.
  pub record Receives (most : ℕ) (old new : S) (held held2 : List ℕ) : Type 0 where
    pub got : List ℕ
    pub few : length got ≤ most
    pub gave : received new ≡ append_known (received old) got
    pub unsent : sent new ≡ sent old
    pub keeps : held2 ≡ held ++ got

  -- The socket took some of the first bytes of what is due, and the others are left. Nothing was
  -- received.
  pub record SendsDue (old new : S) (due left : List ℕ) : Type 0 where
    pub put : List ℕ
    pub took : sent new ≡ append_known (sent old) put
    pub unread : received new ≡ received old
    pub parts : due ≡ put ++ left

module _ {D : Type 0} (answers : Answering D) where
  -- these bytes are a message, and a turn is taken for it at the clock's moment, with this output
  abbrev pub TakesTurn : List ℕ → Output → D → D → Option (List ℕ) → Option (List ℕ) → Type 0
  TakesTurn bytes output M N readings readings2 =
      (ws : List (List ℕ)) × (body : List ℕ) × (now : ℕ) × AreWords ws × (bytes ≡ spelling ws body)
      × IsGuestTurn answers M ws body now (prints output) N × Gave readings readings2 (now ∷ [])

  -- there is no memory, as the output says, and neither the service nor the clock is asked
  abbrev pub Starves : Output → D → D → Option (List ℕ) → Option (List ℕ) → Type 0
  Starves output M N readings readings2 = (prints output ≡ on_memory) × (N ≡ M) × (readings2 ≡ readings)

  -- the answer to a message: its turn is taken, or there is no memory to read it
  abbrev pub AnswersMessage : List ℕ → Output → D → D → Option (List ℕ) → Option (List ℕ) → Type 0
  AnswersMessage bytes output M N readings readings2 = TakesTurn bytes output M N readings readings2 ⊎ Starves output M N readings readings2

module _ {S : Type 0} (received sent : S → Option (List ℕ)) (has_none : S → Bool) {D : Type 0} (answers : Answering D) where
  -- More of its message came. Neither the service nor the clock is asked.
  pub record ReceivesMore (most : ℕ) (old new : OpenGuest S) (M N : D) (readings readings2 : Option (List ℕ)) : Type 0 where
    pub receives : Receives received sent most old.socket new.socket old.held new.held
    pub unanswered : new.left ≡ None
    pub service : N ≡ M
    pub unasked : readings2 ≡ readings

  -- The other side is still there, and nothing came in this visit: what is held is all that was
  -- received, and is answered as a message.
  pub record IsComplete (held gathered : List ℕ) (socket : S) (output : Output) (M N : D) (readings readings2 : Option (List ℕ)) : Type 0 where
    pub waits : has_none socket ≡ true
    pub all : gathered ≡ held
    pub answered : AnswersMessage answers held output M N readings readings2

  -- why an answer begins: the message is complete, or there is no memory to hold what came
  abbrev pub IsDue : List ℕ → List ℕ → S → Output → D → D → Option (List ℕ) → Option (List ℕ) → Type 0
  IsDue held gathered socket output M N readings readings2 =
      IsComplete held gathered socket output M N readings readings2
      ⊎ ((length held < length gathered) × Starves answers output M N readings readings2)

  -- Its answer begins, and some of it is sent. What was held stays.
  pub record Begins (most : ℕ) (old new : OpenGuest S) (M N : D) (readings readings2 : Option (List ℕ)) : Type 0 where
    pub between : S
    pub gathered : List ℕ
    pub receives : Receives received sent most old.socket between old.held gathered
    pub output : Output
    pub due : IsDue old.held gathered between output M N readings readings2
    pub left : List ℕ
    pub sends : SendsDue received sent between new.socket (sent_as output) left
    pub begun : new.left ≡ Some left
    pub held : new.held ≡ old.held

  -- Some more of the answer is sent. What was held stays, and neither the service nor the clock is
  -- asked.
  pub record GoesOn (old new : OpenGuest S) (due : List ℕ) (M N : D) (readings readings2 : Option (List ℕ)) : Type 0 where
    pub left : List ℕ
    pub sends : SendsDue received sent old.socket new.socket due left
    pub begun : new.left ≡ Some left
    pub held : new.held ≡ old.held
    pub service : N ≡ M
    pub unasked : readings2 ≡ readings

  abbrev pub VisitsIn : ℕ → Option (List ℕ) → OpenGuest S → OpenGuest S → D → D → Option (List ℕ) → Option (List ℕ) → Type 0
  VisitsIn most None old new M N readings readings2 = ReceivesMore most old new M N readings readings2 ⊎ Begins most old new M N readings readings2
  VisitsIn most (Some due) old new M N readings readings2 = GoesOn old new due M N readings readings2

  -- A visit of a guest: before its answer begins, more of its message is received, and the message
  -- is answered once; then the answer is sent. At most this many bytes are received, and its time
  -- doesn't change.
  pub record Visits (most : ℕ) (old new : OpenGuest S) (M N : D) (readings readings2 : Option (List ℕ)) : Type 0 where
    pub does : VisitsIn most old.left old new M N readings readings2
    pub until : new.until ≡ old.until

-- Before it is answered: its socket is broken; what it sent is too long; or it sends no more, and so
-- has gone. Then: its whole answer was sent, or its socket is broken.
abbrev pub IsOverIn : List ℕ → Option (List ℕ) → Bool → Bool → Type 0
IsOverIn held None ended broken = (broken ≡ true) ⊎ (message_limit < length held) ⊎ (ended ≡ true)
IsOverIn held (Some left) ended broken = (left ≡ []) ⊎ (broken ≡ true)

-- why a guest is over
abbrev pub IsOver : {S : Type 0} → (S → Bool) → (S → Bool) → OpenGuest S → Type 0
IsOver is_ended is_broken g = IsOverIn g.held g.left (is_ended g.socket) (is_broken g.socket)
