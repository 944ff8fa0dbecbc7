-- The control socket of a server: what holds the server or stops it, one connection at a time.
use Rattle.std.specs.Prelude.{◌≡◌, ◌⊎◌, ◌+◌, ◌-◌, ◌^◌, ◌==◌, ◌∷◌, [], min, nat_le, ℕ, Bool, true, false, List, Option, Some, None, IfSome, is_none, is_some, not, option_map, ◌&&◌, ◌||◌, if◌then◌else◌}
use Rattle.std.specs.Io.KnownBytes.{append_known}
use Rattle.registry_server.specs.declared.connection.Visit.{Visit}
use Rattle.registry_server.specs.declared.connection.Visit.TheVariants.{Again, Rests, Over}
use Rattle.registry_guests.specs.declared.control.Control.{Control}
use Rattle.registry_guests.specs.declared.control.ControlInput.{ControlInput}
use Rattle.registry_guests.specs.declared.control.ControlInput.TheVariants as inputs
use Rattle.registry_guests.specs.declared.control.ControlConnection.{ControlConnection}
use Rattle.registry_guests.specs.declared.control_session.ControlSession.{ControlSession}
use Rattle.registry_guests.specs.declared.control_session.ControlSession.TheVariants.{Silent, Holds, Stops}

-- ---- what a connection asks for

-- by `h` a connection asks to hold the server, by `k` whether it still does, and by `s` to stop it
abbrev pub hold_byte : ℕ
hold_byte = 104

abbrev pub kept_byte : ℕ
kept_byte = 107

abbrev pub stop_byte : ℕ
stop_byte = 115

-- a server is held for at most this many milliseconds
abbrev pub hold_limit : ℕ
hold_limit = 60_000

-- a connection may be silent for this many milliseconds
abbrev pub silence_limit : ℕ
silence_limit = 5_000

abbrev pub time_after : ℕ → ℕ → ℕ
time_after now limit = min (now + limit) (2 ^ 64 - 1)

-- the session of a new connection
abbrev pub first_session : ℕ → ControlSession
first_session now = Silent (time_after now silence_limit)

-- what the first byte makes of a connection; a server that is about to end can't be held
abbrev pub after_silence : ℕ → Bool → ℕ → Option ControlSession
after_silence byte stopping now =
    if (byte == hold_byte) && not stopping then Some (Holds (time_after now hold_limit))
    else (if byte == stop_byte then Some Stops else None)

-- what a byte makes of a connection; every other byte ends it
abbrev pub after : ControlSession → ℕ → Bool → ℕ → Option ControlSession
after (Silent until) byte stopping now = after_silence byte stopping now
after (Holds until) byte stopping now = if byte == kept_byte then Some (Holds until) else None
after Stops byte stopping now = None

-- a connection that waits for the end of the server is never late
abbrev pub is_late : ControlSession → ℕ → Bool
is_late (Silent until) now = nat_le until now
is_late (Holds until) now = nat_le until now
is_late Stops now = false

abbrev pub holds_at : ControlSession → Bool
holds_at (Silent until) = false
holds_at (Holds until) = true
holds_at Stops = false

abbrev pub stops_at : ControlSession → Bool
stops_at (Silent until) = false
stops_at (Holds until) = false
stops_at Stops = true

-- ---- a visit of a connection

abbrev pub connection_at : {S : Type 0} → S → ControlSession → ControlConnection S
connection_at socket session = record { socket = socket; session = session }

-- the bytes that were received
abbrev pub bytes_in : ControlInput → List ℕ
bytes_in (inputs.Byte byte) = byte ∷ []
bytes_in inputs.Nothing = []
bytes_in inputs.Waits = []
bytes_in inputs.Over = []

-- The byte is sent back to a connection that holds the server, after what was sent before; where it
-- can't be sent, the connection ends. Nothing is sent to the others.
abbrev pub Answers : Bool → ℕ → Option (List ℕ) → Option (List ℕ) → Visit → Type 0
Answers false byte before later visit = (later ≡ before) × (visit ≡ Again)
Answers true byte before later visit =
    ((later ≡ append_known before (byte ∷ [])) × (visit ≡ Again)) ⊎ ((later ≡ append_known before []) × (visit ≡ Over))

-- the effect of what the byte makes of the connection
abbrev pub Obeys : Option ControlSession → ℕ → ControlSession → ControlSession → Option (List ℕ) → Option (List ℕ) → Visit → Type 0
Obeys None byte session session2 before later visit = (session2 ≡ session) × (later ≡ before) × (visit ≡ Over)
Obeys (Some next) byte session session2 before later visit = (session2 ≡ next) × Answers (holds_at next) byte before later visit

module _ {S : Type 0} (received sent : S → Option (List ℕ)) (is_ended is_broken : S → Bool) where
  -- No byte came, or one. Where none came, the connection ends only if it sends no more, or its
  -- socket is broken.
  abbrev pub Receives : List ℕ → Bool → ℕ → ControlConnection S → ControlConnection S → Visit → Type 0
  Receives [] stopping now old new visit =
      (new.session ≡ old.session) × (sent new.socket ≡ sent old.socket) × (visit ≡ Over → (is_ended new.socket ≡ true) ⊎ (is_broken new.socket ≡ true))
  Receives (byte ∷ []) stopping now old new visit =
      Obeys (after old.session byte stopping now) byte old.session new.session (sent old.socket) (sent new.socket) visit
  Receives (byte ∷ (more ∷ rest)) stopping now old new visit = ⊥

  -- a visit: the connection does what the byte that came asks for
  abbrev pub Visits : Bool → ℕ → ControlConnection S → ControlConnection S → Visit → Type 0
  Visits stopping now old new visit = (input : List ℕ) × (received new.socket ≡ append_known (received old.socket) input) × Receives input stopping now old new visit

-- ---- the control of a server

abbrev pub control : {S : Type 0} → Option (ControlConnection S) → Bool → Bool → Control S
control connection ready stopping = record { connection = connection; is_ready = ready; is_stopping = stopping }

-- nobody is there, and the server isn't to end
abbrev pub nobody : {S : Type 0} → Control S
nobody = control None false false

abbrev pub is_free : {S : Type 0} → Control S → Bool
is_free c = is_none c.connection

abbrev pub is_due : {S : Type 0} → Control S → Bool
is_due c = c.is_ready && is_some c.connection

abbrev pub holds_with : {S : Type 0} → Option (ControlConnection S) → Bool
holds_with None = false
holds_with (Some v) = holds_at v.session

-- a connection holds the server
abbrev pub holds : {S : Type 0} → Control S → Bool
holds c = holds_with c.connection

-- the server is to end
abbrev pub stops : {S : Type 0} → Control S → Bool
stops c = c.is_stopping

-- the socket of the connection, if one is there
abbrev pub socket_in : {S : Type 0} → Control S → Option S
socket_in {S} c = option_map (λ (v : ControlConnection S). v.socket) c.connection

-- a new connection, which is to be visited
abbrev pub came : {S : Type 0} → ℕ → S → Control S → Control S
came now socket c = control (Some (connection_at socket (first_session now))) true c.is_stopping

-- the connection is to be visited
abbrev pub woken : {S : Type 0} → Control S → Control S
woken c = control c.connection true c.is_stopping

-- the connection ends when its time is up
abbrev pub in_time : {S : Type 0} → ℕ → Option (ControlConnection S) → Option (ControlConnection S)
in_time now None = None
in_time now (Some v) = if is_late v.session now then None else Some v

abbrev pub kept_at : {S : Type 0} → ℕ → Control S → Control S
kept_at now c = control (in_time now c.connection) c.is_ready c.is_stopping

-- nothing comes, or one connection, where nobody is there
abbrev pub AcceptsIfFree : {S : Type 0} → ℕ → Control S → Control S → Type 0
AcceptsIfFree {S} now old new = (new ≡ old) ⊎ ((is_free old ≡ true) × ((socket : S) × (new ≡ came now socket old)))

-- after a visit with this end; once a connection has asked for it, the server is to end
abbrev pub after_visit : {S : Type 0} → Visit → ControlConnection S → Bool → Control S
after_visit Again v stopping = control (Some v) true (stopping || stops_at v.session)
after_visit Rests v stopping = control (Some v) false (stopping || stops_at v.session)
after_visit Over v stopping = control None false (stopping || stops_at v.session)

-- known bytes begin with this one
abbrev pub BeginsWith : ℕ → Option (List ℕ) → Type 0
BeginsWith byte known = IfSome known (λ bytes. (more : List ℕ) × (bytes ≡ byte ∷ more))

module _ {S : Type 0} (received sent : S → Option (List ℕ)) (has_none is_ended is_broken : S → Bool) where
  -- The connection was visited: it goes on at once, rests, or ends. It rests only where its socket
  -- gives nothing.
  pub record VisitsOne (now : ℕ) (stopping : Bool) (old : ControlConnection S) (new : Control S) : Type 0 where
    pub connection : ControlConnection S
    pub visit : Visit
    pub visits : Visits received sent is_ended is_broken stopping now old connection visit
    pub control_after : new ≡ after_visit visit connection stopping
    pub waits : visit ≡ Rests → has_none connection.socket ≡ true

  abbrev pub VisitsThere : ℕ → Option (ControlConnection S) → Bool → Control S → Type 0
  VisitsThere now None stopping new = new ≡ control None false stopping
  VisitsThere now (Some v) stopping new = VisitsOne now stopping v new

  abbrev pub VisitsIf : Bool → ℕ → Control S → Control S → Type 0
  VisitsIf true now old new = VisitsThere now old.connection old.is_stopping new
  VisitsIf false now old new = new ≡ old

  -- the connection is visited if it is there and is to be visited
  abbrev pub VisitsControl : ℕ → Control S → Control S → Type 0
  VisitsControl now old new = VisitsIf old.is_ready now old new

  -- The connection that is there is visited where it is to be, and ends if its time is up. Where nobody
  -- is there then, one may come.
  pub record Attends (now : ℕ) (old new : Control S) : Type 0 where
    pub between : Control S
    pub visits : VisitsControl now old between
    pub accepts : AcceptsIfFree now (kept_at now between) new

  -- ---- what follows from that

  -- The connection that holds the server asked to, while the server wasn't about to end, and was
  -- told so.
  pub record HasAsked (old new : Control S) : Type 0 where
    pub before : ControlConnection S
    pub later : ControlConnection S
    pub was : old.connection ≡ Some before
    pub is : new.connection ≡ Some later
    pub asked : received later.socket ≡ append_known (received before.socket) (hold_byte ∷ [])
    pub told : sent later.socket ≡ append_known (sent before.socket) (hold_byte ∷ [])
    pub goes_on : old.is_stopping ≡ false

  abbrev pub HoldersHaveAsked : Type 0
  HoldersHaveAsked = (now : ℕ) (old new : Control S) → VisitsControl now old new → holds old ≡ false → holds new ≡ true → HasAsked old new

  -- a server that is to end stays so
  abbrev pub StopsStay : Type 0
  StopsStay = (now : ℕ) (old new : Control S) → VisitsControl now old new → stops old ≡ true → stops new ≡ true

  -- ---- over a whole life

  -- nothing has come from a socket yet, and nothing was sent to it
  abbrev pub IsSilent : S → Type 0
  IsSilent socket = IfSome (received socket) (λ bytes. bytes ≡ []) × IfSome (sent socket) (λ bytes. bytes ≡ [])

  -- What may happen, from a server to which nobody came: a connection comes, is to be visited, is
  -- visited, and ends when its time is up.
  pub data Reached : Control S → Type 0 where
    begins : Reached nobody
    comes : (c : Control S) → Reached c → (now : ℕ) (socket : S) → IsSilent socket → Reached (came now socket c)
    wakes : (c : Control S) → Reached c → Reached (woken c)
    visited : (c d : Control S) → Reached c → (now : ℕ) → VisitsControl now c d → Reached d
    let_go : (c : Control S) → Reached c → (now : ℕ) → Reached (kept_at now c)

  -- Whoever holds a server asked to by its first byte, and was told so by the first byte that was
  -- sent to it.
  abbrev pub HoldersAskFirst : Type 0
  HoldersAskFirst = (c : Control S) (v : ControlConnection S) → Reached c → c.connection ≡ Some v → holds_at v.session ≡ true
      → BeginsWith hold_byte (received v.socket) × BeginsWith hold_byte (sent v.socket)
