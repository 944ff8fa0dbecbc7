-- What a state shows of one of the connections that take turns with a service, and what its calls
-- make of all of them.
use Rattle.std.specs.Prelude.{◌≡◌, ◌+◌, ◌==◌, ◌<◌, ◌⊎◌, ◌++◌, ◌∷◌, [], ℕ, Bool, true, false, List, Option, Some, None, length, drop}
use Rattle.registry_service.specs.Courses.{Gave, GoOn, moment_of}
use Rattle.registry_service.specs.Histories.{LogEntry, Reached, Transcript, World, start, turns_of}
use Rattle.registry_service.specs.Turns.{Dialogue, Turn, request_limit}
use Rattle.registry_service.specs.declared.turning.End.{End}
use Rattle.registry_server.specs.ConnectionStates.{IsStarved, Pending, TakesTurn, fresh, holding, lasting, sending}
use Rattle.registry_server.specs.Connections.{OpenConnection, Visits, finishing}

-- Each of the turns went on, and more may follow: as many as the limit leaves, or only one, where
-- the server is to end.
pub record MayHave (ts : List Turn) (left : ℕ) : Type 0 where
  pub go_on : GoOn ts
  pub some : 0 < left
  pub all : (length ts + left ≡ request_limit) ⊎ ((left ≡ 1) × (length ts < request_limit))

-- The state shows the connection of this number: the bytes that no turn was taken for, whether more
-- come, what was answered and isn't sent, and, while it goes on, how many requests it may still
-- have.
pub record StateShows {D : Type 0} (w : World D) (k : ℕ) (over : Bool) (p : Pending) : Type 0 where
  pub held : (w.transcripts k).rest ≡ p.held
  pub shut : (w.transcripts k).shut ≡ over
  pub outgoing : (w.transcripts k).out ≡ (w.transcripts k).sent ++ p.outgoing
  pub may_have : p.ends ≡ None → MayHave (turns_of k w.log) p.left

-- ---- the list of turns

-- no turn is added
abbrev pub AddsNone : List LogEntry → List LogEntry → Type 0
AddsNone old new = new ≡ old

-- A turn of this connection is added. Where it is taken for a request, that is asked at the moment
-- that the clock gives.
pub record AddsOne (k : ℕ) (readings readings2 : Option (List ℕ)) (old new : List LogEntry) : Type 0 where
  pub stops : Bool
  pub turn : Turn
  pub log : new ≡ record { from = k; stops = stops; turn = turn } ∷ old
  pub asked : Gave readings readings2 (moment_of turn.cause)

-- a turn of this connection is added, or none, and then the clock isn't read
abbrev pub AddsTurn : ℕ → Option (List ℕ) → Option (List ℕ) → List LogEntry → List LogEntry → Type 0
AddsTurn k readings readings2 old new = AddsOne k readings readings2 old new ⊎ (AddsNone old new × (readings2 ≡ readings))

-- ---- without sockets

module _ {D : Type 0} (answers : Dialogue D) where
  -- From this world and service another is reached, in which this state shows this connection. This
  -- is what is added to the list of turns. A state that showed another connection still does.
  pub record LeadsTo (Adds : List LogEntry → List LogEntry → Type 0) (M : D) (w : World D) (k : ℕ) (over : Bool) (p : Pending) (N : D) : Type 0 where
    pub world : World D
    pub reached : Reached answers M world
    pub service : world.service ≡ N
    pub log : Adds w.log world.log
    pub stands : StateShows world k over p
    pub others : (j : ℕ) (o : Bool) (q : Pending) → (j == k) ≡ false → StateShows w j o q → StateShows world j o q

  -- a new state shows a new connection
  abbrev pub Begins : Type 0
  Begins = (M : D) (k : ℕ) → StateShows (start M) k false fresh

  -- bytes come
  abbrev pub Comes : Type 0
  Comes = (M : D) (w : World D) (k : ℕ) (p : Pending) (bytes : List ℕ)
      → Reached answers M w → StateShows w k false p → LeadsTo AddsNone M w k false (holding p (p.held ++ bytes)) w.service

  -- no more bytes come
  abbrev pub Shuts : Type 0
  Shuts = (M : D) (w : World D) (k : ℕ) (over : Bool) (p : Pending)
      → Reached answers M w → StateShows w k over p → LeadsTo AddsNone M w k true p w.service

  -- a turn is taken, where the connection goes on and all is sent
  abbrev pub TakesTurns : Type 0
  TakesTurns = (M : D) (w : World D) (k : ℕ) (over : Bool) (p q : Pending) (N : D) (readings readings2 : Option (List ℕ))
      → Reached answers M w → StateShows w k over p → p.ends ≡ None → p.outgoing ≡ []
      → TakesTurn answers p q w.service N readings readings2 over → LeadsTo (AddsOne k readings readings2) M w k over q N

  -- a lack of memory has a turn, too, for which neither the service nor the clock is asked
  abbrev pub Starves : Type 0
  Starves = (M : D) (readings : Option (List ℕ)) (over : Bool) (p q : Pending) → IsStarved p q → TakesTurn answers p q M M readings readings over

  -- some of what isn't sent is sent
  abbrev pub Sends : Type 0
  Sends = (M : D) (w : World D) (k : ℕ) (over : Bool) (p : Pending) (count : ℕ)
      → Reached answers M w → StateShows w k over p → LeadsTo AddsNone M w k over (sending p (drop count p.outgoing)) w.service

-- the next request of a connection is its last
abbrev pub Lasts : Type 0 → Type 0
Lasts D = (w : World D) (k : ℕ) (over : Bool) (p : Pending) → StateShows w k over p → StateShows w k over (lasting p)

-- ---- with sockets

-- Everything that was received from the socket came on the connection. After the connection has
-- ended, more may have been received, which is dropped.
abbrev pub ShowsReceived : Option (List ℕ) → Transcript → Option End → Type 0
ShowsReceived None l ends = Unit {0}
ShowsReceived (Some bytes) l ends = (dropped : List ℕ) × (bytes ≡ l.came ++ dropped) × (ends ≡ None → dropped ≡ [])

-- what the socket took to send is what was sent on the connection
abbrev pub ShowsSent : Option (List ℕ) → Transcript → Type 0
ShowsSent None l = Unit {0}
ShowsSent (Some bytes) l = bytes ≡ l.sent

module _ {S : Type 0} (received sent : S → Option (List ℕ)) {D : Type 0} where
  -- the open connection, with its socket, is the connection of this number
  pub record SocketShows (w : World D) (k : ℕ) (c : OpenConnection S) : Type 0 where
    pub state : StateShows w k c.is_over c.state
    pub received_so_far : ShowsReceived (received c.socket) (w.transcripts k) c.state.ends
    pub sent_so_far : ShowsSent (sent c.socket) (w.transcripts k)

-- the next request of an open connection is its last
abbrev pub Finishes : Type 0 → {S : Type 0} → (S → Option (List ℕ)) → (S → Option (List ℕ)) → Type 0
Finishes D {S} received sent = (w : World D) (k : ℕ) (c : OpenConnection S) → SocketShows received sent w k c → SocketShows received sent w k (finishing c)

module _ {S : Type 0} (received sent : S → Option (List ℕ)) {D : Type 0} (answers : Dialogue D) where
  -- From this world and service another is reached, in which this open connection is the one of
  -- this number. To the list of turns that of the visit is added, at the moment that the clock gives
  -- in it, or none. What showed another connection still does.
  pub record VisitLeadsTo (M : D) (w : World D) (k : ℕ) (c : OpenConnection S) (N : D) (readings readings2 : Option (List ℕ)) : Type 0 where
    pub world : World D
    pub reached : Reached answers M world
    pub service : world.service ≡ N
    pub log : AddsTurn k readings readings2 w.log world.log
    pub stands : SocketShows received sent world k c
    pub others : (j : ℕ) (d : OpenConnection S) → (j == k) ≡ false → SocketShows received sent w j d → SocketShows received sent world j d

  -- a visit
  abbrev pub VisitsLead : Type 0
  VisitsLead = (M : D) (w : World D) (k now most : ℕ) (old new : OpenConnection S) (N : D) (readings readings2 : Option (List ℕ))
      → Reached answers M w → SocketShows received sent w k old → Visits received sent answers now most old new w.service N readings readings2
      → VisitLeadsTo M w k new N readings readings2
