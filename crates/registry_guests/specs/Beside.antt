-- Connections beside guests, which take turns with the same service.
use Rattle.std.specs.Prelude.{◌≡◌, ◌⊎◌, ◌++◌, ◌∷◌, ℕ, Bool, true, List, [], Option, Some, None, IfSome}
use Rattle.clap.specs.Walk.{Text}
use Rattle.registry_service.specs.Courses.{Gave}
use Rattle.registry_service.specs.Histories.{IsOneHistory, Reached, World}
use Rattle.registry_service.specs.Turns.{Answering, AnswersEach, Dialect, Dialogue, Exchange, spoken}
use Rattle.registry_server.specs.Connections.{OpenConnection}
use Rattle.registry_server.specs.Connections as connections
use Rattle.registry_guests.specs.Guests as guests
use Rattle.registry_guests.specs.Guests.{OpenGuest, Starves, TakesTurn}
use Rattle.registry_guests.specs.GuestTurns.{IsGuestTurn, on_memory}
use Rattle.registry_guests.specs.Outputs.{Output, prints, ready_byte, sent_as}
use Rattle.registry_guests.specs.Spelling.{AreWords, spelling}

-- a turn of a guest: the arguments and the body of its message, its moment, and its output
pub record GuestTurn : Type 0 where
  pub arguments : List Text
  pub body : List ℕ
  pub at : ℕ
  pub output : Output

-- a service, and the turns that guests have taken with it so far, the newest first
pub record Beside (D : Type 0) : Type 0 where
  pub service : D
  pub turns : List GuestTurn

abbrev pub beside : {D : Type 0} → D → List GuestTurn → Beside D
beside service turns = record { service = service; turns = turns }

module _ {D : Type 0} (answers : Answering D) where
  -- turns of guests, the newest first, each taken at what the older ones left
  abbrev pub GuestsTurn : D → List GuestTurn → D → Type 0
  GuestsTurn M [] N = N ≡ M
  GuestsTurn M (t ∷ ts) N = (K : D) × GuestsTurn M ts K × IsGuestTurn answers K t.arguments t.body t.at (prints t.output) N

  -- guests took turns, which are the newest of all
  abbrev pub GuestsLead : Beside D → Beside D → Type 0
  GuestsLead M N = (ts : List GuestTurn) × GuestsTurn M.service ts N.service × (N.turns ≡ ts ++ M.turns)

  -- The requests of a turn are asked after turns of guests; no guest takes a turn between two of them
  abbrev pub AnswersBeside : Beside D → List Exchange → Beside D → Type 0
  AnswersBeside M [] N = N ≡ M
  AnswersBeside M (e ∷ es) N = (K : D) × GuestsLead M (beside K N.turns) × AnswersEach answers K (e ∷ es) N.service

  -- one more guest took a turn
  abbrev pub GuestsGoOn : Type 0
  GuestsGoOn = (M N : Beside D) (P : D) (t : GuestTurn) → GuestsLead M N → IsGuestTurn answers N.service t.arguments t.body t.at (prints t.output) P → GuestsLead M (beside P (t ∷ N.turns))

module _ (speaks : Dialect) {D : Type 0} (answers : Answering D) where
  -- a service that lets guests take turns before the requests of a turn
  abbrev pub beside_guests : Dialogue (Beside D)
  beside_guests = record { speaks = speaks; answers = AnswersBeside answers }

  -- connections that take turns beside guests make one history
  abbrev pub MakeOneHistory : Type 0
  MakeOneHistory = (M : Beside D) (w : World (Beside D)) → Reached beside_guests M w → IsOneHistory beside_guests M w

module _ {S : Type 0} (received sent : S → Option (List ℕ)) (speaks : Dialect) {D : Type 0} (answers : Answering D) where
  -- A visit of a connection at what guests left is also one beside guests, at what was there before
  -- they took their turns. Where the visit asked nothing, the guests' turns may still come after
  -- it. No guest takes a turn in it.
  abbrev pub VisitsFollow : Type 0
  VisitsFollow = (M K : Beside D) (N : D) (now most : ℕ) (old new : OpenConnection S) (readings readings2 : Option (List ℕ)) → GuestsLead answers M K
      → connections.Visits received sent (spoken speaks answers) now most old new K.service N readings readings2
      → (P : Beside D) × connections.Visits received sent (beside_guests speaks answers) now most old new M P readings readings2 × GuestsLead answers P (beside N K.turns)

module _ {S : Type 0} (received sent : S → Option (List ℕ)) {D : Type 0} (answers : Answering D) where
  -- what is known of the bytes of a guest's socket: before it is answered all that was received is
  -- held, and nothing was sent but that the server is ready; then what was sent, and what is left, is
  -- that and the one answer
  abbrev pub ShowsGuest : Option Output → OpenGuest S → Type 0
  ShowsGuest None g = (g.left ≡ None) × IfSome (received g.socket) (λ bytes. bytes ≡ g.held) × IfSome (sent g.socket) (λ bytes. bytes ≡ ready_byte ∷ [])
  ShowsGuest (Some s) g = (left : List ℕ) × (g.left ≡ Some left) × IfSome (sent g.socket) (λ bytes. ready_byte ∷ sent_as s ≡ bytes ++ left)

  -- A guest's turn is taken: it is still there, as nothing came of its socket and it didn't end; and
  -- these bytes, which are all that was received of it, are its message.
  pub record AnswersAll (has_none : S → Bool) (all : List ℕ) (new : OpenGuest S) (output : Output) (M N : D) (readings readings2 : Option (List ℕ)) : Type 0 where
    pub asked : S
    pub waits : has_none asked ≡ true
    pub unread : received new.socket ≡ received asked
    pub whole : IfSome (received new.socket) (λ bytes. bytes ≡ all)
    pub turn : TakesTurn answers all output M N readings readings2

  -- A visit of a guest asks nothing, and the answer stays the same; or its answer begins, if it had
  -- none. Then its turn is taken for all that was received; or there is no memory, and nothing is
  -- asked.
  abbrev pub AnswersOnce : (S → Bool) → Type 0
  AnswersOnce has_none = (most : ℕ) (old new : OpenGuest S) (M N : D) (readings readings2 : Option (List ℕ)) (answered : Option Output) → ShowsGuest answered old
      → guests.Visits received sent has_none answers most old new M N readings readings2
      → (ShowsGuest answered new × (N ≡ M) × (readings2 ≡ readings))
      ⊎ ((answered ≡ None) × (output : Output) × ShowsGuest (Some output) new
      × (AnswersAll has_none old.held new output M N readings readings2 ⊎ Starves answers output M N readings readings2))

  -- The turn of a guest is taken for everything that is held of it, at the moment that the clock
  -- gives, and its answer begins. This turn is the newest of the guests' turns.
  pub record TakesOne (old new : OpenGuest S) (M N : Beside D) (P : D) (readings readings2 : Option (List ℕ)) : Type 0 where
    pub turn : GuestTurn
    pub words : AreWords turn.arguments
    pub message : old.held ≡ spelling turn.arguments turn.body
    pub asked : Gave readings readings2 (turn.at ∷ [])
    pub answer : ShowsGuest (Some turn.output) new
    pub lead : GuestsLead answers M (beside P (turn ∷ N.turns))

  -- No guest's turn is taken, and the clock isn't read: no answer begins, or it says that there is
  -- no memory.
  pub record TakesNone (answered : Option Output) (new : OpenGuest S) (M N : Beside D) (P : D) (readings readings2 : Option (List ℕ)) : Type 0 where
    pub service : P ≡ N.service
    pub unasked : readings2 ≡ readings
    pub answer : ShowsGuest answered new ⊎ ((answered ≡ None) × (output : Output) × (prints output ≡ on_memory) × ShowsGuest (Some output) new)
    pub lead : GuestsLead answers M (beside P N.turns)

  -- So the turns of guests are those that they are answered by: a visit adds the turn that is taken
  -- in it, and nothing else adds one.
  abbrev pub GuestsFollow : (S → Bool) → Type 0
  GuestsFollow has_none = (M N : Beside D) (P : D) (most : ℕ) (old new : OpenGuest S) (readings readings2 : Option (List ℕ)) (answered : Option Output)
      → GuestsLead answers M N → ShowsGuest answered old → guests.Visits received sent has_none answers most old new N.service P readings readings2
      → ((answered ≡ None) × TakesOne old new M N P readings readings2) ⊎ TakesNone answered new M N P readings readings2
