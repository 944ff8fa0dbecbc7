-- The whole life of a server that answers commands too: all that its service is asked, from the
-- server's beginning to its end.
use Rattle.std.specs.Prelude.{◌⊎◌, ◌∷◌, ◌&&◌, not, [], ℕ, Bool, true, false, List, Option, Some, None}
use Rattle.std.proofs.Common.{inl, inr}
use Rattle.sqlite.specs.State.{State as Shown}
use Rattle.registry_rules.specs.declared.request.Request.{Request}
use Rattle.registry_laws_history.specs.Runs.{Outcome}
use Rattle.registry_desk.specs.Promises.{IsOneRun}
use Rattle.registry_service.specs.Turns.{Answering, AnswersAsBefore, Dialect, Dialogue, spoken}
use Rattle.registry_server.specs.ConnectionStates.{Pending}
use Rattle.registry_server.specs.Connections.{OpenConnection, TakesOne}
use Rattle.registry_server.specs.Pools as pools
use Rattle.registry_server.specs.Pools.{is_crowd, is_held_back, is_to_visit}
use Rattle.registry_server.specs.Queries.{answering}
use Rattle.registry_server.specs.Rounds.{AsksInRound, AsksInRounds, VisitsGuests, no_round_yet, one_more_round}
use Rattle.registry_server.specs.declared.pool.Place.{Place}
use Rattle.registry_http.specs.Services.{applied}
use Rattle.registry_guests.specs.Guests.{AnswersMessage, IsDue, OpenGuest, VisitsIn}
use Rattle.registry_guests.specs.GuestPools as guests
use Rattle.registry_guests.specs.Outputs.{Output}
use Rattle.registry_guests.specs.declared.command_listener.CommandListener.{CommandListener}
use Rattle.registry_guests.specs.declared.guest_pool.GuestSlot.{GuestSlot}
use Rattle.registry_guests.specs.declared.guest_socket.GuestSocket.{GuestSocket}
use Rattle.registry_laws_beside.specs.Beside.{AnyTurn, AskAll, TakeTurns, of_connection, of_guest}

-- ---- the turns of connections, each put before those that were taken earlier

module _ {D : Type 0} (dialogue : Dialogue D) where
  -- the turn of a visit, if one is taken in it
  abbrev pub with_turn : {old new : Pending} {M N : D} {readings readings2 : Option (List ℕ)} {over : Bool} {A B : Type 0} → List AnyTurn → (TakesOne dialogue old new M N readings readings2 over × A) ⊎ B → List AnyTurn
  with_turn earlier (inl t) = of_connection (record { cause = t.0.takes.cause; exchanges = t.0.takes.turns.exchanges; outcome = t.0.takes.turns.outcome; ended = t.0.takes.turned.end }) ∷ earlier
  with_turn earlier (inr none) = earlier

module _ {S : Type 0} (received sent : S → Option (List ℕ)) (has_none is_full has_more is_ended is_broken : S → Bool) {D : Type 0} (dialogue : Dialogue D) where
  -- at a place that is visited, if a connection is there
  abbrev pub with_there : List AnyTurn → (now most : ℕ) (at : Place S) (o : Option (OpenConnection S)) (new : Place S) (M N : D) (readings readings2 : Option (List ℕ))
      → pools.VisitsThere received sent has_none is_full has_more is_ended is_broken dialogue now most at o new M N readings readings2 → List AnyTurn
  with_there earlier now most at None new M N readings readings2 none = earlier
  with_there earlier now most at (Some c) new M N readings readings2 one = with_turn dialogue earlier one.visits.turns

  -- at a place that is visited or not
  abbrev pub with_place : List AnyTurn → (is_visited is_held : Bool) (now most : ℕ) (old new : Place S) (M N : D) (readings readings2 : Option (List ℕ))
      → pools.VisitsIf received sent has_none is_full has_more is_ended is_broken dialogue is_visited is_held now most old new M N readings readings2 → List AnyTurn
  with_place earlier true true now most old new M N readings readings2 none = earlier
  with_place earlier true false now most old new M N readings readings2 visit = with_there earlier now most old old.connection new M N readings readings2 visit
  with_place earlier false held now most old new M N readings readings2 none = earlier

module _ {S : Type 0} (received sent : S → Option (List ℕ)) (has_none is_full has_more is_ended is_broken : S → Bool) {D : Type 0} (dialogue : Dialogue D) (over : D → Bool) where
  -- in the first visits of a round
  abbrev pub with_first : List AnyTurn → (paused crowd : Bool) (now most : ℕ) (places places2 : List (Place S)) (M K L N : D) (first first2 later later2 : Option (List ℕ))
      → pools.VisitsAll received sent has_none is_full has_more is_ended is_broken dialogue over paused crowd now most places places2 M K L N first first2 later later2 → List AnyTurn
  with_first earlier paused crowd now most [] [] M K L N first first2 later later2 none = earlier
  with_first earlier paused crowd now most (p ∷ places) (q ∷ places2) M K L N first first2 later later2 (inl v) =
      with_first (with_place received sent has_none is_full has_more is_ended is_broken dialogue earlier (is_to_visit paused p && not (over M)) (is_held_back crowd p) now most p q M v.0 first v.1 v.2)
      paused crowd now most places places2 v.0 K L N v.1 first2 later later2 v.3
  with_first earlier paused crowd now most (p ∷ places) (q ∷ places2) M K L N first first2 later later2 (inr v) =
      with_first earlier paused crowd now most places places2 M K v.1 N first first2 v.2 later2 v.4
  with_first earlier paused crowd now most [] (q ∷ places2) M K L N first first2 later later2 v = absurd v
  with_first earlier paused crowd now most (p ∷ places) [] M K L N first first2 later later2 v = absurd v

  -- in those that come later
  abbrev pub with_later : List AnyTurn → (paused crowd : Bool) (now most : ℕ) (places places2 : List (Place S)) (M K L N : D) (first first2 later later2 : Option (List ℕ))
      → pools.VisitsAll received sent has_none is_full has_more is_ended is_broken dialogue over paused crowd now most places places2 M K L N first first2 later later2 → List AnyTurn
  with_later earlier paused crowd now most [] [] M K L N first first2 later later2 none = earlier
  with_later earlier paused crowd now most (p ∷ places) (q ∷ places2) M K L N first first2 later later2 (inl v) =
      with_later earlier paused crowd now most places places2 v.0 K L N v.1 first2 later later2 v.3
  with_later earlier paused crowd now most (p ∷ places) (q ∷ places2) M K L N first first2 later later2 (inr v) =
      with_later (with_place received sent has_none is_full has_more is_ended is_broken dialogue earlier (is_to_visit paused p) (is_held_back crowd p) now most p q L v.1 later v.2 v.3.0)
      paused crowd now most places places2 M K v.1 N first first2 v.2 later2 v.4
  with_later earlier paused crowd now most [] (q ∷ places2) M K L N first first2 later later2 v = absurd v
  with_later earlier paused crowd now most (p ∷ places) [] M K L N first first2 later later2 v = absurd v

  -- in all visits of a round: the later ones come after all first ones
  abbrev pub with_connections : List AnyTurn → (paused : Bool) (now most : ℕ) (old new : List (Place S)) (M N : D) (readings readings2 : Option (List ℕ))
      → pools.VisitsRound received sent has_none is_full has_more is_ended is_broken dialogue over paused now most old new M N readings readings2 → List AnyTurn
  with_connections earlier paused now most old new M N readings readings2 round =
      with_later (with_first earlier paused (is_crowd old) now most round.looked new M round.between round.between N readings round.readings1 round.readings1 readings2 round.visits)
      paused (is_crowd old) now most round.looked new M round.between round.between N readings round.readings1 round.readings1 readings2 round.visits

-- ---- the turns of commands, likewise

module _ {D : Type 0} (answers : Answering D) where
  -- for a message: one, unless there is no memory to read it
  abbrev pub with_message : List AnyTurn → (held : List ℕ) (output : Output) (M N : D) (readings readings2 : Option (List ℕ)) → AnswersMessage answers held output M N readings readings2 → List AnyTurn
  with_message earlier held output M N readings readings2 (inl t) = of_guest (record { arguments = t.0; body = t.1; at = t.2; output = output }) ∷ earlier
  with_message earlier held output M N readings readings2 (inr starves) = earlier

module _ {S : Type 0} (received sent : S → Option (List ℕ)) (has_none : S → Bool) {D : Type 0} (answers : Answering D) where
  -- where the answer begins
  abbrev pub with_answer : List AnyTurn → (held gathered : List ℕ) (socket : S) (output : Output) (M N : D) (readings readings2 : Option (List ℕ)) → IsDue received sent has_none answers held gathered socket output M N readings readings2 → List AnyTurn
  with_answer earlier held gathered socket output M N readings readings2 (inl complete) = with_message answers earlier held output M N readings readings2 complete.answered
  with_answer earlier held gathered socket output M N readings readings2 (inr starves) = earlier

  -- in a visit of a guest
  abbrev pub with_guest : List AnyTurn → (most : ℕ) (left : Option (List ℕ)) (old new : OpenGuest S) (M N : D) (readings readings2 : Option (List ℕ)) → VisitsIn received sent has_none answers most left old new M N readings readings2 → List AnyTurn
  with_guest earlier most None old new M N readings readings2 (inl more) = earlier
  with_guest earlier most None old new M N readings readings2 (inr begins) = with_answer earlier old.held begins.gathered begins.between begins.output M N readings readings2 begins.due
  with_guest earlier most (Some due) old new M N readings readings2 more = earlier

module _ {S : Type 0} (received sent : S → Option (List ℕ)) (has_none is_full is_ended is_broken : S → Bool) {D : Type 0} (answers : Answering D) where
  -- in a slot that is visited, if a guest is there
  abbrev pub with_guest_there : List AnyTurn → (most : ℕ) (o : Option (OpenGuest S)) (new : GuestSlot S) (M N : D) (readings readings2 : Option (List ℕ))
      → guests.VisitsThere received sent has_none is_full is_ended is_broken answers most o new M N readings readings2 → List AnyTurn
  with_guest_there earlier most None new M N readings readings2 none = earlier
  with_guest_there earlier most (Some g) new M N readings readings2 one = with_guest received sent has_none answers earlier most g.left g one.guest M N readings readings2 one.visits.does

  -- in a slot that is visited or not
  abbrev pub with_slot : List AnyTurn → (is_visited : Bool) (most : ℕ) (old new : GuestSlot S) (M N : D) (readings readings2 : Option (List ℕ))
      → guests.VisitsIf received sent has_none is_full is_ended is_broken answers is_visited most old new M N readings readings2 → List AnyTurn
  with_slot earlier true most old new M N readings readings2 visit = with_guest_there earlier most old.guest new M N readings readings2 visit
  with_slot earlier false most old new M N readings readings2 none = earlier

  -- in all slots, in their order
  abbrev pub with_slots : List AnyTurn → (over : D → Bool) (most : ℕ) (slots slots2 : List (GuestSlot S)) (M N : D) (readings readings2 : Option (List ℕ))
      → guests.VisitsAll received sent has_none is_full is_ended is_broken answers over most slots slots2 M N readings readings2 → List AnyTurn
  with_slots earlier over most [] [] M N readings readings2 none = earlier
  with_slots earlier over most (p ∷ slots) (q ∷ slots2) M N readings readings2 v =
      with_slots (with_slot earlier (p.is_ready && not (over M)) most p q M v.0 readings v.1 v.2) over most slots slots2 v.0 N v.1 readings2 v.3
  with_slots earlier over most [] (q ∷ slots2) M N readings readings2 v = absurd v
  with_slots earlier over most (p ∷ slots) [] M N readings readings2 v = absurd v

module _ {D : Type 0} (answers : Answering D) (over : D → Bool) where
  -- in a visit of a machine's commands; nothing is known of the bytes of their sockets
  abbrev pub with_commands : List AnyTurn → (most : ℕ) (commands : CommandListener) (M N : D) (readings readings2 : Option (List ℕ))
      → guests.VisitsSlots {S = GuestSocket} (λ _. None) (λ _. None) (λ _. true) (λ _. true) (λ _. true) (λ _. true) answers over most commands.pool.slots.items M N readings readings2 → List AnyTurn
  with_commands earlier most commands M N readings readings2 v =
      with_slots {S = GuestSocket} (λ _. None) (λ _. None) (λ _. true) (λ _. true) (λ _. true) (λ _. true) answers earlier over most commands.pool.slots.items v.0 M N readings readings2 v.1

-- ---- the turns of rounds

-- what a visit of guests makes of the turns that were taken earlier
abbrev pub Telling : {D G : Type 0} → (ℕ → G → D → D → Option (List ℕ) → Option (List ℕ) → Type 0) → Type 0
Telling {D} {G} visits = List AnyTurn → (most : ℕ) (guests : G) (M N : D) (readings readings2 : Option (List ℕ)) → visits most guests M N readings readings2 → List AnyTurn

module _ {S : Type 0} (received sent : S → Option (List ℕ)) (has_none is_full has_more is_ended is_broken : S → Bool) (speaks : Dialect) {D : Type 0} (answers : Answering D) (over : D → Bool)
    {G : Type 0} (visits : ℕ → G → D → D → Option (List ℕ) → Option (List ℕ) → Type 0) (with_beside : Telling visits) where
  -- guests are visited after the connections, unless commands wait
  abbrev pub with_guests : List AnyTurn → (paused : Bool) (most : ℕ) (guests : G) (M N : D) (readings readings2 : Option (List ℕ)) → VisitsGuests visits paused most guests M N readings readings2 → List AnyTurn
  with_guests earlier false most guests M N readings readings2 v = with_beside earlier most guests M N readings readings2 v
  with_guests earlier true most guests M N readings readings2 none = earlier

  -- in a round
  abbrev pub with_round : List AnyTurn → (paused : Bool) (M N : D) → AsksInRound received sent has_none is_full has_more is_ended is_broken speaks answers over visits paused M N → List AnyTurn
  with_round earlier paused M N x =
      with_guests (with_connections received sent has_none is_full has_more is_ended is_broken (spoken speaks (answering paused answers)) over earlier paused x.now x.most x.old x.visited M x.between x.readings x.readings1 x.round)
      paused x.most_beside x.guests x.between x.left x.readings1 x.readings2 x.beside

  -- all turns of rounds, of connections and of guests, the newest first
  abbrev pub turns_of : (M N : D) → AsksInRounds received sent has_none is_full has_more is_ended is_broken speaks answers over visits M N → List AnyTurn
  turns_of M _ no_round_yet = []
  turns_of M _ (one_more_round K N paused more round) = with_round (turns_of M K more) paused K N round

-- ---- one life

module _ (speaks : Dialect) {D : Type 0} (answers : Answering D) where
  -- A service was asked in these turns alone, and may have looked something up: whatever it may answer
  -- now, it might have answered where the turns left it.
  pub record IsAskedInTurns (M : D) (turns : List AnyTurn) (N : D) : Type 0 where
    pub left : D
    pub take : TakeTurns speaks answers M turns left
    pub before : AnswersAsBefore answers left N

-- whatever a service answers is answered by the registry that it shows
abbrev pub AnswersAsShown : {D : Type 0} → Answering D → (D → Shown) → Type 0
AnswersAsShown {D} answers show = (M N : D) (r : Request) (o : Outcome) → answers M r o N → applied show M r o N

module _ (speaks : Dialect) {D : Type 0} (answers : Answering D) (show : D → Shown) where
  -- The same, and the turns are one run of the registry that the service shows.
  pub record IsOneLife (M : D) (turns : List AnyTurn) (N : D) : Type 0 where
    pub left : D
    pub take : TakeTurns speaks answers M turns left
    pub before : AnswersAsBefore answers left N
    pub run : IsOneRun (show M) (show left) (AskAll turns)

module _ {S : Type 0} (received sent : S → Option (List ℕ)) (has_none is_full has_more is_ended is_broken : S → Bool) (speaks : Dialect) {D : Type 0} (answers : Answering D) (over : D → Bool)
    {G : Type 0} (visits : ℕ → G → D → D → Option (List ℕ) → Option (List ℕ) → Type 0) (with_beside : Telling visits) where
  -- what is asked in rounds is asked in the turns of their visits
  abbrev pub ServersTakeTurns : Type 0
  ServersTakeTurns = (M N : D) (rounds : AsksInRounds received sent has_none is_full has_more is_ended is_broken speaks answers over visits M N)
      → IsAskedInTurns speaks answers M (turns_of received sent has_none is_full has_more is_ended is_broken speaks answers over visits with_beside M N rounds) N

module _ {S : Type 0} (received sent : S → Option (List ℕ)) (has_none is_full has_more is_ended is_broken : S → Bool) (speaks : Dialect) {D : Type 0} (answers : Answering D) (over : D → Bool)
    {G : Type 0} (visits : ℕ → G → D → D → Option (List ℕ) → Option (List ℕ) → Type 0) (with_beside : Telling visits) {V : Type 0} (show : V → Shown) where
  -- and these turns are one run, whatever part of the service shows the registry
  abbrev pub ServersLiveOneLife : Type 0
  ServersLiveOneLife = (part : D → V) → AnswersAsShown answers (λ (d : D). show (part d)) → (M N : D) (rounds : AsksInRounds received sent has_none is_full has_more is_ended is_broken speaks answers over visits M N)
      → IsOneLife speaks answers (λ (d : D). show (part d)) M (turns_of received sent has_none is_full has_more is_ended is_broken speaks answers over visits with_beside M N rounds) N
