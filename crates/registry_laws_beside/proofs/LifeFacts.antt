-- What a server is asked in its whole life is one run.
use Rattle.std.proofs.Common.{◌≡◌, ◌⊎◌, ◌∷◌, ◌==◌, ◌&&◌, not, [], ℕ, Bool, true, false, List, Option, Some, None, refl, sym, subst, inl, inr}
use Rattle.std.specs.Prelude.{unwrap_or}
use Rattle.sqlite.specs.State.{State as Shown}
use Rattle.registry_rules.specs.declared.request.Request.{Request}
use Rattle.registry_service.specs.HttpAnswers.{Outcome}
use Rattle.registry_service.specs.Turns.{Answering, AnswersAsBefore, AnswersEach, Cause, Dialect, Exchange, IsTurnFor, bad_input, no_memory, request, spoken}
use Rattle.registry_service.specs.declared.turning.End.{End}
use Rattle.registry_server.specs.ConnectionStates.{Pending, TakesNone}
use Rattle.registry_server.specs.Connections.{OpenConnection, TakesOne}
use Rattle.registry_server.specs.Pools as pools
use Rattle.registry_server.specs.Pools.{is_crowd, is_held_back, is_to_visit}
use Rattle.registry_server.specs.Queries.{answering}
use Rattle.registry_server.specs.Rounds.{AsksInRound, VisitsGuests, no_round_yet, one_more_round}
use Rattle.registry_server.specs.declared.pool.Place.{Place}
use Rattle.registry_http.specs.Services.{applied}
use Rattle.registry_cli.specs.Lines.{line_of}
use Rattle.registry_guests.specs.Beside.{GuestTurn}
use Rattle.registry_guests.specs.GuestTurns.{IsGuestTurn}
use Rattle.registry_guests.specs.Guests.{AnswersMessage, IsDue, OpenGuest, VisitsIn}
use Rattle.registry_guests.specs.GuestPools as guests
use Rattle.registry_guests.specs.Outputs.{Output, prints}
use Rattle.registry_guests.specs.declared.command_listener.CommandListener.{CommandListener}
use Rattle.registry_guests.specs.declared.guest_pool.GuestSlot.{GuestSlot}
use Rattle.registry_guests.specs.declared.guest_socket.GuestSocket.{GuestSocket}
use Rattle.registry_laws_beside.specs.Beside.{AnyTurn, TakeTurns, TakesTurn, of_connection, of_guest}
use Rattle.registry_laws_beside.specs.Lives.{AnswersAsShown, IsAskedInTurns, IsOneLife, ServersTakeTurns, Telling, turns_of, with_answer, with_commands, with_connections, with_first, with_guest, with_guest_there, with_guests, with_later, with_message, with_place, with_round, with_slot, with_slots, with_there, with_turn}
use Rattle.registry_laws_beside.proofs.BesideFacts.{turns-run}

-- ---- turns that are also those of another service

module _ (speaks : Dialect) {D : Type 0} (answers others : Answering D) (also : (M N : D) (r : Request) (o : Outcome) → answers M r o N → others M r o N) where
  each-also : (M : D) (es : List Exchange) (N : D) → AnswersEach answers M es N → AnswersEach others M es N
  each-also M [] N same = same
  each-also M (e ∷ es) N (K, first, rest) = (K, also M K e.asked e.outcome first, each-also K es N rest)

  connection-also : (M N : D) (c : Cause) (last : Bool) (es : List Exchange) (o : Outcome) (ended : Option End) → IsTurnFor (spoken speaks answers) c M last es o ended N → IsTurnFor (spoken speaks others) c M last es o ended N
  connection-also M N (request w at) last es o ended turn = record { answered = (turn.answered.0, each-also M es N turn.answered.1); ends = turn.ends }
  connection-also M N (bad_input b) last es o ended turn = turn
  connection-also M N no_memory last es o ended turn = turn

  guest-also : (M N : D) (t : GuestTurn) → IsGuestTurn answers M t.arguments t.body t.at (prints t.output) N → IsGuestTurn others M t.arguments t.body t.at (prints t.output) N
  guest-also M N t turn =
      elim turn [
        | inl (command, asks) ↦
            elim asks [
              | inl (who, what, o, reads, answered, says) ↦
                  (let r : Request = record { at = unwrap_or (line_of t.arguments).at t.at; who = who; what = what } in
                  inl (command, inl (who, what, o, reads, also M N r o answered, says)))
              | inr nothing ↦ inl (command, inr nothing)
            ]
        | inr nothing ↦ inr nothing
      ]

  turn-also : (M N : D) (t : AnyTurn) → TakesTurn speaks answers M t N → TakesTurn speaks others M t N
  turn-also M N (of_connection t) turn = (turn.0, connection-also M N t.cause turn.0 t.exchanges t.outcome t.ended turn.1)
  turn-also M N (of_guest t) turn = guest-also M N t turn

  take-also : (M N : D) (ts : List AnyTurn) → TakeTurns speaks answers M ts N → TakeTurns speaks others M ts N
  take-also M N [] same = same
  take-also M N (t ∷ ts) take = (take.0, take-also M take.0 ts take.1, turn-also take.0 N t take.2)

-- while commands wait, a service answers what it answers anyhow
answered-anyhow : {D : Type 0} (answers : Answering D) (paused : Bool) (M N : D) (r : Request) (o : Outcome) → answering paused answers M r o N → answers M r o N
answered-anyhow answers false M N r o a = a
answered-anyhow answers true M N r o a = a.1

-- ---- one more turn

module _ (speaks : Dialect) {D : Type 0} (answers : Answering D) (M : D) where
  abbrev Asked : List AnyTurn → D → Type 0
  Asked ts N = IsAskedInTurns speaks answers M ts N

  look-on : (ts : List AnyTurn) (K N : D) → Asked ts K → AnswersAsBefore answers K N → Asked ts N
  look-on ts K N was looks = record { left = was.left; take = was.take; before = λ r o L a. was.before r o L (looks r o L a) }

  same-on : (ts : List AnyTurn) (K N : D) → Asked ts K → N ≡ K → Asked ts N
  same-on ts K N was same = subst (λ (d : D). Asked ts d) (sym same) was

  -- a turn in which nothing is asked is taken where the turns before it left the service
  none-on : (ts : List AnyTurn) (K N : D) (t : AnyTurn) (was : Asked ts K) → N ≡ K → TakesTurn speaks answers was.left t was.left → Asked (t ∷ ts) N
  none-on ts K N t was same turn = same-on (t ∷ ts) K N (record { left = was.left; take = (was.left, was.take, turn); before = was.before }) same

  -- a turn in which something is asked might have been taken there
  some-on : (ts : List AnyTurn) (K N : D) (t : AnyTurn) (was : Asked ts K) → TakesTurn speaks answers was.left t N → Asked (t ∷ ts) N
  some-on ts K N t was turn = record { left = N; take = (was.left, was.take, turn); before = λ r o L a. a }

  connection-on : (ts : List AnyTurn) (K N : D) (c : Cause) (last : Bool) (es : List Exchange) (o : Outcome) (ended : Option End) → Asked ts K
      → IsTurnFor (spoken speaks answers) c K last es o ended N → Asked (of_connection (record { cause = c; exchanges = es; outcome = o; ended = ended }) ∷ ts) N
  connection-on ts K N (request w at) last [] o ended was turn =
      none-on ts K N (of_connection (record { cause = request w at; exchanges = []; outcome = o; ended = ended })) was turn.answered.1 (last, record { answered = (turn.answered.0, refl); ends = turn.ends })
  connection-on ts K N (request w at) last (e ∷ es) o ended was turn =
      let (L, first, rest) = turn.answered.1 in
      some-on ts K N (of_connection (record { cause = request w at; exchanges = e ∷ es; outcome = o; ended = ended })) was
      (last, record { answered = (turn.answered.0, (L, was.before e.asked e.outcome L first, rest)); ends = turn.ends })
  connection-on ts K N (bad_input b) last es o ended was turn =
      none-on ts K N (of_connection (record { cause = bad_input b; exchanges = es; outcome = o; ended = ended })) was turn.1 (last, (turn.0, refl, turn.2))
  connection-on ts K N no_memory last es o ended was turn =
      none-on ts K N (of_connection (record { cause = no_memory; exchanges = es; outcome = o; ended = ended })) was turn.1 (last, (turn.0, refl, turn.2))

  command-on : (ts : List AnyTurn) (K N : D) (t : GuestTurn) → Asked ts K → IsGuestTurn answers K t.arguments t.body t.at (prints t.output) N → Asked (of_guest t ∷ ts) N
  command-on ts K N t was turn =
      elim turn [
        | inl (command, asks) ↦
            elim asks [
              | inl (who, what, o, reads, answered, says) ↦
                  (let r : Request = record { at = unwrap_or (line_of t.arguments).at t.at; who = who; what = what } in
                  some-on ts K N (of_guest t) was (inl (command, inl (who, what, o, reads, was.before r o N answered, says))))
              | inr (stop, reads, says, rests) ↦ none-on ts K N (of_guest t) was rests (inl (command, inr (stop, reads, says, refl)))
            ]
        | inr (unasked, rests) ↦ none-on ts K N (of_guest t) was rests (inr (unasked, refl))
      ]

-- ---- visits of guests

module _ {S : Type 0} (received sent : S → Option (List ℕ)) (has_none is_full is_ended is_broken : S → Bool) (speaks : Dialect) {D : Type 0} (answers : Answering D) (M : D) where
  message-on : (ts : List AnyTurn) (K N : D) (held : List ℕ) (output : Output) (r r2 : Option (List ℕ)) → Asked speaks answers M ts K
      → (v : AnswersMessage answers held output K N r r2) → Asked speaks answers M (with_message answers ts held output K N r r2 v) N
  message-on ts K N held output r r2 was (inl t) = command-on speaks answers M ts K N (record { arguments = t.0; body = t.1; at = t.2; output = output }) was t.5
  message-on ts K N held output r r2 was (inr starves) = same-on speaks answers M ts K N was starves.1

  answer-on : (ts : List AnyTurn) (K N : D) (held gathered : List ℕ) (socket : S) (output : Output) (r r2 : Option (List ℕ)) → Asked speaks answers M ts K
      → (v : IsDue received sent has_none answers held gathered socket output K N r r2) → Asked speaks answers M (with_answer received sent has_none answers ts held gathered socket output K N r r2 v) N
  answer-on ts K N held gathered socket output r r2 was (inl complete) = message-on ts K N held output r r2 was complete.answered
  answer-on ts K N held gathered socket output r r2 was (inr starves) = same-on speaks answers M ts K N was starves.1.1

  guest-on : (ts : List AnyTurn) (K N : D) (most : ℕ) (left : Option (List ℕ)) (old new : OpenGuest S) (r r2 : Option (List ℕ)) → Asked speaks answers M ts K
      → (v : VisitsIn received sent has_none answers most left old new K N r r2) → Asked speaks answers M (with_guest received sent has_none answers ts most left old new K N r r2 v) N
  guest-on ts K N most None old new r r2 was (inl more) = same-on speaks answers M ts K N was more.service
  guest-on ts K N most None old new r r2 was (inr b) = answer-on ts K N old.held b.gathered b.between b.output r r2 was b.due
  guest-on ts K N most (Some due) old new r r2 was more = same-on speaks answers M ts K N was more.service

  guest_there-on : (ts : List AnyTurn) (K N : D) (most : ℕ) (o : Option (OpenGuest S)) (new : GuestSlot S) (r r2 : Option (List ℕ)) → Asked speaks answers M ts K
      → (v : guests.VisitsThere received sent has_none is_full is_ended is_broken answers most o new K N r r2) → Asked speaks answers M (with_guest_there received sent has_none is_full is_ended is_broken answers ts most o new K N r r2 v) N
  guest_there-on ts K N most None new r r2 was v = same-on speaks answers M ts K N was v.service
  guest_there-on ts K N most (Some g) new r r2 was v = guest-on ts K N most g.left g v.guest r r2 was v.visits.does

  slot-on : (ts : List AnyTurn) (K N : D) (b : Bool) (most : ℕ) (old new : GuestSlot S) (r r2 : Option (List ℕ)) → Asked speaks answers M ts K
      → (v : guests.VisitsIf received sent has_none is_full is_ended is_broken answers b most old new K N r r2) → Asked speaks answers M (with_slot received sent has_none is_full is_ended is_broken answers ts b most old new K N r r2 v) N
  slot-on ts K N true most old new r r2 was v = guest_there-on ts K N most old.guest new r r2 was v
  slot-on ts K N false most old new r r2 was v = same-on speaks answers M ts K N was v.service

  slots-on : (over : D → Bool) (ts : List AnyTurn) (K N : D) (most : ℕ) (ps qs : List (GuestSlot S)) (r r2 : Option (List ℕ)) → Asked speaks answers M ts K
      → (v : guests.VisitsAll received sent has_none is_full is_ended is_broken answers over most ps qs K N r r2) → Asked speaks answers M (with_slots received sent has_none is_full is_ended is_broken answers ts over most ps qs K N r r2 v) N
  slots-on over ts K N most [] [] r r2 was v = same-on speaks answers M ts K N was v.0
  slots-on over ts K N most [] (q ∷ qs) r r2 was v = absurd v
  slots-on over ts K N most (p ∷ ps) [] r r2 was v = absurd v
  slots-on over ts K N most (p ∷ ps) (q ∷ qs) r r2 was v =
      slots-on over (with_slot received sent has_none is_full is_ended is_broken answers ts (p.is_ready && not (over K)) most p q K v.0 r v.1 v.2) v.0 N most ps qs v.1 r2
      (slot-on ts K v.0 (p.is_ready && not (over K)) most p q r v.1 was v.2) v.3

-- nothing is known of the bytes of a command's socket
module _ (speaks : Dialect) {D : Type 0} (answers : Answering D) (over : D → Bool) where
  pub commands-on : (M : D) (ts : List AnyTurn) (most : ℕ) (commands : CommandListener) (K N : D) (r r2 : Option (List ℕ)) → Asked speaks answers M ts K
      → (v : guests.VisitsSlots {S = GuestSocket} (λ _. None) (λ _. None) (λ _. true) (λ _. true) (λ _. true) (λ _. true) answers over most commands.pool.slots.items K N r r2)
      → Asked speaks answers M (with_commands answers over ts most commands K N r r2 v) N
  commands-on M ts most commands K N r r2 was v =
      slots-on {S = GuestSocket} (λ _. None) (λ _. None) (λ _. true) (λ _. true) (λ _. true) (λ _. true) speaks answers M over ts K N most commands.pool.slots.items v.0 r r2 was v.1

-- ---- visits of connections

module _ (speaks : Dialect) {D : Type 0} (answers others : Answering D) (also : (M N : D) (r : Request) (o : Outcome) → others M r o N → answers M r o N) (M : D) where
  turn-on : (ts : List AnyTurn) (K N : D) (old new : Pending) (r r2 : Option (List ℕ)) (over : Bool) {A B : Type 0} → Asked speaks answers M ts K
      → (v : (TakesOne (spoken speaks others) old new K N r r2 over × A) ⊎ (TakesNone (spoken speaks others) old new K N r r2 × B)) → Asked speaks answers M (with_turn (spoken speaks others) ts v) N
  turn-on ts K N old new r r2 over was (inl t) =
      let takes = t.0.takes in
      connection-on speaks answers M ts K N takes.cause (old.left == 1) takes.turns.exchanges takes.turns.outcome takes.turned.end was
      (connection-also speaks others answers also K N takes.cause (old.left == 1) takes.turns.exchanges takes.turns.outcome takes.turned.end takes.turns.is_turn)
  turn-on ts K N old new r r2 over was (inr none) = same-on speaks answers M ts K N was none.0.service

module _ {S : Type 0} (received sent : S → Option (List ℕ)) (has_none is_full has_more is_ended is_broken : S → Bool) (speaks : Dialect) {D : Type 0} (answers others : Answering D) (also : (M N : D) (r : Request) (o : Outcome) → others M r o N → answers M r o N) (over : D → Bool) (M : D) where
  there-on : (ts : List AnyTurn) (K N : D) (now most : ℕ) (p : Place S) (o : Option (OpenConnection S)) (q : Place S) (r r2 : Option (List ℕ)) → Asked speaks answers M ts K
      → (v : pools.VisitsThere received sent has_none is_full has_more is_ended is_broken (spoken speaks others) now most p o q K N r r2)
      → Asked speaks answers M (with_there received sent has_none is_full has_more is_ended is_broken (spoken speaks others) ts now most p o q K N r r2 v) N
  there-on ts K N now most p None q r r2 was v = same-on speaks answers M ts K N was v.service
  there-on ts K N now most p (Some c) q r r2 was v = turn-on speaks answers others also M ts K N v.visits.read v.visits.due r r2 v.connection.is_over was v.visits.turns

  place-on : (ts : List AnyTurn) (K N : D) (b held : Bool) (now most : ℕ) (p q : Place S) (r r2 : Option (List ℕ)) → Asked speaks answers M ts K
      → (v : pools.VisitsIf received sent has_none is_full has_more is_ended is_broken (spoken speaks others) b held now most p q K N r r2)
      → Asked speaks answers M (with_place received sent has_none is_full has_more is_ended is_broken (spoken speaks others) ts b held now most p q K N r r2 v) N
  place-on ts K N true true now most p q r r2 was v = same-on speaks answers M ts K N was v.service
  place-on ts K N true false now most p q r r2 was v = there-on ts K N now most p p.connection q r r2 was v
  place-on ts K N false held now most p q r r2 was v = same-on speaks answers M ts K N was v.service

  first-on : (ts : List AnyTurn) (paused crowd : Bool) (now most : ℕ) (ps qs : List (Place S)) (A K L N : D) (r r1 s s2 : Option (List ℕ)) → Asked speaks answers M ts A
      → (v : pools.VisitsAll received sent has_none is_full has_more is_ended is_broken (spoken speaks others) over paused crowd now most ps qs A K L N r r1 s s2)
      → Asked speaks answers M (with_first received sent has_none is_full has_more is_ended is_broken (spoken speaks others) over ts paused crowd now most ps qs A K L N r r1 s s2 v) K
  first-on ts paused crowd now most [] [] A K L N r r1 s s2 was v = same-on speaks answers M ts A K was v.0
  first-on ts paused crowd now most (p ∷ ps) (q ∷ qs) A K L N r r1 s s2 was (inl v) =
      first-on (with_place received sent has_none is_full has_more is_ended is_broken (spoken speaks others) ts (is_to_visit paused p && not (over A)) (is_held_back crowd p) now most p q A v.0 r v.1 v.2)
      paused crowd now most ps qs v.0 K L N v.1 r1 s s2 (place-on ts A v.0 (is_to_visit paused p && not (over A)) (is_held_back crowd p) now most p q r v.1 was v.2) v.3
  first-on ts paused crowd now most (p ∷ ps) (q ∷ qs) A K L N r r1 s s2 was (inr v) = first-on ts paused crowd now most ps qs A K v.1 N r r1 v.2 s2 was v.4
  first-on ts paused crowd now most [] (q ∷ qs) A K L N r r1 s s2 was v = absurd v
  first-on ts paused crowd now most (p ∷ ps) [] A K L N r r1 s s2 was v = absurd v

  later-on : (ts : List AnyTurn) (paused crowd : Bool) (now most : ℕ) (ps qs : List (Place S)) (A K L N : D) (r r1 s s2 : Option (List ℕ)) → Asked speaks answers M ts L
      → (v : pools.VisitsAll received sent has_none is_full has_more is_ended is_broken (spoken speaks others) over paused crowd now most ps qs A K L N r r1 s s2)
      → Asked speaks answers M (with_later received sent has_none is_full has_more is_ended is_broken (spoken speaks others) over ts paused crowd now most ps qs A K L N r r1 s s2 v) N
  later-on ts paused crowd now most [] [] A K L N r r1 s s2 was v = same-on speaks answers M ts L N was v.2
  later-on ts paused crowd now most (p ∷ ps) (q ∷ qs) A K L N r r1 s s2 was (inl v) = later-on ts paused crowd now most ps qs v.0 K L N v.1 r1 s s2 was v.3
  later-on ts paused crowd now most (p ∷ ps) (q ∷ qs) A K L N r r1 s s2 was (inr v) =
      later-on (with_place received sent has_none is_full has_more is_ended is_broken (spoken speaks others) ts (is_to_visit paused p) (is_held_back crowd p) now most p q L v.1 s v.2 v.3.0)
      paused crowd now most ps qs A K v.1 N r r1 v.2 s2 (place-on ts L v.1 (is_to_visit paused p) (is_held_back crowd p) now most p q s v.2 was v.3.0) v.4
  later-on ts paused crowd now most [] (q ∷ qs) A K L N r r1 s s2 was v = absurd v
  later-on ts paused crowd now most (p ∷ ps) [] A K L N r r1 s s2 was v = absurd v

  connections-on : (ts : List AnyTurn) (paused : Bool) (now most : ℕ) (old new : List (Place S)) (K N : D) (r r2 : Option (List ℕ)) → Asked speaks answers M ts K
      → (v : pools.VisitsRound received sent has_none is_full has_more is_ended is_broken (spoken speaks others) over paused now most old new K N r r2)
      → Asked speaks answers M (with_connections received sent has_none is_full has_more is_ended is_broken (spoken speaks others) over ts paused now most old new K N r r2 v) N
  connections-on ts paused now most old new K N r r2 was v =
      later-on (with_first received sent has_none is_full has_more is_ended is_broken (spoken speaks others) over ts paused (is_crowd old) now most v.looked new K v.between v.between N r v.readings1 v.readings1 r2 v.visits)
      paused (is_crowd old) now most v.looked new K v.between v.between N r v.readings1 v.readings1 r2
      (first-on ts paused (is_crowd old) now most v.looked new K v.between v.between N r v.readings1 v.readings1 r2 was v.visits) v.visits

-- ---- rounds

module _ {S : Type 0} (received sent : S → Option (List ℕ)) (has_none is_full has_more is_ended is_broken : S → Bool) (speaks : Dialect) {D : Type 0} (answers : Answering D) (over : D → Bool)
    {G : Type 0} (visits : ℕ → G → D → D → Option (List ℕ) → Option (List ℕ) → Type 0) (with_beside : Telling visits)
    (beside-on : (M : D) (ts : List AnyTurn) (most : ℕ) (guests : G) (K N : D) (r r2 : Option (List ℕ)) → Asked speaks answers M ts K → (v : visits most guests K N r r2) → Asked speaks answers M (with_beside ts most guests K N r r2 v) N) where
  guests-on : (M : D) (ts : List AnyTurn) (paused : Bool) (most : ℕ) (guests : G) (K N : D) (r r2 : Option (List ℕ)) → Asked speaks answers M ts K
      → (v : VisitsGuests visits paused most guests K N r r2) → Asked speaks answers M (with_guests received sent has_none is_full has_more is_ended is_broken speaks answers over visits with_beside ts paused most guests K N r r2 v) N
  guests-on M ts false most guests K N r r2 was v = beside-on M ts most guests K N r r2 was v
  guests-on M ts true most guests K N r r2 was same = same-on speaks answers M ts K N was same.0

  round-on : (M : D) (ts : List AnyTurn) (paused : Bool) (K N : D) → Asked speaks answers M ts K
      → (x : AsksInRound received sent has_none is_full has_more is_ended is_broken speaks answers over visits paused K N)
      → Asked speaks answers M (with_round received sent has_none is_full has_more is_ended is_broken speaks answers over visits with_beside ts paused K N x) N
  round-on M ts paused K N was x =
      let told = with_connections received sent has_none is_full has_more is_ended is_broken (spoken speaks (answering paused answers)) over ts paused x.now x.most x.old x.visited K x.between x.readings x.readings1 x.round in
      let asked = connections-on received sent has_none is_full has_more is_ended is_broken speaks answers (answering paused answers) (answered-anyhow answers paused) over M ts paused x.now x.most x.old x.visited K x.between x.readings x.readings1 was x.round in
      look-on speaks answers M (with_guests received sent has_none is_full has_more is_ended is_broken speaks answers over visits with_beside told paused x.most_beside x.guests x.between x.left x.readings1 x.readings2 x.beside) x.left N
      (guests-on M told paused x.most_beside x.guests x.between x.left x.readings1 x.readings2 asked x.beside) x.looks

  pub servers-take-turns : ServersTakeTurns received sent has_none is_full has_more is_ended is_broken speaks answers over visits with_beside
  servers-take-turns M _ no_round_yet = record { left = M; take = refl; before = λ r o L a. a }
  servers-take-turns M _ (one_more_round K N paused more round) =
      round-on M (turns_of received sent has_none is_full has_more is_ended is_broken speaks answers over visits with_beside M K more) paused K N (servers-take-turns M K more) round

-- ---- one run

pub one-life : (speaks : Dialect) {D : Type 0} (answers : Answering D) (show : D → Shown) (M N : D) (ts : List AnyTurn) → AnswersAsShown answers show → IsAskedInTurns speaks answers M ts N → IsOneLife speaks answers show M ts N
one-life speaks answers show M N ts shows asked = record {
  left = asked.left;
  take = asked.take;
  before = asked.before;
  run = turns-run speaks show M asked.left ts (take-also speaks answers (applied show) shows M asked.left ts asked.take);
}
