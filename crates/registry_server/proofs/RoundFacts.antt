-- What a server asks in rounds.
use Rattle.std.proofs.Common.{◌≡◌, ◌∷◌, ◌==◌, ◌&&◌, not, [], ℕ, Bool, true, false, List, Option, None, Some, refl, sym, subst, inl, inr}
use Rattle.registry_service.specs.Turns.{Answering, AnswersAsBefore, Cause, Dialect, Turns, spoken}
use Rattle.registry_service.specs.declared.turning.Turned.{Turned}
use Rattle.registry_server.specs.Connections.{OpenConnection, Visits}
use Rattle.registry_server.specs.Pools.{ServesQueries, VisitsAll, VisitsIf, VisitsRound, VisitsThere, is_crowd, is_held_back, is_to_visit}
use Rattle.registry_server.specs.Queries.{answering}
use Rattle.registry_server.specs.Rounds.{AsksInRound, AsksInRounds, AsksInTurns, RoundsAskInTurns, VisitsGuests, guests_come, is_looked_up, no_round_yet, no_turn_yet, one_more_round, one_more_turn}
use Rattle.registry_server.specs.declared.pool.Place.{Place}
use Rattle.registry_server.proofs.QueryFacts.{queries-are-answers}

-- ---- rounds

module _ {S : Type 0} (received sent : S → Option (List ℕ)) (has_none is_full has_more is_ended is_broken : S → Bool) (speaks : Dialect) {D : Type 0} (answers : Answering D) (over : D → Bool)
    {G : Type 0} (visits : ℕ → G → D → D → Option (List ℕ) → Option (List ℕ) → Type 0) where
  -- rounds after rounds
  pub rounds-then : (M K N : D) → AsksInRounds received sent has_none is_full has_more is_ended is_broken speaks answers over visits M K
      → AsksInRounds received sent has_none is_full has_more is_ended is_broken speaks answers over visits K N → AsksInRounds received sent has_none is_full has_more is_ended is_broken speaks answers over visits M N
  rounds-then M K _ first no_round_yet = first
  rounds-then M K _ first (one_more_round L N paused more round) = one_more_round L N paused (rounds-then M K L first more) round

  -- a round while commands wait
  pub queries-asked : (now most : ℕ) (old new : List (Place S)) (M N : D) (r r2 : Option (List ℕ)) (guests : G)
      → ServesQueries received sent has_none is_full has_more is_ended is_broken speaks answers over now most old new M N r r2
      → AsksInRounds received sent has_none is_full has_more is_ended is_broken speaks answers over visits M N
  queries-asked now most old new M N r r2 guests x = one_more_round M N true no_round_yet (record {
    now = now;
    most = most;
    old = old;
    visited = x.visited;
    between = x.between;
    readings = r;
    readings1 = r2;
    round = x.round;
    guests = guests;
    most_beside = most;
    left = x.between;
    readings2 = r2;
    beside = (refl, refl);
    looks = x.looks;
  })

  -- a round while none waits
  pub all-asked-round : (now most : ℕ) (old visited : List (Place S)) (M K L N : D) (guests : G) (most2 : ℕ) (r r1 r2 : Option (List ℕ))
      → VisitsRound received sent has_none is_full has_more is_ended is_broken (spoken speaks answers) over false now most old visited M K r r1 → visits most2 guests K L r1 r2 → AnswersAsBefore answers L N
      → AsksInRounds received sent has_none is_full has_more is_ended is_broken speaks answers over visits M N
  all-asked-round now most old visited M K L N guests most2 r r1 r2 round beside looks = one_more_round M N false no_round_yet (record {
    now = now;
    most = most;
    old = old;
    visited = visited;
    between = K;
    readings = r;
    readings1 = r1;
    round = round;
    guests = guests;
    most_beside = most2;
    left = L;
    readings2 = r2;
    beside = beside;
    looks = looks;
  })

-- ---- turns

module _ (speaks : Dialect) {D : Type 0} (answers : Answering D) {G : Type 0} (visits : ℕ → G → D → D → Option (List ℕ) → Option (List ℕ) → Type 0) where
  unasked-same : (B M N : D) → AsksInTurns speaks answers visits B M → N ≡ M → AsksInTurns speaks answers visits B N
  unasked-same B M N was same = subst (λ (d : D). AsksInTurns speaks answers visits B d) (sym same) was

  turn-asked : (B M N : D) (c : Cause) (last : Bool) (t : Turned) → AsksInTurns speaks answers visits B M → Turns (spoken speaks answers) M c last t N → AsksInTurns speaks answers visits B N
  turn-asked B M N c last t was x = one_more_turn M N last (record { cause = c; exchanges = x.exchanges; outcome = x.outcome; ended = t.end }) was x.is_turn

module _ {S : Type 0} (received sent : S → Option (List ℕ)) (speaks : Dialect) {D : Type 0} (answers : Answering D) {G : Type 0} (visits : ℕ → G → D → D → Option (List ℕ) → Option (List ℕ) → Type 0) where
  visit-asked : (B M N : D) (now most : ℕ) (old new : OpenConnection S) (r r2 : Option (List ℕ)) → AsksInTurns speaks answers visits B M
      → Visits received sent (spoken speaks answers) now most old new M N r r2 → AsksInTurns speaks answers visits B N
  visit-asked B M N now most old new r r2 was v = elim v.turns [
    | inl t ↦ turn-asked speaks answers visits B M N t.0.takes.cause (v.read.left == 1) t.0.takes.turned was t.0.takes.turns
    | inr t ↦ unasked-same speaks answers visits B M N was t.0.service
  ]

module _ {S : Type 0} (received sent : S → Option (List ℕ)) (has_none is_full has_more is_ended is_broken : S → Bool) (speaks : Dialect) {D : Type 0} (answers : Answering D) (over : D → Bool)
    {G : Type 0} (visits : ℕ → G → D → D → Option (List ℕ) → Option (List ℕ) → Type 0) where
  there-asked : (B M N : D) (now most : ℕ) (p : Place S) (o : Option (OpenConnection S)) (q : Place S) (r r2 : Option (List ℕ)) → AsksInTurns speaks answers visits B M
      → VisitsThere received sent has_none is_full has_more is_ended is_broken (spoken speaks answers) now most p o q M N r r2 → AsksInTurns speaks answers visits B N
  there-asked B M N now most p None q r r2 was v = unasked-same speaks answers visits B M N was v.service
  there-asked B M N now most p (Some c) q r r2 was v = visit-asked received sent speaks answers visits B M N now most c v.connection r r2 was v.visits

  visited-asked : (B M N : D) (b held : Bool) (now most : ℕ) (p q : Place S) (r r2 : Option (List ℕ)) → AsksInTurns speaks answers visits B M
      → VisitsIf received sent has_none is_full has_more is_ended is_broken (spoken speaks answers) b held now most p q M N r r2 → AsksInTurns speaks answers visits B N
  visited-asked B M N true true now most p q r r2 was v = unasked-same speaks answers visits B M N was v.service
  visited-asked B M N true false now most p q r r2 was v = there-asked B M N now most p p.connection q r r2 was v
  visited-asked B M N false held now most p q r r2 was v = unasked-same speaks answers visits B M N was v.service

  -- the first visits, and then those that come later
  all-asked : (B : D) (paused crowd : Bool) (now most : ℕ) (ps qs : List (Place S)) (M K L N : D) (r r1 s s2 : Option (List ℕ))
      → VisitsAll received sent has_none is_full has_more is_ended is_broken (spoken speaks answers) over paused crowd now most ps qs M K L N r r1 s s2
      → (AsksInTurns speaks answers visits B M → AsksInTurns speaks answers visits B K) × (AsksInTurns speaks answers visits B L → AsksInTurns speaks answers visits B N)
  all-asked B paused crowd now most [] [] M K L N r r1 s s2 v = (λ was. unasked-same speaks answers visits B M K was v.0, λ was. unasked-same speaks answers visits B L N was v.2)
  all-asked B paused crowd now most (p ∷ ps) (q ∷ qs) M K L N r r1 s s2 (inl v) =
      let rest = all-asked B paused crowd now most ps qs v.0 K L N v.1 r1 s s2 v.3 in
      (λ was. rest.0 (visited-asked B M v.0 (is_to_visit paused p && not (over M)) (is_held_back crowd p) now most p q r v.1 was v.2), rest.1)
  all-asked B paused crowd now most (p ∷ ps) (q ∷ qs) M K L N r r1 s s2 (inr v) =
      let rest = all-asked B paused crowd now most ps qs M K v.1 N r r1 v.2 s2 v.4 in
      (rest.0, λ was. rest.1 (visited-asked B L v.1 (is_to_visit paused p) (is_held_back crowd p) now most p q s v.2 was v.3.0))
  all-asked B paused crowd now most [] (q ∷ qs) M K L N r r1 s s2 v = absurd v
  all-asked B paused crowd now most (p ∷ ps) [] M K L N r r1 s s2 v = absurd v

  -- whether commands wait or not
  round-answered : (paused : Bool) (now most : ℕ) (old new : List (Place S)) (M N : D) (r r2 : Option (List ℕ))
      → VisitsRound received sent has_none is_full has_more is_ended is_broken (spoken speaks (answering paused answers)) over paused now most old new M N r r2
      → VisitsRound received sent has_none is_full has_more is_ended is_broken (spoken speaks answers) over paused now most old new M N r r2
  round-answered false now most old new M N r r2 round = round
  round-answered true now most old new M N r r2 round = queries-are-answers received sent has_none is_full has_more is_ended is_broken speaks answers over true now most old new M N r r2 round

  guests-asked : (B M N : D) (paused : Bool) (most : ℕ) (guests : G) (r r2 : Option (List ℕ)) → AsksInTurns speaks answers visits B M
      → VisitsGuests visits paused most guests M N r r2 → AsksInTurns speaks answers visits B N
  guests-asked B M N false most guests r r2 was v = guests_come M N most guests r r2 was v
  guests-asked B M N true most guests r r2 was same = unasked-same speaks answers visits B M N was same.0

  round-asked : (B M N : D) (paused : Bool) → AsksInTurns speaks answers visits B M
      → AsksInRound received sent has_none is_full has_more is_ended is_broken speaks answers over visits paused M N → AsksInTurns speaks answers visits B N
  round-asked B M N paused was x =
      let round = round-answered paused x.now x.most x.old x.visited M x.between x.readings x.readings1 x.round in
      let all = all-asked B paused (is_crowd x.old) x.now x.most round.looked x.visited M round.between round.between x.between x.readings round.readings1 round.readings1 x.readings1 round.visits in
      is_looked_up x.left N (guests-asked B x.between x.left paused x.most_beside x.guests x.readings1 x.readings2 (all.1 (all.0 was)) x.beside) x.looks

  pub rounds-ask-in-turns : RoundsAskInTurns received sent has_none is_full has_more is_ended is_broken speaks answers over visits
  rounds-ask-in-turns M _ no_round_yet = no_turn_yet
  rounds-ask-in-turns M _ (one_more_round K N paused more round) = round-asked M K N paused (rounds-ask-in-turns M K more) round
