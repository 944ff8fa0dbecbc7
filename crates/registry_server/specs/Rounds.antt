-- What a server asks of its service: round by round, and turn by turn.
use Rattle.std.specs.Prelude.{◌≡◌, ℕ, Bool, true, false, List, Option}
use Rattle.registry_service.specs.Turns.{Answering, AnswersAsBefore, Dialect, IsTurn, Turn, spoken}
use Rattle.registry_server.specs.Pools.{VisitsRound}
use Rattle.registry_server.specs.Queries.{answering}
use Rattle.registry_server.specs.declared.pool.Place.{Place}

-- ---- round by round

module _ {D G : Type 0} (visits : ℕ → G → D → D → Option (List ℕ) → Option (List ℕ) → Type 0) where
  -- guests are visited, unless commands wait
  abbrev pub VisitsGuests : Bool → ℕ → G → D → D → Option (List ℕ) → Option (List ℕ) → Type 0
  VisitsGuests false most guests M N readings readings2 = visits most guests M N readings readings2
  VisitsGuests true most guests M N readings readings2 = (N ≡ M) × (readings2 ≡ readings)

module _ {S : Type 0} (received sent : S → Option (List ℕ)) (has_none is_full has_more is_ended is_broken : S → Bool) (speaks : Dialect) {D : Type 0} (answers : Answering D) (over : D → Bool)
    {G : Type 0} (visits : ℕ → G → D → D → Option (List ℕ) → Option (List ℕ) → Type 0) where
  -- What a round asks of a service, whatever is at the places, whoever the guests are, and whatever the
  -- clock gives: first the visits of connections, then those of guests. Where commands wait, it is asked
  -- queries alone, and no guest is visited. Then it may look something up.
  pub record AsksInRound (paused : Bool) (M N : D) : Type 0 where
    pub now : ℕ
    pub most : ℕ
    pub old : List (Place S)
    pub visited : List (Place S)
    pub between : D
    pub readings : Option (List ℕ)
    pub readings1 : Option (List ℕ)
    pub round : VisitsRound received sent has_none is_full has_more is_ended is_broken (spoken speaks (answering paused answers)) over paused now most old visited M between readings readings1
    pub guests : G
    pub most_beside : ℕ
    pub left : D
    pub readings2 : Option (List ℕ)
    pub beside : VisitsGuests visits paused most_beside guests between left readings1 readings2
    pub looks : AnswersAsBefore answers left N

  -- Any number of rounds, one after the other: all that a server asks of its service.
  pub data AsksInRounds (M : D) : D → Type 0 where
    no_round_yet : AsksInRounds M M
    one_more_round : (K N : D) (paused : Bool) → AsksInRounds M K → AsksInRound paused K N → AsksInRounds M N

-- ---- turn by turn

module _ (speaks : Dialect) {D : Type 0} (answers : Answering D) {G : Type 0} (visits : ℕ → G → D → D → Option (List ℕ) → Option (List ℕ) → Type 0) where
  -- A service is asked in turns of connections and in visits of guests, each at what all earlier ones
  -- left, and in between it may look something up.
  pub data AsksInTurns (M : D) : D → Type 0 where
    no_turn_yet : AsksInTurns M M
    one_more_turn : (K N : D) (last : Bool) (t : Turn) → AsksInTurns M K → IsTurn (spoken speaks answers) K last t N → AsksInTurns M N
    guests_come : (K N : D) (most : ℕ) (guests : G) (readings readings2 : Option (List ℕ)) → AsksInTurns M K → visits most guests K N readings readings2 → AsksInTurns M N
    is_looked_up : (K N : D) → AsksInTurns M K → AnswersAsBefore answers K N → AsksInTurns M N

module _ {S : Type 0} (received sent : S → Option (List ℕ)) (has_none is_full has_more is_ended is_broken : S → Bool) (speaks : Dialect) {D : Type 0} (answers : Answering D) (over : D → Bool)
    {G : Type 0} (visits : ℕ → G → D → D → Option (List ℕ) → Option (List ℕ) → Type 0) where
  -- so rounds ask nothing but turns
  abbrev pub RoundsAskInTurns : Type 0
  RoundsAskInTurns = (M N : D) → AsksInRounds received sent has_none is_full has_more is_ended is_broken speaks answers over visits M N → AsksInTurns speaks answers visits M N
