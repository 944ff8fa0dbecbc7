-- Commands that are set aside in a round of visits, and answered together after its other visits.
use Rattle.std.specs.Prelude.{◌≡◌, ◌≢◌, ◌≤◌, ◌+◌, ◌++◌, ◌∷◌, ◌⊎◌, ◌&&◌, ⊤, [], ℕ, Bool, true, false, List, Option, Some, Ok, drop, length, nat_le, reverse, sum_by}
use Rattle.registry_rules.specs.Actions.{is_command}
use Rattle.registry_rules.specs.declared.request.Request.{Request}
use Rattle.registry_wire.specs.Spelling.{HasRequest}
use Rattle.registry_service.specs.Courses.{Gave}
use Rattle.registry_service.specs.Dialects.{AsksOne}
use Rattle.registry_service.specs.HttpAnswers.{Outcome}
use Rattle.registry_service.specs.Requests.{reads_request}
use Rattle.registry_service.specs.Turns.{Answering, Dialect, Dialogue, exchange, spoken}
use Rattle.registry_server.specs.Connections.{AnswersOnce, IsDone, IsLost, LeavesLittle, LeavesRest, OpenConnection, Visits, asked_in_answer, asked_in_visit, must_wait}
use Rattle.registry_server.specs.Phases.{takes_turns}
use Rattle.registry_server.specs.Pools.{VisitsAt, after_visit, is_held_back, is_to_visit, with_connection}
use Rattle.registry_server.specs.declared.connection.Visit.{Visit}
use Rattle.registry_server.specs.declared.connection.Visit.TheVariants.{Again, Rests, Over}
use Rattle.registry_server.specs.declared.group.Command.{Command}
use Rattle.registry_server.specs.declared.group.Group.{Group}
use Rattle.registry_server.specs.declared.phase.Stage.TheVariants.{Begun, Next}
use Rattle.registry_server.specs.declared.pool.Place.{Place}

-- ---- what commands ask

-- what the command asks of the registry, at some moment
pub record IsSpelled (c : Command) (r : Request) : Type 0 where
  pub at : ℕ
  pub reads : reads_request c.wanted at (Ok r)
  pub command : is_command r.what ≡ true

-- the same of each of the commands, in their order
abbrev pub AreSpelled : List Command → List Request → Type 0
AreSpelled [] [] = ⊤
AreSpelled (c ∷ cs) (r ∷ rs) = IsSpelled c r × AreSpelled cs rs
AreSpelled [] (r ∷ rs) = ⊥
AreSpelled (c ∷ cs) [] = ⊥

-- the same, each at the moment that a clock gives for it
abbrev pub AreAsked : List Command → List Request → Option (List ℕ) → Option (List ℕ) → Type 0
AreAsked [] [] readings readings2 = readings2 ≡ readings
AreAsked (c ∷ cs) (r ∷ rs) readings readings2 = (readings1 : Option (List ℕ)) × reads_request c.wanted r.at (Ok r) × (is_command r.what ≡ true) × Gave readings readings1 (r.at ∷ [])
    × AreAsked cs rs readings1 readings2
AreAsked [] (r ∷ rs) readings readings2 = ⊥
AreAsked (c ∷ cs) [] readings readings2 = ⊥

module _ {D : Type 0} (answers : Answering D) where
  -- the command was asked alone, at the moment that the clock gave, and came to this outcome
  pub record IsAsked (c : Command) (o : Outcome) (M N : D) (readings readings2 : Option (List ℕ)) : Type 0 where
    pub request : Request
    pub reads : reads_request c.wanted request.at (Ok request)
    pub command : is_command request.what ≡ true
    pub answered : answers M request o N
    pub gave : Gave readings readings2 (request.at ∷ [])

  -- the commands were asked, one after the other, and came to these outcomes
  abbrev pub AskedEach : List Command → List Outcome → D → D → Option (List ℕ) → Option (List ℕ) → Type 0
  AskedEach [] [] M N readings readings2 = (N ≡ M) × (readings2 ≡ readings)
  AskedEach (c ∷ cs) (o ∷ os) M N readings readings2 =
      (between : D) × (readings1 : Option (List ℕ)) × IsAsked c o M between readings readings1 × AskedEach cs os between N readings1 readings2
  AskedEach [] (o ∷ os) M N readings readings2 = ⊥
  AskedEach (c ∷ cs) [] M N readings readings2 = ⊥

-- ---- a group

-- a command takes at most this many bytes, or else it isn't set aside
abbrev pub command_limit : ℕ
command_limit = 32_768

-- the commands that are answered together take at most this many bytes
abbrev pub group_limit : ℕ
group_limit = 1_048_576

-- a command of so many bytes may be set aside, and there is room for it
abbrev pub has_room : Group → ℕ → Bool
has_room g bytes = nat_le bytes command_limit && nat_le bytes g.room

pub record IsEmpty (g : Group) : Type 0 where
  pub commands : g.commands.items ≡ []
  pub requests : g.requests.items ≡ []
  pub outcomes : length g.outcomes.items ≡ 0
  pub room : g.room ≡ group_limit

-- a command is added at the end, with what it asks, and takes its bytes of the room
pub record Adds (old new : Group) (c : Command) (r : Request) : Type 0 where
  pub commands : new.commands.items ≡ old.commands.items ++ c ∷ []
  pub requests : new.requests.items ≡ old.requests.items ++ r ∷ []
  pub outcomes : length new.outcomes.items ≡ length old.outcomes.items + 1
  pub room : c.used + new.room ≡ old.room

-- none is added
pub record IsStill (old new : Group) : Type 0 where
  pub commands : new.commands.items ≡ old.commands.items
  pub requests : new.requests.items ≡ old.requests.items
  pub outcomes : length new.outcomes.items ≡ length old.outcomes.items
  pub room : new.room ≡ old.room

-- how many bytes the commands of a group take together
abbrev pub used_in : Group → ℕ
used_in g = sum_by (λ (c : Command). c.used) g.commands.items

-- these bytes and the room for more make the limit
abbrev pub IsWithin : Group → Type 0
IsWithin g = used_in g + g.room ≡ group_limit

-- so it is at first
abbrev pub EmptyGroupsAreWithin : Type 0
EmptyGroupsAreWithin = (g : Group) → IsEmpty g → IsWithin g

-- and still after a command is added
abbrev pub AddsLeaveWithin : Type 0
AddsLeaveWithin = (old new : Group) (c : Command) (r : Request) → Adds old new c r → IsWithin old → IsWithin new

-- then the commands take no more than the limit together
abbrev pub GroupsHoldLittle : Type 0
GroupsHoldLittle = (g : Group) → IsWithin g → used_in g ≤ group_limit

-- the outcomes of the commands, in their order
abbrev pub in_order : Group → List Outcome
in_order g = reverse g.outcomes.items

-- the next command is that of this place, and is taken, with its outcome
pub record Takes (old new : Group) (number : ℕ) (c : Command) (o : Outcome) : Type 0 where
  pub place : c.number ≡ number
  pub commands : old.commands.items ≡ c ∷ new.commands.items
  pub outcomes : in_order old ≡ o ∷ in_order new

-- the next command isn't that of this place
abbrev pub IsNotNext : ℕ → List Command → Type 0
IsNotNext number [] = ⊤
IsNotNext number (c ∷ cs) = c.number ≢ number

-- ---- a connection

-- the first request that is held is this command's, and asks just one thing of the registry
pub record IsFirst (speaks : Dialect) (held : List ℕ) (c : Command) : Type 0 where
  pub first : HasRequest held c.wanted (drop c.used held)
  pub within : c.used ≤ length held
  pub one : AsksOne speaks c.wanted

module _ {S : Type 0} (received sent : S → Option (List ℕ)) {D : Type 0} (answers : Dialogue D) where
  -- What was received is held, and a turn may be taken of it: an answer to it makes a visit of the
  -- connection as it was, in which the same is asked.
  pub record IsReady (now most : ℕ) (old new : OpenConnection S) : Type 0 where
    pub turning : takes_turns new.phase.stage ≡ true
    pub visits : (last : OpenConnection S) (M N : D) (readings readings2 : Option (List ℕ)) (answered : AnswersOnce received sent answers now new last M N readings readings2)
        → (visit : Visits received sent answers now most old last M N readings readings2) × (asked_in_visit received sent answers visit ≡ asked_in_answer received sent answers answered)
    pub ends : IsDone old.state → new.is_over ≡ true → new.state.held ≡ []
    pub leaves : (last : OpenConnection S) → LeavesRest new.state.held last → LeavesLittle most old → LeavesLittle most last

  -- The same, and the first request that is held is a small command, which is set aside.
  pub record SetsAside (now most : ℕ) (old new : OpenConnection S) (number : ℕ) (c : Command) (r : Request) : Type 0 where
    pub ready : IsReady now most old new
    pub first : IsFirst answers.speaks new.state.held c
    pub small : c.used ≤ command_limit
    pub spelled : IsSpelled c r
    pub place : c.number ≡ number

module _ {S : Type 0} (received sent : S → Option (List ℕ)) (has_none is_full has_more is_ended is_broken : S → Bool) (speaks : Dialect) {D : Type 0} (answers : Answering D) where
  -- The command that was set aside is answered by this outcome, and as much is sent as the socket
  -- takes at once.
  pub record AnswersAside (now : ℕ) (old new : OpenConnection S) (visit : Visit) (c : Command) (o : Outcome) : Type 0 where
    pub asked : (M N : D) (readings readings2 : Option (List ℕ)) (asked : IsAsked answers c o M N readings readings2)
        → (answered : AnswersOnce received sent (spoken speaks answers) now old new M N readings readings2) × (asked_in_answer received sent (spoken speaks answers) answered ≡ exchange asked.request o ∷ [])
    pub over : new.is_over ≡ old.is_over
    pub rests : visit ≡ Rests → new.phase.stage ≢ Next
    pub waits : visit ≡ Rests → must_wait has_none is_full new ≡ true
    pub more : visit ≡ Again → new.phase.stage ≡ Begun → has_more new.socket ≡ true
    pub lost : visit ≡ Over → IsLost is_ended is_broken new
    pub rest : visit ≢ Over → LeavesRest old.state.held new

  -- ---- a pool

  -- the command of the connection at a place is set aside, where the service isn't over
  pub record SetsPlaceAside (paused crowd is_over : Bool) (now most : ℕ) (old new : Place S) (number : ℕ) (c : Command) (r : Request) : Type 0 where
    pub unpaused : paused ≡ false
    pub goes_on : is_over ≡ false
    pub is_ready : is_to_visit paused old ≡ true
    pub unheld : is_held_back crowd old ≡ false
    pub was : OpenConnection S
    pub is : OpenConnection S
    pub there : old.connection ≡ Some was
    pub place : new ≡ with_connection old (Some is) false
    pub aside : SetsAside received sent (spoken speaks answers) now most was is number c r

  -- it is answered
  pub record AnswersPlace (now : ℕ) (old new : Place S) (c : Command) (o : Outcome) : Type 0 where
    pub answered : (was : OpenConnection S) → old.connection ≡ Some was → takes_turns was.phase.stage ≡ true → IsFirst speaks was.state.held c
        → (is : OpenConnection S) × (visit : Visit) × (old.is_ready ≡ false → new ≡ after_visit visit old is) × AnswersAside now was is visit c o

  -- the next command of the group is that of this place, and is answered, or nothing happens there
  abbrev pub AnswersNext : ℕ → ℕ → Place S → Place S → Group → Group → Type 0
  AnswersNext now number old new group group2 =
      ((c : Command) × (o : Outcome) × Takes group group2 number c o × AnswersPlace now old new c o)
      ⊎ (IsNotNext number group.commands.items × (group2 ≡ group) × (new ≡ old))

  -- From the place of this number on, the commands of the group are answered, each at its place.
  -- Nothing else happens at the places.
  abbrev pub AnswersPlaces : ℕ → ℕ → List (Place S) → List (Place S) → List Command → List Outcome → Type 0
  AnswersPlaces now number [] [] cs os = ⊤
  AnswersPlaces now number (p ∷ places) (q ∷ places2) cs os =
      ((c : Command) × (o : Outcome) × (cs1 : List Command) × (os1 : List Outcome) × (cs ≡ c ∷ cs1) × (os ≡ o ∷ os1) × (c.number ≡ number) × AnswersPlace now p q c o
      × AnswersPlaces now (number + 1) places places2 cs1 os1)
      ⊎ (IsNotNext number cs × (q ≡ p) × AnswersPlaces now (number + 1) places places2 cs os)
  AnswersPlaces now number [] (q ∷ places2) cs os = ⊥
  AnswersPlaces now number (p ∷ places) [] cs os = ⊥

module _ {S : Type 0} (received sent : S → Option (List ℕ)) (has_none is_full has_more is_ended is_broken : S → Bool) (speaks : Dialect) {D : Type 0} (answers : Answering D) (over : D → Bool) where
  -- the visit of one place, or its command is set aside
  abbrev pub VisitsOrSetsAside : Bool → Bool → ℕ → ℕ → ℕ → Place S → Place S → Group → Group → D → D → Option (List ℕ) → Option (List ℕ) → Type 0
  VisitsOrSetsAside paused crowd now most number old new group group2 M N readings readings2 =
      (IsStill group group2 × VisitsAt received sent has_none is_full has_more is_ended is_broken (spoken speaks answers) over paused crowd now most old new M N readings readings2)
      ⊎ ((c : Command) × (r : Request) × Adds group group2 c r × SetsPlaceAside received sent has_none is_full has_more is_ended is_broken speaks answers paused crowd (over M) now most old new number c r
      × (N ≡ M) × (readings2 ≡ readings))

  -- From the place of this number on, each is visited, or its command is set aside: these commands,
  -- in the order of the places, which ask this.
  abbrev pub VisitsFirst : Bool → Bool → ℕ → ℕ → ℕ → List (Place S) → List (Place S) → List Command → List Request → D → D → Option (List ℕ) → Option (List ℕ) → Type 0
  VisitsFirst paused crowd now most number [] [] cs rs M N readings readings2 = (cs ≡ []) × (rs ≡ []) × (N ≡ M) × (readings2 ≡ readings)
  VisitsFirst paused crowd now most number (p ∷ places) (q ∷ places2) cs rs M N readings readings2 =
      ((between : D) × (readings1 : Option (List ℕ)) × VisitsAt received sent has_none is_full has_more is_ended is_broken (spoken speaks answers) over paused crowd now most p q M between readings readings1
      × VisitsFirst paused crowd now most (number + 1) places places2 cs rs between N readings1 readings2)
      ⊎ ((c : Command) × (r : Request) × (cs1 : List Command) × (rs1 : List Request) × (cs ≡ c ∷ cs1) × (rs ≡ r ∷ rs1)
      × SetsPlaceAside received sent has_none is_full has_more is_ended is_broken speaks answers paused crowd (over M) now most p q number c r
      × VisitsFirst paused crowd now most (number + 1) places places2 cs1 rs1 M N readings readings2)
  VisitsFirst paused crowd now most number [] (q ∷ places2) cs rs M N readings readings2 = ⊥
  VisitsFirst paused crowd now most number (p ∷ places) [] cs rs M N readings readings2 = ⊥
