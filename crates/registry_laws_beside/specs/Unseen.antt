-- What connections are answered and what commands print in two worlds of a server beside commands,
-- whose turns differ in requests on a package.
use Rattle.std.specs.Prelude.{◌≡◌, ◌==◌, ◌++◌, ℕ, Bool, true, false, List, [], ◌∷◌, map}
use Rattle.sqlite.specs.State.{State as Shown, HasCleanDisk}
use Rattle.registry_names.specs.Texts.{Text}
use Rattle.registry_rules.specs.State.{State}
use Rattle.registry_rules.specs.declared.request.Request.{Request}
use Rattle.registry_tables.specs.Effects.{registry_in, stored}
use Rattle.registry_laws_history.specs.History.{Entry, after}
use Rattle.registry_laws_hidden.specs.Runs.{DifferInPackage}
use Rattle.registry_desk.specs.Promises.{IsOneRun, NeedsForEach}
use Rattle.registry_service.specs.Histories.{LogEntry, Reached, World}
use Rattle.registry_service.specs.Turns.{Dialect, Exchange, asked_in, outcomes_in}
use Rattle.registry_http.specs.Services.{applied}
use Rattle.registry_http.specs.Unseen as http
use Rattle.registry_http.specs.Unseen.{AreUnseen, LeavesRest, StayClose, left_by}
use Rattle.registry_guests.specs.Beside.{Beside, GuestTurn, GuestsLead, beside, beside_guests}
use Rattle.registry_guests.specs.Outputs.{prints}
use Rattle.registry_laws_beside.specs.Beside.{AnyTurn, AskAll, AsksFor, TakeTurns, of_connection, of_guest, of_guests}

-- ---- the turns of a world

-- a turn of a world: of a connection, as it stands in the list of these; or of a command, with what it
-- asked. Lists of them have the newest first
pub data WorldTurn : Type 0 where
  by_connection : LogEntry → WorldTurn
  by_command : GuestTurn → List Exchange → WorldTurn

abbrev pub turn_of : WorldTurn → AnyTurn
turn_of (by_connection e) = of_connection e.turn
turn_of (by_command t es) = of_guest t

-- what was asked in it
abbrev pub asked_by : WorldTurn → List Exchange
asked_by (by_connection e) = e.turn.exchanges
asked_by (by_command t es) = es

-- a turn of the connection of this number
abbrev pub is_of : ℕ → WorldTurn → Bool
is_of k (by_connection e) = k == e.from
is_of k (by_command t es) = false

-- the turns of connections among them, as they stand in the list of these
abbrev pub and_entry : WorldTurn → List LogEntry → List LogEntry
and_entry (by_connection e) es = e ∷ es
and_entry (by_command t asked) es = es

abbrev pub entries_in : List WorldTurn → List LogEntry
entries_in [] = []
entries_in (x ∷ xs) = and_entry x (entries_in xs)

abbrev pub any_turns : List WorldTurn → List AnyTurn
any_turns xs = map turn_of xs

-- all that was asked in them, in its order
abbrev pub all_asked : List WorldTurn → List Exchange
all_asked [] = []
all_asked (x ∷ xs) = all_asked xs ++ asked_by x

-- each turn asked what stands with it
abbrev pub AskSo : List WorldTurn → Type 0
AskSo [] = Unit {0}
AskSo (x ∷ xs) = AsksFor (turn_of x) (asked_by x) × AskSo xs

-- A service, spoken to in a dialect, has come to this world, and with commands after the last turn of a
-- connection to K, from a registry that a legal history left. These are all its turns, those of
-- commands among them, and they are a run.
pub record IsWorldOf (speaks : Dialect) {D : Type 0} (show : D → Shown) (M : D) (w : World (Beside D)) (K : D) (h : List Entry) (xs : List WorldTurn) : Type 0 where
  pub reached : Reached (beside_guests speaks (applied show)) (beside M []) w
  pub log : w.log ≡ entries_in xs
  pub lead : GuestsLead (applied show) w.service (beside K (of_guests (any_turns xs)))
  pub take : TakeTurns speaks (applied show) M (any_turns xs) K
  pub ask : AskSo xs
  pub left : registry_in (show M) ≡ after h
  pub clean : HasCleanDisk (show K)
  pub run : IsOneRun (show M) (show K) (AskAll (any_turns xs))
  pub needs : NeedsForEach run.requests (stored (show M))
  pub requests : run.requests ≡ asked_in (all_asked xs)
  pub outcomes : run.outcomes ≡ outcomes_in (all_asked xs)

module _ (speaks : Dialect) {D : Type 0} (show : D → Shown) where
  -- Each world of connections beside commands, with the commands after it, is such, where its
  -- registry is in order.
  abbrev pub WorldsAreSuch : Type 0
  WorldsAreSuch = (M : D) (w : World (Beside D)) (N : Beside D) (h : List Entry) → Reached (beside_guests speaks (applied show)) (beside M []) w → GuestsLead (applied show) w.service N
      → registry_in (show M) ≡ after h → HasCleanDisk (show N.service) → ((rs : List Request) → NeedsForEach rs (stored (show M)))
      → (xs : List WorldTurn) × (of_guests (any_turns xs) ≡ N.turns) × IsWorldOf speaks show M w N.service h xs

-- ---- two worlds

-- a turn of two worlds, which is taken in both or in only one of them
pub data Meeting : Type 0 where
  in_both : WorldTurn → WorldTurn → Meeting
  in_first : WorldTurn → Meeting
  in_second : WorldTurn → Meeting

abbrev pub first : List Meeting → List WorldTurn
first [] = []
first (in_both t u ∷ ms) = t ∷ first ms
first (in_first t ∷ ms) = t ∷ first ms
first (in_second u ∷ ms) = first ms

abbrev pub second : List Meeting → List WorldTurn
second [] = []
second (in_both t u ∷ ms) = u ∷ second ms
second (in_first t ∷ ms) = second ms
second (in_second u ∷ ms) = u ∷ second ms

-- what the turns of each world leave of its registry
abbrev pub first_left : State → List Meeting → State
first_left S ms = left_by S (all_asked (first ms))

abbrev pub second_left : State → List Meeting → State
second_left S ms = left_by S (all_asked (second ms))

-- ---- how they differ

-- turns of one connection for one cause, by servers that both are to end or not; or of one command,
-- with the same file, at one moment
abbrev pub AreForTheSame : WorldTurn → WorldTurn → Type 0
AreForTheSame (by_connection e) (by_connection f) = (e.from ≡ f.from) × (e.stops ≡ f.stops) × (e.turn.cause ≡ f.turn.cause)
AreForTheSame (by_connection e) (by_command u fs) = ⊥
AreForTheSame (by_command t es) (by_connection f) = ⊥
AreForTheSame (by_command t es) (by_command u fs) = (t.arguments ≡ u.arguments) × (t.body ≡ u.body) × (t.at ≡ u.at)

-- A turn of both is taken for the same in both, and the same is asked in it, one request after the
-- other, each of which leaves both registries the same in all but the package.
abbrev pub IsSameTurn : Text → State → State → WorldTurn → WorldTurn → Type 0
IsSameTurn p S T t u = AreForTheSame t u × StayClose p S T (asked_by t) (asked_by u)

-- what is taken in only one of them leaves the rest as it was
abbrev pub DifferIn : Text → State → State → List Meeting → Type 0
DifferIn p S T [] = Unit {0}
DifferIn p S T (in_both t u ∷ ms) = IsSameTurn p (first_left S ms) (second_left T ms) t u × DifferIn p S T ms
DifferIn p S T (in_first t ∷ ms) = LeavesRest p (asked_by t) × DifferIn p S T ms
DifferIn p S T (in_second u ∷ ms) = LeavesRest p (asked_by u) × DifferIn p S T ms

-- ---- what strangers are told

-- Of a turn of a connection that asks something, both outcomes are replies. Where nothing is asked, the
-- outcome is one, and a command prints one text.
abbrev pub EndsAlike : WorldTurn → WorldTurn → Type 0
EndsAlike (by_connection e) (by_connection f) = http.EndsAlike e.turn.exchanges e.turn.outcome f.turn.outcome
EndsAlike (by_connection e) (by_command u fs) = ⊥
EndsAlike (by_command t es) (by_connection f) = ⊥
EndsAlike (by_command t []) (by_command u fs) = prints t.output ≡ prints u.output
EndsAlike (by_command t (e ∷ es)) (by_command u fs) = Unit {0}

-- the turn is of a caller who has no level on the package
abbrev pub IsUnseenTurn : Text → State → State → WorldTurn → WorldTurn → Type 0
IsUnseenTurn p S T t u = AreUnseen p S T (asked_by t) (asked_by u) × EndsAlike t u

-- each turn of this connection is like this, and none of them is taken in only one of the worlds
abbrev pub IsStrangers : ℕ → Text → State → State → List Meeting → Type 0
IsStrangers k p S T [] = Unit {0}
IsStrangers k p S T (in_both t u ∷ ms) = (is_of k t ≡ true → IsUnseenTurn p (first_left S ms) (second_left T ms) t u) × IsStrangers k p S T ms
IsStrangers k p S T (in_first t ∷ ms) = (is_of k t ≡ false) × IsStrangers k p S T ms
IsStrangers k p S T (in_second u ∷ ms) = (is_of k u ≡ false) × IsStrangers k p S T ms

-- commands print the same; of turns of connections nothing is said here
abbrev pub PrintTheSame : WorldTurn → WorldTurn → Type 0
PrintTheSame (by_command t es) (by_command u fs) = prints t.output ≡ prints u.output
PrintTheSame (by_command t es) (by_connection f) = Unit {0}
PrintTheSame (by_connection e) u = Unit {0}

-- each command of such a caller prints the same in both worlds
abbrev pub StrangersPrintTheSame : Text → State → State → List Meeting → Type 0
StrangersPrintTheSame p S T [] = Unit {0}
StrangersPrintTheSame p S T (in_both t u ∷ ms) = (IsUnseenTurn p (first_left S ms) (second_left T ms) t u → PrintTheSame t u) × StrangersPrintTheSame p S T ms
StrangersPrintTheSame p S T (in_first t ∷ ms) = StrangersPrintTheSame p S T ms
StrangersPrintTheSame p S T (in_second u ∷ ms) = StrangersPrintTheSame p S T ms

-- whatever else is asked, on other connections and by commands: such a connection is answered the
-- same bytes in both worlds
abbrev pub ConnectionsAreAnsweredTheSame : Dialect → {D : Type 0} → (D → Shown) → Type 0
ConnectionsAreAnsweredTheSame speaks {D = D} show = (M N K L : D) (w v : World (Beside D)) (g h : List Entry) (p : Text) (ms : List Meeting) → DifferInPackage g h p
    → IsWorldOf speaks show M w K g (first ms) → IsWorldOf speaks show N v L h (second ms) → DifferIn p (after g) (after h) ms
    → (k : ℕ) → IsStrangers k p (after g) (after h) ms → (w.transcripts k).out ≡ (v.transcripts k).out

-- and such commands print the same
abbrev pub CommandsPrintTheSame : Dialect → {D : Type 0} → (D → Shown) → Type 0
CommandsPrintTheSame speaks {D = D} show = (M N K L : D) (w v : World (Beside D)) (g h : List Entry) (p : Text) (ms : List Meeting) → DifferInPackage g h p
    → IsWorldOf speaks show M w K g (first ms) → IsWorldOf speaks show N v L h (second ms) → DifferIn p (after g) (after h) ms
    → StrangersPrintTheSame p (after g) (after h) ms
