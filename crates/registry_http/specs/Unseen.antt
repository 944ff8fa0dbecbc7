-- What connections are sent in two worlds whose turns differ in requests on a package.
use Rattle.std.specs.Prelude.{◌≡◌, ◌==◌, ℕ, Bool, true, false, List, [], ◌∷◌, Ok}
use Rattle.sqlite.specs.State.{State as Shown, HasCleanDisk}
use Rattle.registry_names.specs.Texts.{Text}
use Rattle.registry_rules.specs.State.{State}
use Rattle.registry_rules.specs.declared.request.Request.{Request}
use Rattle.registry_tables.specs.Effects.{registry_in, stored}
use Rattle.registry_laws_history.specs.History.{Entry, after}
use Rattle.registry_laws_history.specs.Runs.{Outcome, end_of, next}
use Rattle.registry_laws_hidden.specs.Arrivals.{StaysClose, leaves_the_rest}
use Rattle.registry_laws_hidden.specs.Concerns.{IsShownAlike}
use Rattle.registry_laws_hidden.specs.Levels.{IsStranger}
use Rattle.registry_laws_hidden.specs.Runs.{DifferInPackage}
use Rattle.registry_desk.specs.Promises.{NeedsForEach}
use Rattle.registry_service.specs.Histories.{LogEntry, Reached, World}
use Rattle.registry_service.specs.Turns.{Dialect, Exchange, Turn, asked_in, outcomes_in, spoken}
use Rattle.registry_http.specs.Services.{applied, exchanges_of, turns_in}

-- A turn of two worlds; lists of them have the newest first. It is taken in both, on this
-- connection, or in only one of them. With it stands whether the server is to end then
pub data Meeting : Type 0 where
  in_both : ℕ → Bool → Turn → Turn → Meeting
  in_first : ℕ → Bool → Turn → Meeting
  in_second : ℕ → Bool → Turn → Meeting

-- ---- the two worlds

abbrev pub first_log : List Meeting → List LogEntry
first_log [] = []
first_log (in_both k stops t u ∷ ms) = record { from = k; stops = stops; turn = t } ∷ first_log ms
first_log (in_first k stops t ∷ ms) = record { from = k; stops = stops; turn = t } ∷ first_log ms
first_log (in_second k stops u ∷ ms) = first_log ms

abbrev pub second_log : List Meeting → List LogEntry
second_log [] = []
second_log (in_both k stops t u ∷ ms) = record { from = k; stops = stops; turn = u } ∷ second_log ms
second_log (in_first k stops t ∷ ms) = second_log ms
second_log (in_second k stops u ∷ ms) = record { from = k; stops = stops; turn = u } ∷ second_log ms

-- what requests with these outcomes leave
abbrev pub left_by : State → List Exchange → State
left_by S es = end_of S (asked_in es) (outcomes_in es)

-- what the turns of each world leave
abbrev pub first_left : State → List Meeting → State
first_left S ms = left_by S (exchanges_of (turns_in (first_log ms)))

abbrev pub second_left : State → List Meeting → State
second_left S ms = left_by S (exchanges_of (turns_in (second_log ms)))

-- ---- how they differ

-- what is asked in only one of them leaves the rest as it was
abbrev pub LeavesRest : Text → List Exchange → Type 0
LeavesRest p [] = Unit {0}
LeavesRest p (e ∷ es) = (leaves_the_rest e.asked e.outcome p ≡ true) × LeavesRest p es

-- The same is asked in both, one request after the other, and each leaves both registries the same in
-- all but the package
abbrev pub StayClose : Text → State → State → List Exchange → List Exchange → Type 0
StayClose p S T [] [] = Unit {0}
StayClose p S T (e ∷ es) (f ∷ fs) = (e.asked ≡ f.asked) × StaysClose p S T e.asked e.outcome f.outcome
    × StayClose p (next S e.asked e.outcome) (next T f.asked f.outcome) es fs
StayClose p S T [] (f ∷ fs) = ⊥
StayClose p S T (e ∷ es) [] = ⊥

-- a turn of both has the same cause in both
abbrev pub IsSameTurn : Text → State → State → Turn → Turn → Type 0
IsSameTurn p S T t u = (t.cause ≡ u.cause) × StayClose p S T t.exchanges u.exchanges

abbrev pub DifferIn : Text → State → State → List Meeting → Type 0
DifferIn p S T [] = Unit {0}
DifferIn p S T (in_both k stops t u ∷ ms) = IsSameTurn p (first_left S ms) (second_left T ms) t u × DifferIn p S T ms
DifferIn p S T (in_first k stops t ∷ ms) = LeavesRest p t.exchanges × DifferIn p S T ms
DifferIn p S T (in_second k stops u ∷ ms) = LeavesRest p u.exchanges × DifferIn p S T ms

-- a service, spoken to in a dialect, has come to this world from a registry that a legal history left,
-- by these turns
pub record IsWorldOf (speaks : Dialect) {D : Type 0} (show : D → Shown) (M : D) (w : World D) (h : List Entry) (es : List LogEntry) : Type 0 where
  pub reached : Reached (spoken speaks (applied show)) M w
  pub log : w.log ≡ es
  pub left : registry_in (show M) ≡ after h
  pub clean : HasCleanDisk (show w.service)
  pub needs : NeedsForEach (asked_in (exchanges_of (turns_in es))) (stored (show M))

-- ---- what a stranger is sent

-- both were answered, with no fault
abbrev pub AreReplies : Outcome → Outcome → Type 0
AreReplies (Ok a) (Ok b) = Unit {0}
AreReplies o q = ⊥

-- In both worlds the request is of a caller who has no level on the package, or of nobody; it shows
-- the package in both or in neither, and not by the list of all packages; and it met no fault
abbrev pub IsUnseen : Text → State → State → Request → Outcome → Outcome → Type 0
IsUnseen p S T r o q = IsStranger S r.who p × IsStranger T r.who p × IsShownAlike S T r p × AreReplies o q

-- each request of a turn is like this, at what the earlier ones left
abbrev pub AreUnseen : Text → State → State → List Exchange → List Exchange → Type 0
AreUnseen p S T [] [] = Unit {0}
AreUnseen p S T (e ∷ es) (f ∷ fs) = IsUnseen p S T e.asked e.outcome f.outcome
    × AreUnseen p (next S e.asked e.outcome) (next T f.asked f.outcome) es fs
AreUnseen p S T [] (f ∷ fs) = ⊥
AreUnseen p S T (e ∷ es) [] = ⊥

-- a turn that asks something met no fault itself; one that asks nothing has one outcome
abbrev pub EndsAlike : List Exchange → Outcome → Outcome → Type 0
EndsAlike [] o q = o ≡ q
EndsAlike (e ∷ es) o q = AreReplies o q

abbrev pub IsUnseenTurn : Text → State → State → Turn → Turn → Type 0
IsUnseenTurn p S T t u = AreUnseen p S T t.exchanges u.exchanges × EndsAlike t.exchanges t.outcome u.outcome

-- each turn of this connection is like this, and none of them is taken in only one of the worlds
abbrev pub IsStrangers : ℕ → Text → State → State → List Meeting → Type 0
IsStrangers k p S T [] = Unit {0}
IsStrangers k p S T (in_both j stops t u ∷ ms) = ((k == j) ≡ true → IsUnseenTurn p (first_left S ms) (second_left T ms) t u) × IsStrangers k p S T ms
IsStrangers k p S T (in_first j stops t ∷ ms) = ((k == j) ≡ false) × IsStrangers k p S T ms
IsStrangers k p S T (in_second j stops u ∷ ms) = ((k == j) ≡ false) × IsStrangers k p S T ms

-- whatever else is asked on the other connections, this one is answered the same bytes in both
-- worlds
abbrev pub StrangersAreAnsweredTheSame : Dialect → {D : Type 0} → (D → Shown) → Type 0
StrangersAreAnsweredTheSame speaks {D = D} show = (M N : D) (w v : World D) (g h : List Entry) (p : Text) (ms : List Meeting) → DifferInPackage g h p
    → IsWorldOf speaks show M w g (first_log ms) → IsWorldOf speaks show N v h (second_log ms)
    → DifferIn p (after g) (after h) ms → (k : ℕ) → IsStrangers k p (after g) (after h) ms → (w.transcripts k).out ≡ (v.transcripts k).out
