-- A registry as the service that connections ask, and the run that turns come to.
use Rattle.std.specs.Prelude.{◌≡◌, ◌⊎◌, ◌++◌, ◌∷◌, [], Bool, false, true, IfErr, List, map, Option, Some, None, Ok, Err, refl}
use Rattle.std.specs.List.{AllByRecursion}
use Rattle.std.specs.Coded.{Coded, code_by, coded×, coded_bool, coded_option}
use Rattle.sqlite.specs.Held.{Held, held_code, state}
use Rattle.sqlite.specs.State.{State as Shown, HasCleanDisk}
use Rattle.sqlite_trees.specs.declared.store.Store.{Ghosts}
use Rattle.sqlite_disk.specs.Disk.{MoreFaults}
use Rattle.registry_names.specs.declared.stop.Fault.{Fault}
use Rattle.registry_names.specs.declared.stop.Fault.TheVariants.{Database}
use Rattle.registry_packument.specs.declared.opener.Sent.{Sent}
use Rattle.registry_packument.specs.declared.opener.Sent.TheVariants.{Broken}
use Rattle.registry_rules.specs.declared.request.Request.{Request}
use Rattle.registry_laws_history.specs.Runs.{Outcome}
use Rattle.registry_desk.specs.Promises.{Applied, IsOneRun}
use Rattle.registry_desk.specs.Together.{AreReplies, Counts, MeetFault, as_committed, as_lost, as_shown, shown_at}
use Rattle.registry_service.specs.Courses.{Follow}
use Rattle.registry_service.specs.Histories.{LogEntry, FollowAll}
use Rattle.registry_service.specs.Turns.{Answering, Dialect, Exchange, Turn, asked_in, outcomes_in, spoken}

-- ---- a registry that is served

-- The connection of a registry, whether the service is over, and how the connection counts. Between
-- requests it counts as what it shows; in the middle of requests that share a commit, as each of them
-- is promised to find it and to leave it
pub record Serving (S : Type 0) : Type 0 where
  pub registry : Held S
  pub is_over : Bool
  pub counts : Counts S

-- so it is between requests
abbrev pub serving : {S : Type 0} → Held S → Bool → Serving S
serving conn is_over = record { registry = conn; is_over = is_over; counts = as_shown }

-- what the registry of a service shows
abbrev pub shown : {S : Type 0} → Ghosts S → Serving S → Shown
shown store s = shown_at store (record { conn = s.registry; counts = s.counts })

-- ---- the code of such a value

module _ {S : Type 0} where
  abbrev pub in_options : Counts S → Option (Option (Held S))
  in_options as_shown = None
  in_options as_committed = Some None
  in_options (as_lost end) = Some (Some end)

  abbrev pub from_options : Option (Option (Held S)) → Counts S
  from_options None = as_shown
  from_options (Some None) = as_committed
  from_options (Some (Some end)) = as_lost end

  pub from_in_options : (c : Counts S) → from_options (in_options c) ≡ c
  from_in_options as_shown = refl
  from_in_options as_committed = refl
  from_in_options (as_lost end) = refl

  abbrev pub counts_code : Coded S → Coded (Counts S)
  counts_code store = code_by (Option (Option (Held S))) (coded_option (coded_option (held_code store))) in_options from_options from_in_options

  abbrev pub serving_code : Coded S → Coded (Serving S)
  serving_code store = code_by (Held S × (Bool × Counts S)) (coded× (held_code store) (coded× coded_bool (counts_code store))) (λ s. (s.registry, (s.is_over, s.counts)))
      (λ p. record { registry = p.0; is_over = p.1.0; counts = p.1.1 }) (λ _. refl)

-- ---- how it ends

-- the fault of the tables ends the service, where it was met in a registry that the disk has shut
abbrev pub EndsShut : Shown → Bool → Fault → Type 0
EndsShut new is_over fault = HasCleanDisk new → fault ≡ Database → new.is_open ≡ false → is_over ≡ true

-- Only that fault does, where the registry is shut, or the disk failed in this turn
abbrev pub EndsBy : Shown → Shown → Bool → Bool → Fault → Type 0
EndsBy old new was_over is_over fault = is_over ≡ true → (was_over ≡ true) ⊎ ((fault ≡ Database) × (HasCleanDisk new → (new.is_open ≡ false) ⊎ MoreFaults old.faults new.faults))

module _ {S : Type 0} (store : Ghosts S) where
  -- the service is over once its registry was seen to be shut
  abbrev pub EndsIfShut : Serving S → Outcome → Type 0
  EndsIfShut new o = IfErr o (EndsShut (shown store new) new.is_over)

  -- neither a reply nor a lack of memory ends it
  abbrev pub EndsByFault : Serving S → Serving S → Outcome → Type 0
  EndsByFault old new (Ok reply) = new.is_over ≡ old.is_over
  EndsByFault old new (Err fault) = EndsBy (shown store old) (shown store new) old.is_over new.is_over fault

  -- the same of commands that are answered together, whatever came of each
  abbrev pub EachEndsIfShut : Serving S → List Outcome → Type 0
  EachEndsIfShut new os = AllByRecursion (EndsIfShut new) os

  abbrev pub EachEndsByFault : Serving S → Serving S → List Outcome → Type 0
  EachEndsByFault old new os = AllByRecursion (EndsByFault old new) os

  -- the same of a packument that is sent
  abbrev pub SendsIfShut : Serving S → Sent → Type 0
  SendsIfShut new (Broken fault has_started) = EndsShut (shown store new) new.is_over fault
  SendsIfShut new _ = Unit {0}

  abbrev pub SendsByFault : Serving S → Serving S → Sent → Type 0
  SendsByFault old new (Broken fault has_started) = EndsBy (shown store old) (shown store new) old.is_over new.is_over fault
  SendsByFault old new _ = new.is_over ≡ old.is_over

-- commands that were answered together: all were answered, or all met one fault
abbrev pub EndTogether : List Outcome → Type 0
EndTogether os = AreReplies os ⊎ ((fault : Fault) × MeetFault fault os)

-- Commands that were answered together failed where one of them, and so the first, met the fault of the
-- tables
abbrev pub failed : List Outcome → Bool
failed (Err Database ∷ os) = true
failed _ = false

-- ---- the requests of turns

-- all that was asked in turns, in its order; lists of turns have the newest first
abbrev pub exchanges_of : List Turn → List Exchange
exchanges_of [] = []
exchanges_of (t ∷ ts) = exchanges_of ts ++ t.exchanges

-- these are all requests that were asked in the turns, and their outcomes, in their order
abbrev pub AskAll : List Turn → List Request → List Outcome → Type 0
AskAll ts rs os = (rs ≡ asked_in (exchanges_of ts)) × (os ≡ outcomes_in (exchanges_of ts))

-- the turns of a list of them, with the connections that they were taken on
abbrev pub turns_in : List LogEntry → List Turn
turns_in log = map (λ (e : LogEntry). e.turn) log

module _ {D : Type 0} (show : D → Shown) where
  -- what a service answers, where it shows a registry
  abbrev pub applied : Answering D
  applied M r o N = Applied (show M) (show N) r o

module _ (speaks : Dialect) {D : Type 0} (show : D → Shown) where
  -- the turns of one connection are one run of the registry, of which everything holds that is said of
  -- requests in turn
  abbrev pub TurnsRun : Type 0
  TurnsRun = (M N : D) (ts : List Turn) → Follow (spoken speaks (applied show)) M ts N → IsOneRun (show M) (show N) (AskAll ts)

  -- of all connections
  abbrev pub LogRuns : Type 0
  LogRuns = (M N : D) (log : List LogEntry) → FollowAll (spoken speaks (applied show)) M log N → IsOneRun (show M) (show N) (AskAll (turns_in log))
