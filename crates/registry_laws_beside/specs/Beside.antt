-- Turns of connections and of commands beside them, as one run of a registry.
use Rattle.std.specs.Prelude.{◌≡◌, ◌⊎◌, ◌++◌, ◌∷◌, [], Bool, Err, List, Ok, unwrap_or}
use Rattle.sqlite.specs.State.{State as Shown}
use Rattle.registry_names.specs.declared.stop.Stop.{Stop}
use Rattle.registry_rules.specs.declared.request.Request.{Request}
use Rattle.registry_laws_history.specs.Runs.{Outcome}
use Rattle.registry_desk.specs.Promises.{IsOneRun}
use Rattle.registry_service.specs.Histories.{FollowAll, LogEntry}
use Rattle.registry_service.specs.Turns.{Answering, Dialect, Exchange, IsTurn, Turn, asked_in, exchange, outcomes_in, spoken, stopped}
use Rattle.registry_http.specs.Services.{applied, turns_in}
use Rattle.registry_cli.specs.Asked.{reads_line}
use Rattle.registry_cli.specs.Lines.{line_of}
use Rattle.registry_guests.specs.Beside.{Beside, GuestTurn, GuestsLead, beside, beside_guests}
use Rattle.registry_guests.specs.GuestTurns.{IsCommand, IsGuestTurn, IsUnasked}
use Rattle.registry_guests.specs.Outputs.{printed_of, prints}

-- a turn of a connection, or of a command
pub data AnyTurn : Type 0 where
  of_connection : Turn → AnyTurn
  of_guest : GuestTurn → AnyTurn

-- the turns of connections among them
abbrev pub of_connections : List AnyTurn → List Turn
of_connections [] = []
of_connections (of_connection t ∷ ts) = t ∷ of_connections ts
of_connections (of_guest t ∷ ts) = of_connections ts

-- those of commands
abbrev pub of_guests : List AnyTurn → List GuestTurn
of_guests [] = []
of_guests (of_connection t ∷ ts) = of_guests ts
of_guests (of_guest t ∷ ts) = t ∷ of_guests ts

module _ (speaks : Dialect) {D : Type 0} (answers : Answering D) where
  abbrev pub TakesTurn : D → AnyTurn → D → Type 0
  TakesTurn M (of_connection t) N = (last : Bool) × IsTurn (spoken speaks answers) M last t N
  TakesTurn M (of_guest t) N = IsGuestTurn answers M t.arguments t.body t.at (prints t.output) N

  -- turns, the newest first, each taken at what all older ones left
  abbrev pub TakeTurns : D → List AnyTurn → D → Type 0
  TakeTurns M [] N = N ≡ M
  TakeTurns M (t ∷ ts) N = (K : D) × TakeTurns M ts K × TakesTurn K t N

-- ---- the requests of turns

-- A command asks for this request, and its outcome is printed. The command's words are a command
-- line, read from left to right; the moment is that of the line, or else that of the turn.
pub record CommandAsks (t : GuestTurn) (r : Request) (o : Outcome) : Type 0 where
  pub command : IsCommand t.arguments
  pub reads : reads_line (line_of t.arguments) t.body (Ok (r.who, r.what))
  pub moment : r.at ≡ unwrap_or (line_of t.arguments).at t.at
  pub printed : prints t.output ≡ printed_of o

-- its words ask for an action that isn't in form, or for no action
abbrev pub CommandAsksNothing : GuestTurn → Type 0
CommandAsksNothing t =
    (IsCommand t.arguments × (stop : Stop) × reads_line (line_of t.arguments) t.body (Err stop) × (prints t.output ≡ printed_of (stopped stop)))
    ⊎ IsUnasked t.arguments (prints t.output)

-- what a command asks: one request, or nothing
abbrev pub CommandAsksAll : GuestTurn → List Exchange → Type 0
CommandAsksAll t es = ((r : Request) × (o : Outcome) × CommandAsks t r o × (es ≡ exchange r o ∷ []))
    ⊎ (CommandAsksNothing t × (es ≡ []))

-- this was asked in a turn, one request after the other, and came to these outcomes
abbrev pub AsksFor : AnyTurn → List Exchange → Type 0
AsksFor (of_connection t) es = es ≡ t.exchanges
AsksFor (of_guest t) es = CommandAsksAll t es

-- these are the requests that were asked in the turns, and their outcomes, in their order
abbrev pub AskAll : List AnyTurn → List Request → List Outcome → Type 0
AskAll [] rs os = (rs ≡ []) × (os ≡ [])
AskAll (t ∷ ts) rs os = (qs : List Request) × (ps : List Outcome) × (es : List Exchange) × AskAll ts qs ps × AsksFor t es × (rs ≡ qs ++ asked_in es) × (os ≡ ps ++ outcomes_in es)

module _ (speaks : Dialect) {D : Type 0} (show : D → Shown) where
  -- all turns are one run of the registry, of which everything holds that is said of requests in turn
  abbrev pub TurnsRunBeside : Type 0
  TurnsRunBeside = (M N : D) (ts : List AnyTurn) → TakeTurns speaks (applied show) M ts N → IsOneRun (show M) (show N) (AskAll ts)

  -- The turns of connections beside commands, and of commands after them, are one run. It has all
  -- turns of the connections in their order, and all turns of the commands in theirs
  abbrev pub LogRunsBeside : Type 0
  LogRunsBeside = (M : D) (K N : Beside D) (log : List LogEntry) → FollowAll (beside_guests speaks (applied show)) (beside M []) log K → GuestsLead (applied show) K N
      → (ts : List AnyTurn) × (of_connections ts ≡ turns_in log) × (of_guests ts ≡ N.turns) × TakeTurns speaks (applied show) M ts N.service × IsOneRun (show M) (show N.service) (AskAll ts)
