-- What is promised of a request, and of a run, as long as the disk returns what was written to it.
-- `old` and `new` are what the connection shows at the entry and at the exit.
--
-- | Clause    | Of  | Says                                                            | Needs     |
-- |-----------|-----|-----------------------------------------------------------------|-----------|
-- | answer    | a   | a reply is the machine's                                        | N         |
-- | ran       | r   | so is each, on what the earlier ones left                       | N         |
-- | served    | a r | a reply comes from an open registry, and leaves it open         |           |
-- | opened    | a r | it was open where it is open                                    |           |
-- | unchanged | a   | a fault, a refusal and a query change nothing that is stored    | open      |
-- | step      | a   | what is stored is changed as the outcome says                   | N, open   |
-- | stored    | r   | and as all outcomes say                                         | N, open   |
-- | moves     | a   | so is the registry's state                                      | N, open   |
-- | history   | a r | a legal history of what was held goes on                        | N, open   |
-- | hidden    | a r | who may not read a package is answered as if it weren't there,  | N         |
-- |           |     | and leaves the rest as if it weren't                            | N, open   |
-- | headline  | r   | the theorem, of a registry of which nothing was asked           | N, open   |
-- | grants    | a r | each grant is on a package of its organisation's scope          | open      |
-- | needs     | a r | the needs that are stored stay those of live versions           | N, open   |
-- | refers    | a r | references go on to hold                                        | N, open   |
-- | archives  | a r | the archives stay those of live versions                        | N, open   |
-- | form      | a r | each text that is held stays in form                            | N, open   |
-- | survives  | a   | what a crash leaves: tables in form, and of a query all as it was |         |
-- |           |     | and of a command what it makes                                  | N         |
-- | survives  | t   | the same, or what it makes of what earlier requests of the same | N         |
-- |           |     | commit made, where a fault of the disk ended that commit        |           |
-- | survives  | r   | what a crash leaves, by the outcomes; no reply is lost          | N         |
-- | survives  | ts  | the same; and where a fault ended a commit of several, what a   | N         |
-- |           |     | row of requests that met faults makes, without gaps             |           |
-- | durable   | a   | a crash leaves what is stored, and nothing else                 | open      |
-- | durable   | r   | it still does, where it did at the entry                        | open      |
-- | closes    | r   | only a fault of the disk shuts it                               |           |
--
-- Of: a is `Registry::apply`, and r is `Registry::run`. Of a request that is asked in turn, alone or
-- with others that share its commit, all rows of a hold (`Applied`), and of several such requests all
-- of r (`HasRun`), but for `survives`: t is such a request, and ts are several. Needs: each clause
-- supposes a clean disk at the exit (`HasCleanDisk`), and also
--   N     where a withdrawal is asked for, at the entry the needs that are stored are those of live
--         versions (`NeedsFor`, `NeedsForEach`): it is decided by them;
--   open  the registry is open at the exit: a fault of the disk may have shut it.
-- A new registry has N of every request (`HoldsSound`), and every request keeps that by `needs`.
-- That grants are in scope is read at an open, and is known of every registry (`Rests`).
use Rattle.std.specs.Prelude.{◌≡◌, ◌⊎◌, false, Bool, List, ◌∷◌, length, IfErr, IfOk, OnOk, Result, Ok, Err, IsTrue}
use Rattle.std.specs.List.{AllByRecursion}
use Rattle.sqlite_trees.specs.Tree.{Trees}
use Rattle.sqlite.specs.State.{State as Shown, HasCleanDisk, Survives}
use Rattle.sqlite.specs.declared.error.Error.{Error}
use Rattle.sqlite.specs.declared.error.Error.TheVariants.{SqliteFailure}
use Rattle.sqlite.specs.declared.error.ErrorCode.TheVariants.{Closed}
use Rattle.sqlite_disk.specs.Disk.{MoreFaults}
use Rattle.registry_names.specs.Texts.{Text}
use Rattle.registry_names.specs.declared.stop.Fault.{Fault}
use Rattle.registry_names.specs.declared.stop.Fault.TheVariants.{Database}
use Rattle.registry_rules.specs.Actions.{is_command}
use Rattle.registry_rules.specs.Kept.{IsKept, IsSound}
use Rattle.registry_rules.specs.State.{State, nothing}
use Rattle.registry_rules.specs.declared.request.Request.{Request}
use Rattle.registry_rows.specs.Faults.{as_fault}
use Rattle.registry_tables.specs.Contents.{Contents, contents, registry_of}
use Rattle.registry_tables.specs.Effects.{registry_in, stored}
use Rattle.registry_tables.specs.Archives.{HoldsArchives}
use Rattle.registry_tables.specs.Needs.{HoldsNeeds}
use Rattle.registry_tables.specs.Teams.{GrantsInScope}
use Rattle.registry_laws_history.specs.Headline.{Headline}
use Rattle.registry_laws_history.specs.History.{Entry, Legal, after}
use Rattle.registry_laws_history.specs.Says.{Says}
use Rattle.registry_laws_history.specs.Runs.{Outcome, IsAnswer, Ran, enters, grown, history, next}
use Rattle.registry_laws_hidden.specs.Concerns.{is_shown}
use Rattle.registry_laws_hidden.specs.Levels.{IsStranger}
use Rattle.registry_laws_hidden.specs.Without.{state_without}
use Rattle.registry_desk.specs.Found.{NeedsFor}
use Rattle.registry_desk.specs.Resting.{HasTables, HoldsAsWritten, IsRegistryOf, MadeAlone, MadeInRow, Serves, end_stored, left_by, next_stored, settled_by}

-- an open after a crash finds what is stored now, and nothing else
abbrev pub IsSure : Shown → Type 0
IsSure s = (db : Trees) → s.may_leave db → IsRegistryOf db (stored s)

-- this holds as long as the registry is open
abbrev pub StaysSure : Shown → Type 0
StaysSure s = HasCleanDisk s → IsTrue s.is_open → IsSure s

-- what an entry refers to is there, and what each organisation and each package needs
abbrev pub HoldsReferences : Contents → Type 0
HoldsReferences c = IsSound (registry_of c).access

-- ---- what decides requests

-- for each withdrawal among them, the needs that are stored are those of live versions
abbrev pub NeedsForEach : List Request → Contents → Type 0
NeedsForEach rs c = AllByRecursion (λ (r : Request). NeedsFor r.what c) rs

-- Each grant is on a package of its organisation's scope, and the needs that are stored are those of
-- live versions
pub record HoldsSound (s : Shown) : Type 0 where
  pub grants : GrantsInScope (stored s)
  pub needs : HoldsNeeds (stored s)

-- What a registry leaves of a request whose commit was begun. It was open, and its tables stay in
-- form, however the request was decided. A query leaves all that was stored. A command leaves what
-- it makes or, where it is refused, all that was stored, as long as what decides it holds
pub record LeavesOne (r : Request) (old : Shown) (db : Trees) : Type 0 where
  pub was_open : IsTrue old.is_open
  pub form : HasTables db
  pub query : is_command r.what ≡ false → contents db ≡ stored old
  pub settled : NeedsFor r.what (stored old) → contents db ≡ settled_by r (stored old)

-- ---- requests that share a commit

-- Some requests of one commit were asked, and then a fault of the disk ended that commit: the registry
-- is shut, and its transaction still shows what they made. So it is only in the middle of such
-- requests (`Together`): between requests a registry has no transaction
abbrev pub IsLost : Shown → Type 0
IsLost s = (s.is_open ≡ false) × IsTrue s.in_transaction

-- a crash may leave what further requests make
abbrev pub IsOpenOrLost : Shown → Type 0
IsOpenOrLost s = IsTrue s.is_open ⊎ IsLost s

-- What a registry leaves of one more request of that commit: what it makes of what the earlier ones
-- made, as long as what decides it holds
pub record LeavesLater (r : Request) (old : Shown) (db : Trees) : Type 0 where
  pub was_lost : IsLost old
  pub form : HasTables db
  pub settled : NeedsFor r.what (stored old) → contents db ≡ settled_by r (stored old)

-- What one more request of that commit finds, and what it makes
pub record LosesInTurn (r : Request) (old new : Shown) : Type 0 where
  pub was : IsOpenOrLost old
  pub made : NeedsFor r.what (stored old) → stored new ≡ settled_by r (stored old)
  pub needs : NeedsFor r.what (stored old) → HoldsNeeds (stored old) → HoldsNeeds (stored new)

-- ---- a package that a caller doesn't read

-- T agrees, in all but the package, with what the request makes of S without it
abbrev pub LeavesTheRest : State → Request → Outcome → Text → State → Type 0
LeavesTheRest S r o p T = state_without T p ≡ state_without (next (state_without S p) r o) p

-- Along a run from S, each request of a caller who has no level on the package at that point, or of
-- nobody, and that doesn't show it, is answered as on the registry without it, and leaves the rest
-- as it would there
abbrev pub HideAlong : State → Text → List Request → List Outcome → Type 0
HideAlong S p (r ∷ rs) (o ∷ os) =
    (IsStranger S r.who p → is_shown S r p ≡ false → IsAnswer (state_without S p) r o × LeavesTheRest S r o p (next S r o)) × HideAlong (next S r o) p rs os
HideAlong S p _ _ = Unit {0}

-- what an error says of whether a registry is open: only a shut one is closed
abbrev pub seen_by : Error → Result Bool Fault
seen_by (SqliteFailure Closed) = Ok false
seen_by e = Err (as_fault e)

module _ (old new : Shown) where
  -- it was open where it is open
  abbrev pub WasOpen : Type 0
  WasOpen = HasCleanDisk new → IsTrue new.is_open → IsTrue old.is_open

  -- ---- one request

  -- a reply is the machine's
  abbrev pub Answered : Request → Outcome → Type 0
  Answered r o = NeedsFor r.what (stored old) → HasCleanDisk new → IsAnswer (registry_in old) r o

  -- a reply comes only from an open registry, and leaves it open
  abbrev pub Served : Outcome → Type 0
  Served o = HasCleanDisk new → OnOk o (IsTrue old.is_open × IsTrue new.is_open)

  -- where no command was accepted, nothing that is stored is changed, whatever it is
  abbrev pub Unchanged : Request → Outcome → Type 0
  Unchanged r o = HasCleanDisk new → IsTrue new.is_open → enters r o ≡ false → stored new ≡ stored old

  -- what is stored is changed as the outcome says
  abbrev pub Stepped : Request → Outcome → Type 0
  Stepped r o = NeedsFor r.what (stored old) → HasCleanDisk new → IsTrue new.is_open → stored new ≡ next_stored r o (stored old)

  -- the registry's state goes on as the outcome says
  abbrev pub Moves : Request → Outcome → Type 0
  Moves r o = NeedsFor r.what (stored old) → HasCleanDisk new → IsTrue new.is_open → registry_in new ≡ next (registry_in old) r o

  -- a legal history of what is held goes on with the request where it was accepted
  abbrev pub GrowsHistory : Request → Outcome → Type 0
  GrowsHistory r o = NeedsFor r.what (stored old) → HasCleanDisk new → IsTrue new.is_open → (h : List Entry) → Legal h → registry_in old ≡ after h
      → Says (grown h (registry_in old) r o) (registry_in new)

  -- of what a legal history led to: a caller who has no level on a package, or nobody, is answered
  -- as on the registry without it, except by the replies that show it. What is held then agrees,
  -- in all but the package, with what the request makes of the registry without it
  abbrev pub HidesUnread : Request → Outcome → Type 0
  HidesUnread r o = NeedsFor r.what (stored old) → HasCleanDisk new → (h : List Entry) → Legal h → registry_in old ≡ after h
      → (p : Text) → IsStranger (after h) r.who p → is_shown (after h) r p ≡ false
      → IsAnswer (state_without (after h) p) r o × (IsTrue new.is_open → LeavesTheRest (after h) r o p (registry_in new))

  -- where this held of all that was stored, it still does
  abbrev pub Keeps : Request → (Contents → Type 0) → Type 0
  Keeps r P = NeedsFor r.what (stored old) → HasCleanDisk new → IsTrue new.is_open → P (stored old) → P (stored new)

  -- what the registry holds stays in form
  abbrev pub KeepsForm : Request → Type 0
  KeepsForm r = NeedsFor r.what (stored old) → HasCleanDisk new → IsTrue new.is_open → IsKept (registry_in old) → IsKept (registry_in new)

  -- a crash leaves what it could have left before, or what an open registry makes of the request
  abbrev pub SurvivesOne : Request → Type 0
  SurvivesOne r = Survives old new (LeavesOne r old)

  -- No fault is forgotten, and only one of the disk shuts the registry. Where it is shut, a crash leaves
  -- what it could have left before, or what the request makes: of what an open registry held, or of
  -- what the earlier requests of one commit made
  pub record SurvivesInTurn (r : Request) : Type 0 where
    pub closes : Survives old new (λ db. Unit {0})
    pub shut : HasCleanDisk new → new.is_open ≡ false → (db : Trees) → new.may_leave db → old.may_leave db ⊎ (LeavesOne r old db ⊎ LeavesLater r old db)
    pub lost : HasCleanDisk new → IsLost new → LosesInTurn r old new

  -- ---- a look at whether it is open

  -- it was open or shut before, as the look says, and is so after it
  abbrev pub LooksOpen : Result Bool Fault → Type 0
  LooksOpen look = HasCleanDisk new → IfOk look (λ seen. (old.is_open ≡ seen) × (new.is_open ≡ seen))

  -- nothing that is stored is changed
  abbrev pub KeepsStored : Type 0
  KeepsStored = HasCleanDisk new → IsTrue new.is_open → stored new ≡ stored old

  -- the fault of the tables comes only where the disk failed meanwhile
  abbrev pub StoppedByDisk : Result Bool Fault → Type 0
  StoppedByDisk look = HasCleanDisk new → IfErr look (λ fault. fault ≡ Database → MoreFaults old.faults new.faults)

  -- ---- a run

  -- each outcome is the machine's answer on what the earlier ones left, or a fault
  abbrev pub RanTo : List Request → List Outcome → Type 0
  RanTo rs os = NeedsForEach rs (stored old) → HasCleanDisk new → Ran (registry_in old) rs os new.is_open (registry_in new)

  -- what is stored is changed as the outcomes say
  abbrev pub Stored : List Request → List Outcome → Type 0
  Stored rs os = NeedsForEach rs (stored old) → HasCleanDisk new → IsTrue new.is_open → stored new ≡ end_stored rs os (stored old)

  -- of a registry of which nothing was asked yet
  abbrev pub HasHeadline : List Request → List Outcome → Type 0
  HasHeadline rs os = NeedsForEach rs (stored old) → HasCleanDisk new → IsTrue new.is_open → registry_in old ≡ nothing → Headline rs os (registry_in new)

  -- a legal history of what was held goes on with the requests that were accepted
  abbrev pub WritesHistory : List Request → List Outcome → Type 0
  WritesHistory rs os = NeedsForEach rs (stored old) → HasCleanDisk new → IsTrue new.is_open → (h : List Entry) → Legal h → registry_in old ≡ after h
      → Says (history h (registry_in old) rs os) (registry_in new)

  -- of what a legal history led to: so are all requests of the run, each on what the earlier ones
  -- left
  abbrev pub HidesUnreadRun : List Request → List Outcome → Type 0
  HidesUnreadRun rs os = NeedsForEach rs (stored old) → HasCleanDisk new → (h : List Entry) → Legal h → registry_in old ≡ after h
      → (p : Text) → HideAlong (after h) p rs os

  -- an open registry answers, until a fault shuts it, and a shut one answers only by faults
  abbrev pub ServedRun : List Outcome → Type 0
  ServedRun os = HasCleanDisk new → Serves old.is_open os new.is_open

  -- where this held of all that was stored, it still does
  abbrev pub KeepsRun : List Request → (Contents → Type 0) → Type 0
  KeepsRun rs P = NeedsForEach rs (stored old) → HasCleanDisk new → IsTrue new.is_open → P (stored old) → P (stored new)

  -- what the registry holds stays in form
  abbrev pub KeepsFormRun : List Request → Type 0
  KeepsFormRun rs = NeedsForEach rs (stored old) → HasCleanDisk new → IsTrue new.is_open → IsKept (registry_in old) → IsKept (registry_in new)

  -- after each reply a crash leaves what is stored then and nothing else, and after a fault what it
  -- could have left before, or what an open registry makes of the request
  abbrev pub SurvivesRun : List Request → List Outcome → Type 0
  SurvivesRun rs os = NeedsForEach rs (stored old) → HasCleanDisk new → (db : Trees) → new.may_leave db → left_by (MadeAlone (IsTrue old.is_open)) old.may_leave rs os (stored old) db

  -- The same where some of the requests may have shared a commit: after faults a crash leaves what it
  -- could have left before them, or what one of the requests that met them makes with the next ones in
  -- a row, one after another. Where a commit was lost before the first, these are the first in a row
  abbrev pub SurvivesTurns : List Request → List Outcome → Type 0
  SurvivesTurns rs os = NeedsForEach rs (stored old) → HasCleanDisk new → (db : Trees) → new.may_leave db
      → left_by (MadeInRow (IsTrue old.is_open)) (λ d. old.may_leave d ⊎ MadeInRow (IsLost old) rs (stored old) d) rs os (stored old) db

  -- where a crash left what was stored and nothing else, as long as it was open, it still does
  abbrev pub KeepsSure : Type 0
  KeepsSure = StaysSure old → StaysSure new

  -- only a fault of the disk shuts it, and no fault is forgotten
  abbrev pub ShutByFaults : Type 0
  ShutByFaults = Survives old new (λ db. Unit {0})

-- ---- all of this

-- All that is promised of a request that is asked in turn: alone by `apply`, which promises more of a
-- crash (`SurvivesOne`), or with others that share its commit
pub record Applied (old new : Shown) (r : Request) (o : Outcome) : Type 0 where
  pub answer : Answered old new r o
  pub served : Served old new o
  pub opened : WasOpen old new
  pub unchanged : Unchanged old new r o
  pub step : Stepped old new r o
  pub moves : Moves old new r o
  pub history : GrowsHistory old new r o
  pub hidden : HidesUnread old new r o
  pub written : HoldsAsWritten new
  pub needs : Keeps old new r HoldsNeeds
  pub refers : Keeps old new r HoldsReferences
  pub archives : Keeps old new r HoldsArchives
  pub form : KeepsForm old new r
  pub survives : SurvivesInTurn old new r
  pub durable : StaysSure new

-- All that is promised of requests that are asked in turn. `run` promises more of a crash
-- (`SurvivesRun`). Where what is stored was as requests write it before it, it is after it
pub record HasRun (old new : Shown) (rs : List Request) (os : List Outcome) : Type 0 where
  pub many : length os ≡ length rs
  pub headline : HasHeadline old new rs os
  pub history : WritesHistory old new rs os
  pub hidden : HidesUnreadRun old new rs os
  pub ran : RanTo old new rs os
  pub stored : Stored old new rs os
  pub served : ServedRun old new os
  pub opened : WasOpen old new
  pub written : HoldsAsWritten old → HoldsAsWritten new
  pub needs : KeepsRun old new rs HoldsNeeds
  pub refers : KeepsRun old new rs HoldsReferences
  pub archives : KeepsRun old new rs HoldsArchives
  pub form : KeepsFormRun old new rs
  pub survives : SurvivesTurns old new rs os
  pub durable : KeepsSure old new
  pub closes : ShutByFaults old new

-- what was asked comes to one run
pub record IsOneRun (old new : Shown) (Asked : List Request → List Outcome → Type 0) : Type 0 where
  pub requests : List Request
  pub outcomes : List Outcome
  pub asked : Asked requests outcomes
  pub run : HasRun old new requests outcomes
