-- Requests that are answered together: in one transaction, which is committed once.
use Rattle.std.specs.Prelude.{◌≡◌, ◌⊎◌, true, false, List, [], ◌∷◌, length, Ok, Err, IsTrue}
use Rattle.sqlite.specs.Held.{Held, state}
use Rattle.sqlite.specs.State.{State as Shown, HasCleanDisk, Survives}
use Rattle.sqlite_trees.specs.Tree.{Trees}
use Rattle.sqlite_trees.specs.declared.store.Store.{Ghosts}
use Rattle.registry_names.specs.declared.stop.Fault.{Fault}
use Rattle.registry_rows.specs.Ready.{IsReady}
use Rattle.registry_rules.specs.Requests.{IsInForm}
use Rattle.registry_rules.specs.declared.reply.Reply.{Reply}
use Rattle.registry_rules.specs.declared.request.Request.{Request}
use Rattle.registry_tables.specs.Contents.{Contents, contents}
use Rattle.registry_tables.specs.Effects.{stored}
use Rattle.registry_tables.specs.Schema.{schema}
use Rattle.registry_laws_history.specs.Runs.{Outcome, enters}
use Rattle.registry_desk.specs.Found.{NeedsFor}
use Rattle.registry_desk.specs.Lives.{AskedInTurn, IsOpenedAgain}
use Rattle.registry_desk.specs.Promises.{Answered, IsSure, NeedsForEach}
use Rattle.registry_desk.specs.Resting.{HasTables, IsAsWritten, end_stored, settled_by}

-- ---- where a request is asked

-- How a connection counts in the middle of such requests: as it is; as if what its transaction shows
-- were committed here; or as if the commit was begun here that a fault of the disk ended, which left
-- this connection
pub data Counts (S : Type 0) : Type 0 where
  as_shown : Counts S
  as_committed : Counts S
  as_lost : Held S → Counts S

pub record Point (S : Type 0) : Type 0 where
  pub conn : Held S
  pub counts : Counts S

-- a crash leaves what is committed, and nothing else
abbrev pub committed_here : Shown → Shown
committed_here s = record s { committed = s.now; in_transaction = false; marks = []; may_leave = λ db. db ≡ s.now.trees }

-- The connection is shut, after the faults that ended the commit, and a crash leaves what it could have
-- left before, or all that was made
abbrev pub lost_here : Shown → Shown → Shown
lost_here end s = record s { in_transaction = true; is_open = false; is_clean = end.is_clean; faults = end.faults; may_leave = λ db. s.may_leave db ⊎ (db ≡ s.now.trees) }

abbrev pub counted : {S : Type 0} → Ghosts S → Counts S → Shown → Shown
counted store as_shown s = s
counted store as_committed s = committed_here s
counted store (as_lost end) s = lost_here (state store end) s

abbrev pub shown_at : {S : Type 0} → Ghosts S → Point S → Shown
shown_at store p = counted store p.counts (state store p.conn)

-- a registry between requests
abbrev pub at_rest : {S : Type 0} → Held S → Point S
at_rest conn = record { conn = conn; counts = as_shown }

-- ---- what comes of all of them

-- all were answered
abbrev pub AreReplies : List Outcome → Type 0
AreReplies [] = Unit {0}
AreReplies (Ok reply ∷ os) = AreReplies os
AreReplies (Err fault ∷ os) = ⊥

-- all met this fault
abbrev pub MeetFault : Fault → List Outcome → Type 0
MeetFault fault [] = Unit {0}
MeetFault fault (o ∷ os) = (o ≡ Err fault) × MeetFault fault os

-- what they make, one after another
abbrev pub all_settled : List Request → Contents → Contents
all_settled [] c = c
all_settled (r ∷ rs) c = all_settled rs (settled_by r c)

-- what an open registry leaves of requests whose commit was begun: what all of them make
pub record LeavesTogether (rs : List Request) (old : Shown) (db : Trees) : Type 0 where
  pub was_open : IsTrue old.is_open
  pub form : HasTables db
  pub settled : NeedsForEach rs (stored old) → contents db ≡ all_settled rs (stored old)

-- ---- what their transaction makes

-- One of the requests was answered in the transaction: what it found there was open, and in form; it
-- was answered by what it found, and changed that alone
pub record IsAnsweredInside (r : Request) (reply : Reply) (old new : Shown) : Type 0 where
  pub form : IsInForm r
  pub survives : Survives old new (λ db. ⊥)
  pub finds : HasCleanDisk new → IsTrue old.is_open × IsReady schema old
  pub answer : Answered old new r (Ok reply)
  pub leaves : HasCleanDisk new → IsReady schema new × IsAsWritten (stored new)
  pub settled : NeedsFor r.what (stored old) → HasCleanDisk new → stored new ≡ settled_by r (stored old)
  pub unchanged : HasCleanDisk new → enters r (Ok reply) ≡ false → stored new ≡ stored old

module _ {S : Type 0} (store : Ghosts S) where
  -- so were they all, one after another
  abbrev pub AreAnsweredInside : List Request → List Outcome → Held S → Held S → Type 0
  AreAnsweredInside [] [] first last = last ≡ first
  AreAnsweredInside (r ∷ rs) (Ok reply ∷ os) first last =
      (next : Held S) × IsAnsweredInside r reply (state store first) (state store next) × AreAnsweredInside rs os next last
  AreAnsweredInside _ _ first last = ⊥

-- ---- all of this

-- All that is promised of commands that are answered together. All are answered, or all meet one
-- fault. Each is answered as if it was asked alone, in its turn, and committed then. Where the disk fails
-- and shuts the registry, a crash leaves what it could have left before, or what all of them make
pub record AnsweredTogether {S : Type 0} (store : Ghosts S) (old new : Held S) (rs : List Request) (os : List Outcome) : Type 0 where
  pub one : AreReplies os ⊎ ((fault : Fault) × MeetFault fault os)
  pub in_turn : AskedInTurn (shown_at store) rs os (at_rest old) (at_rest new)
  pub survives : Survives (state store old) (state store new) (LeavesTogether rs (state store old))

-- the same where all of them meet this fault
abbrev pub FailTogether : {S : Type 0} → Ghosts S → Held S → Held S → List Request → Fault → Type 0
FailTogether store old new rs fault = (os : List Outcome) → length os ≡ length rs → MeetFault fault os → AnsweredTogether store old new rs os

-- ---- what a stop leaves of them

-- The files may be opened by another run of the program, over another store
module _ {S T : Type 0} (store : Ghosts S) (store_next : Ghosts T) where
  -- Commands are answered together by a registry of which a crash leaves what it holds and nothing else.
  -- Wherever they are stopped, the registry that is opened from what a crash leaves holds what was held
  -- before all of them, or what all of them make. So none is done without the others
  abbrev pub GroupsLeaveAllOrNothing : Type 0
  GroupsLeaveAllOrNothing = (first last : Held S) (next : Held T) (rs : List Request) (os : List Outcome) → NeedsForEach rs (stored (state store first)) → IsSure (state store first)
      → AnsweredTogether store first last rs os → IsOpenedAgain (state store last) (state store_next next) → HasCleanDisk (state store_next next)
      → (stored (state store_next next) ≡ stored (state store first)) ⊎ (stored (state store_next next) ≡ all_settled rs (stored (state store first)))

  -- where they leave the registry open, it holds what the outcomes say: after replies what all of them
  -- make, and after a fault of all of them what was held before
  abbrev pub GroupsKeepOutcomes : Type 0
  GroupsKeepOutcomes = (first last : Held S) (next : Held T) (rs : List Request) (os : List Outcome) → NeedsForEach rs (stored (state store first)) → IsSure (state store first)
      → AnsweredTogether store first last rs os → IsTrue (state store last).is_open → IsOpenedAgain (state store last) (state store_next next) → HasCleanDisk (state store_next next)
      → stored (state store_next next) ≡ end_stored rs os (stored (state store first))
