-- What a request makes inside a transaction. `old` and `new` are the transaction at the entry and at
-- the exit of a call, c and d what is stored there, and `was` and `is_now` what is kept.
use Rattle.std.specs.Prelude.{◌≡◌, false, List, Option, Result, Ok, IfOk, OnOk}
use Rattle.sqlite.specs.declared.transaction.Transaction.{Transaction}
use Rattle.sqlite_trees.specs.declared.store.Store.{Ghosts}
use Rattle.registry_access.specs.declared.caller.Caller.{Caller}
use Rattle.registry_rules.specs.Changes.{Change}
use Rattle.registry_rules.specs.Facts.{FactsTell}
use Rattle.registry_rules.specs.State.{State}
use Rattle.registry_rules.specs.declared.facts.Facts.{Facts}
use Rattle.registry_rules.specs.declared.reply.Reply.{Reply}
use Rattle.registry_rules.specs.declared.request.Action.{Action}
use Rattle.registry_rules.specs.declared.request.Request.{Request}
use Rattle.registry_tables.specs.Archives.{HeldAreStored}
use Rattle.registry_tables.specs.Changes.{all_stored}
use Rattle.registry_tables.specs.Contents.{Contents, registry_of}
use Rattle.registry_tables.specs.Inside.{Holds, IsClean, IsOpen, Since}
use Rattle.registry_tables.specs.Ranges.{HasNumbersInRange}
use Rattle.registry_tables.specs.Teams.{AreTeamsSound}
use Rattle.registry_laws_history.specs.Answers.{answer, reply_to}
use Rattle.registry_laws_history.specs.Runs.{enters}
use Rattle.registry_desk.specs.Caches.{AreAnswers, IsSoundFor, LeavesCacheRight}
use Rattle.registry_desk.specs.Found.{NeedsFor}
use Rattle.registry_desk.specs.Resting.{IsAsWritten, settled_by}
use Rattle.registry_desk.specs.declared.cache.Caches.{Caches}

-- ---- what a call makes

-- the transaction goes on, and of what is stored now this is so, as long as the disk is clean
pub record IsLeft {S : Type 0} (store : Ghosts S) (tx : Transaction S) (is_so : Contents → Type 0) : Type 0 where
  pub left : Contents
  pub holds : Holds store tx left
  pub is : IsClean store tx → is_so left

-- An answer says what was made of what was stored. Nothing is committed, even by an error
pub record Does {S R E : Type 0} (store : Ghosts S) (old new : Transaction S) (result : Result R E) (is_done : R → Contents → Contents → Type 0) : Type 0 where
  pub since : (start : Transaction S) (c : Contents) → Holds store old c → Since store start old → Since store start new
  pub clean : IsClean store new → IsClean store old
  pub ran : IsOpen store old → OnOk result (IsOpen store new)
  pub done : (c : Contents) → Holds store old c → IfOk result (λ x. IsLeft store new (is_done x c))

-- ---- what is made

-- these changes, which leave numbers in range where they were
pub record AreMade (cs : List Change) (c d : Contents) : Type 0 where
  pub made : d ≡ all_stored cs c
  pub in_range : HasNumbersInRange c → HasNumbersInRange d

-- these changes, and the reply to the caller's action, which nothing refuses
pub record IsReplied (who : Option Caller) (what : Action) (cs : List Change) (was : Caches) (given : Reply) (c d : Contents) : Type 0 where
  pub answer : IsSoundFor what c was → given ≡ reply_to (registry_of c) who what
  pub made : AreMade cs c d

-- the request is decided by these facts. What is kept stays right where an archive that a version has is
-- stored, as it is in tables in form
pub record IsDecided (facts : Facts) (r : Request) (was is_now : Caches) (given : Reply) (c d : Contents) : Type 0 where
  pub answer : FactsTell facts (registry_of c) r → IsSoundFor r.what c was → given ≡ answer (registry_of c) r
  pub settled : FactsTell facts (registry_of c) r → d ≡ settled_by r c
  pub written : (T : State) → FactsTell facts T r → IsAsWritten c → IsAsWritten d
  pub unchanged : enters r (Ok given) ≡ false → d ≡ c
  pub right : HeldAreStored c → LeavesCacheRight c d r.what was is_now given

-- The request is answered by what was stored, where the teams, the needs for it and what is kept are
-- sound, and makes what the machine makes of it, where the teams and the needs are. Where the teams
-- are sound and numbers in range, it leaves what requests write. Always, a reply that enters no
-- command changes nothing, and what is kept stays right
pub record IsAnswered (r : Request) (was is_now : Caches) (given : Reply) (c d : Contents) : Type 0 where
  pub answer : AreTeamsSound c → NeedsFor r.what c → AreAnswers c was → given ≡ answer (registry_of c) r
  pub settled : AreTeamsSound c → NeedsFor r.what c → d ≡ settled_by r c
  pub written : AreTeamsSound c → HasNumbersInRange c → IsAsWritten d
  pub unchanged : enters r (Ok given) ≡ false → d ≡ c
  pub right : LeavesCacheRight c d r.what was is_now given
