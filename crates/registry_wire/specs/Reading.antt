-- What a read of a request takes from an inbox.
use Rattle.std.specs.Prelude.{◌≡◌, ◌<◌, ◌≤◌, ◌⊎◌, ◌+◌, ℕ, Bool, false, List, [], ◌++◌, length, Option}
use Rattle.std.specs.Io.KnownBytes.{IsAtEnd}
use Rattle.registry_names.specs.ByteStreams.{Reads, raised_by}
use Rattle.registry_names.specs.declared.stop.Fault.TheVariants.{Memory}
use Rattle.registry_wire.specs.Inboxes.{held_limit, interruption_limit, piece_limit}
use Rattle.registry_wire.specs.Spelling.{EndsWith, HasRequest, IsBad, IsUnfinished}
use Rattle.registry_wire.specs.declared.first.Ending.TheVariants.{Closed, BadInput}
use Rattle.registry_wire.specs.declared.inbox.Taken.{Taken}
use Rattle.registry_wire.specs.declared.inbox.Taken.TheVariants as taken

-- What was taken once all these bytes were held, and what is held then: except for a whole request
-- nothing is lost.
abbrev pub TakenOf : List ℕ → List ℕ → Type 0 → Taken → Type 0
TakenOf all held AtEnd (taken.Whole w) = HasRequest all w held
TakenOf all held AtEnd taken.Closed = (held ≡ all) × EndsWith all Closed × AtEnd
TakenOf all held AtEnd (taken.Bad r) = (held ≡ all) × (IsBad all r ⊎ (EndsWith all (BadInput r) × AtEnd))
TakenOf all held AtEnd taken.ReadFault = (held ≡ all) × IsUnfinished all
TakenOf all held AtEnd (taken.Faulted fault) = (held ≡ all) × (fault ≡ Memory)

-- The connection ended with these bytes, as none is left and they hold no whole request.
abbrev pub IsEndOf : List ℕ → Taken → Type 0
IsEndOf all (taken.Whole w) = ⊥
IsEndOf all taken.Closed = EndsWith all Closed
IsEndOf all (taken.Bad r) = EndsWith all (BadInput r)
IsEndOf all taken.ReadFault = ⊥
IsEndOf all (taken.Faulted fault) = ⊥

-- Reads gave these bytes. Each read gave a piece of them, and was made where what was held did not
-- decide the request: it was neither whole nor refused yet.
pub data ReadsWhileUnfinished (held : List ℕ) : List ℕ → Type 0 where
  nothing : ReadsWhileUnfinished held []
  one_more : (got piece : List ℕ) → ReadsWhileUnfinished held got → IsUnfinished (held ++ got) → length piece ≤ piece_limit → ReadsWhileUnfinished held (got ++ piece)

-- The reader gave some bytes, no more than the request needed, and they are held after those that
-- were held before.
pub record Takes (held : List ℕ) (left : Option (List ℕ)) (held2 : List ℕ) (left2 : Option (List ℕ)) (unknown : Bool) (r : Taken) : Type 0 where
  pub got : List ℕ
  pub gave : Reads left left2 unknown got
  pub lean : ReadsWhileUnfinished held got
  pub bounded : length held2 < held_limit
  pub took : TakenOf (held ++ got) held2 (unknown ≡ false → IsAtEnd left2) r

-- Some reads failed: all of them were interrupted, and are counted. None of them brought the count
-- to the limit.
pub record CountsInterrupted (count count2 failures failures2 : ℕ) : Type 0 where
  pub failed : ℕ
  pub counted : count2 ≡ count + failed
  pub rose : failures2 ≡ raised_by failed failures
  pub few : 0 < failed → count2 < interruption_limit

-- ---- of a reader whose bytes are known

-- What was taken of all that was held or left, and all that is held or left then.
abbrev pub TakenOfAll : List ℕ → List ℕ → Taken → Type 0
TakenOfAll bytes rest (taken.Whole w) = HasRequest bytes w rest
TakenOfAll bytes rest taken.Closed = EndsWith bytes Closed
TakenOfAll bytes rest (taken.Bad r) = EndsWith bytes (BadInput r)
TakenOfAll bytes rest taken.ReadFault = rest ≡ bytes
TakenOfAll bytes rest (taken.Faulted fault) = rest ≡ bytes
