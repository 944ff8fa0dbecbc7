-- What one more read gives an inbox.
use Rattle.std.specs.Prelude.{◌≡◌, ◌<◌, ◌≤◌, ◌+◌, ◌⊎◌, ℕ, Bool, List, ◌++◌, Option, length}
use Rattle.registry_names.specs.ByteStreams.{Reads, raised}
use Rattle.registry_wire.specs.Inboxes.{Unread, interruption_limit, piece_limit}
use Rattle.registry_wire.specs.Reading.{ReadsWhileUnfinished}
use Rattle.registry_wire.specs.declared.inbox.Piece.{Piece}
use Rattle.registry_wire.specs.declared.inbox.Piece.TheVariants.{More, End, Broken, Memory}

-- the reader gave a piece, and it is held after the other bytes
pub record Moves (held : List ℕ) (left : Option (List ℕ)) (held2 : List ℕ) (left2 : Option (List ℕ)) (unknown : Bool) : Type 0 where
  pub piece : List ℕ
  pub few : length piece ≤ piece_limit
  pub gave : Reads left left2 unknown piece
  pub holds : held2 ≡ held ++ piece

-- reads in a row gave some bytes, no more than the request needed, and they are held after the
-- others
pub record Gathers (held : List ℕ) (left : Option (List ℕ)) (held2 : List ℕ) (left2 : Option (List ℕ)) (unknown : Bool) : Type 0 where
  pub got : List ℕ
  pub gave : Reads left left2 unknown got
  pub lean : ReadsWhileUnfinished held got
  pub holds : held2 ≡ held ++ got

-- nothing more is held, and nothing was interrupted
pub record Rests {R : Type 0} (old new : Unread R) : Type 0 where
  pub held : new.held ≡ old.held
  pub interruptions : new.interruptions ≡ old.interruptions

-- more is held
pub record Grows {R : Type 0} (old new : Unread R) (failures failures2 : ℕ) : Type 0 where
  pub held : length old.held < length new.held
  pub interruptions : new.interruptions ≡ old.interruptions
  pub counted : failures2 ≡ failures

-- the read was interrupted, and another may follow
pub record WasInterrupted {R : Type 0} (old new : Unread R) (failures failures2 : ℕ) : Type 0 where
  pub held : new.held ≡ old.held
  pub interruptions : new.interruptions ≡ old.interruptions + 1
  pub few : new.interruptions < interruption_limit
  pub counted : failures2 ≡ raised failures

-- more is held, or nothing more since the read was interrupted
abbrev pub GoesOn : {R : Type 0} → Unread R → Unread R → ℕ → ℕ → Type 0
GoesOn old new failures failures2 = Grows old new failures failures2 ⊎ WasInterrupted old new failures failures2

abbrev pub Gives : {R : Type 0} → Piece → Unread R → Unread R → ℕ → ℕ → Type 0 → Type 0
Gives More old new failures failures2 AtEnd = GoesOn old new failures failures2
Gives End old new failures failures2 AtEnd = Rests old new × (failures2 ≡ failures) × AtEnd
Gives Broken old new failures failures2 AtEnd = (new.held ≡ old.held) × (failures2 ≡ raised failures)
Gives Memory old new failures failures2 AtEnd = Rests old new × (failures2 ≡ failures)
