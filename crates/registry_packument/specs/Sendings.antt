-- Packuments that are sent: what opens them, how much of them was written, and which writes failed.
use Rattle.std.specs.Prelude.{◌<◌, ◌++◌, ℕ, Bool, List, Option, length, take}
use Rattle.registry_names.specs.ByteStreams.{Writes, raised}
use Rattle.registry_names.specs.Texts.{Text}
use Rattle.registry_packument.specs.declared.opener.Sent.{Sent}
use Rattle.registry_packument.specs.declared.opener.Sent.TheVariants.{Refused, Whole, WriteFault, Broken}

-- a text, and before it what opens a text of its length
abbrev pub opened : (ℕ → List ℕ) → Text → List ℕ
opened opens text = opens (length text) ++ text

-- It took a prefix of the text: a byte at least, and not all of it.
pub record WritesSome (old new : Option (List ℕ)) (unknown : Bool) (text : List ℕ) : Type 0 where
  pub count : ℕ
  pub some : 0 < count
  pub is_within : count < length text
  pub wrote : Writes old new unknown (take count text)

-- the stream's count of failures: a failed write raises it, and nothing else does
abbrev pub failures_after : Sent → ℕ → ℕ
failures_after (Refused refusal) n = n
failures_after Whole n = n
failures_after WriteFault n = raised n
failures_after (Broken fault has_started) n = n
