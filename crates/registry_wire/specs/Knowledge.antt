-- What is known of bytes that hold no whole request.
use Rattle.std.specs.Prelude.{◌<◌, ◌≤◌, ℕ, List, ◌++◌, length, take, ⊤}
use Rattle.registry_wire.specs.Places.{IsAt}
use Rattle.registry_wire.specs.Spelling.{IsUnfinished, request_limit}
use Rattle.registry_wire.specs.declared.known.CutHead.{CutHead}
use Rattle.registry_wire.specs.declared.known.Known.{Known}
use Rattle.registry_wire.specs.declared.known.Known.TheVariants.{Nothing, Head, Body}

-- the bytes begin with this part of a head
pub record BeginWith (bytes : List ℕ) (head : CutHead) : Type 0 where
  pub len : head.len ≤ length bytes
  pub place : IsAt head.place (take head.len bytes)

-- while there are fewer bytes than this they are unfinished, whatever comes
pub record Need (bytes : List ℕ) (count : ℕ) : Type 0 where
  pub bounded : count ≤ request_limit
  pub unfinished : (more : List ℕ) → length (bytes ++ more) < count → IsUnfinished (bytes ++ more)

abbrev pub IsKnown : List ℕ → Known → Type 0
IsKnown bytes Nothing = ⊤
IsKnown bytes (Head head) = BeginWith bytes head
IsKnown bytes (Body count) = Need bytes count
