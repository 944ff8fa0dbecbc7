use Rattle.std.proofs.Common.{◌≡◌, ◌++◌, length, take}
use Rattle.std.specs.Int.{w32, to_be_bytes}
use Rattle.std.specs.List.{flat_map}
use Rattle.registry_guests.specs.Spelling.{word}
use Rattle.registry_guests.proofs.writing.write.Given as goal

abbrev pub invariant-loop-text : goal.invariant-loop-text
invariant-loop-text l = l.out.items ≡ to_be_bytes w32 (length l.words) ++ flat_map word (take l.text-index l.words)
