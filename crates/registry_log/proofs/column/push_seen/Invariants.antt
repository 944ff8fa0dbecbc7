use Rattle.std.proofs.Common.{◌≡◌, ◌++◌, map, take}
use Rattle.registry_log.specs.Lines.{seen_byte}
use Rattle.registry_log.proofs.column.push_seen.Given as goal

-- the bytes so far are behind what was there
abbrev pub invariant-loop-byte : goal.invariant-loop-byte
invariant-loop-byte l = l.line.items ≡ l.fn.line.items ++ map seen_byte (take l.byte-index l.text)
