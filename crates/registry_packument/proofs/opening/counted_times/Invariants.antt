use Rattle.std.proofs.Common.{◌≡◌, ◌+◌, false, drop, length}
use Rattle.registry_packument.specs.Packuments.{times_text}
use Rattle.registry_packument.proofs.opening.counted_times.Given as goal

-- the whole is what is counted, and then the moments that are left
abbrev pub invariant-loop-time : goal.invariant-loop-time
invariant-loop-time l =
    l.sum + length (times_text l.head l.later (drop l.time-index l.times)) ≡ l.count + length (times_text l.head false l.times)
