use Rattle.std.proofs.Common.{◌≡◌, ◌++◌, false, drop, string_bytes}
use Rattle.registry_packument.specs.Packuments.{times_text}
use Rattle.registry_packument.proofs.opening.push_times.Given as goal

-- the whole is what is written, and then the moments that are left
abbrev pub invariant-loop-time : goal.invariant-loop-time
invariant-loop-time l =
    string_bytes l.out ++ times_text l.head l.later (drop l.time-index l.times) ≡ string_bytes l.fn.out ++ times_text l.head false l.times
