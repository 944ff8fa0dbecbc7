use Rattle.std.proofs.Common.{◌≡◌, ◌+◌, take, min}
use Rattle.std.specs.Str.Parse.{digits_value}
use Rattle.registry_names.specs.Bodies.{body_limit}
use Rattle.registry_wire.proofs.field.number.Given as goal

abbrev pub invariant-loop-byte : goal.invariant-loop-byte
invariant-loop-byte l = l.n ≡ min (digits_value 10 (take l.byte-index l.digits)) (body_limit + 1)
