use Rattle.std.proofs.Common.{arith}
use Rattle.std.proofs.lemmas.Grind.{common_steps}
use Rattle.std.proofs.lemmas.Int.Digits.{digits_value_more}
use Rattle.registry_wire.proofs.field.number.Goals as goal

pub loop-byte-preserved : goal.loop-byte-preserved
loop-byte-preserved c =
    let more = digits_value_more 10 c.args.digits.now c.loop-byte.byte-index (omega arith) in
    grind (arith, common_steps, more, c.loop-byte.invariant, c.digit.ensures.value, c.min-n.ensures)
