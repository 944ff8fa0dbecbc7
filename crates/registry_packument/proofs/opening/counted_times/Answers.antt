use Rattle.std.proofs.Common.{◌≡◌, ◌∙◌, ◌+◌, true, drop, length, ap, arith, length-append}
use Rattle.registry_packument.specs.Heads.{time_entry}
use Rattle.registry_packument.specs.ObjectTexts.{member_text}
use Rattle.registry_packument.specs.Packuments.{time_pair, times_text}
use Rattle.registry_packument.proofs.PackFacts.{times_text-next}
use Rattle.registry_packument.proofs.opening.counted_times.Goals as goal

pub loop-time-preserved : goal.loop-time-preserved
loop-time-preserved c =
    let head = c.args.head.now in
    let i = c.loop-time.time-index in
    let member = member_text c.loop-time.later (time_pair (time_entry c.time-item.result)) in
    let left = times_text head true (drop (i + 1) c.args.times.now) in
    let counted : c.in_ok-sum.sum ≡ c.loop-time.sum + length member = rw (c.as_str.ensures.value ∙ c.in_ok-member.ensures) at c.in_ok-sum.ensures.ok in
    let parts : length (times_text head c.loop-time.later (drop i c.args.times.now)) ≡ length member + length left =
    ap length (times_text-next head c.loop-time.later c.args.times.now i c.time-item.result c.loop-time-test.true c.time-item.is) ∙ length-append member left in
    omega (arith, counted, parts, c.loop-time.invariant)
