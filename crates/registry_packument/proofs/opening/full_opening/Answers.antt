use Rattle.std.proofs.Common.{sym, ◌∙◌}
use Rattle.registry_packument.proofs.PackFacts.{full_opening-parts}
use Rattle.registry_packument.proofs.opening.full_opening.Goals as goal

pub returns : goal.returns
returns c =
    let times = rw (c.times.ensures.value, c.in_ok-out.ensures) at c.in_ok-push_times.ensures in
    times ∙ sym (full_opening-parts c.args.head.now)
