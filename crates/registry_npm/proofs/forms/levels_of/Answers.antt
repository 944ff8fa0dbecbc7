use Rattle.registry_npm.proofs.FormFacts.{row_step}
use Rattle.registry_npm.proofs.forms.levels_of.Goals as goal

pub loop-name-preserved : goal.loop-name-preserved
loop-name-preserved c =
    let grant = rw c.in-Some-grant_of.is at c.grant_of.ensures in
    rw (c.in_ok-push.ensures.items, c.in_ok-name.ensures, c.as_str.ensures.value, c.level_of.ensures)
    (row_step c.loop-name.rows.items _ _ _ (c.in-Some.name.now, c.in-Some.member.now) c.in-Some-grant_of.grant c.loop-name.invariant c.in-Some.ensures.steps grant)
