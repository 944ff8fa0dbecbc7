use Rattle.registry_npm.proofs.RightFacts.{row_step}
use Rattle.registry_npm.proofs.rights.members_of.Goals as goal

pub loop-name-preserved : goal.loop-name-preserved
loop-name-preserved c =
    let role = rw c.in-Some-role_of.is at c.role_of.ensures in
    rw (c.in_ok-push.ensures.items, c.in_ok-user.ensures, c.as_str.ensures.value)
    (row_step c.loop-name.rows.items _ _ _ (c.in-Some.name.now, c.in-Some.value.now) c.in-Some-role_of.role c.loop-name.invariant c.in-Some.ensures.steps role)
