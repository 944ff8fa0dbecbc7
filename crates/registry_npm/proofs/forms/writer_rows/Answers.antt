use Rattle.std.proofs.Common.{ap}
use Rattle.registry_npm.specs.Forms.{writer}
use Rattle.registry_npm.proofs.FormFacts.{map_last, map_step}
use Rattle.registry_npm.proofs.forms.writer_rows.Goals as goal

pub loop-user-preserved : goal.loop-user-preserved
loop-user-preserved c =
    let named = rw c.as_str.ensures.text at c.in_ok-name.ensures in
    map_step writer c.loop-user.rows.items _ _ c.args.users.now c.loop-user.user-index c.user-item.result (writer c.in_ok-name.name) c.loop-user-test.true c.user-item.is (ap writer named) c.in_ok-push.ensures.items c.loop-user.invariant

pub returns : goal.returns
returns c = map_last writer c.loop-user.rows.items _ c.args.users.now c.loop-user.user-index c.loop-user-test.false c.loop-user.invariant
