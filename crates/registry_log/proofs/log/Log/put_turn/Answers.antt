use Rattle.std.proofs.Common.{◌∙◌, refl}
use Rattle.registry_log.specs.Logs.{turn_line}
use Rattle.registry_log.proofs.NoteFacts.{put-as}
use Rattle.registry_log.proofs.log.Log.put_turn.Goals as goal

pub returns-in-Ok-clause-noted : goal.returns-in-Ok-clause-noted
returns-in-Ok-clause-noted g c =
    let waits = c.args.self.now.waiting in
    put-as c.as_slice.result.now (turn_line c.args.at c.args.answered.now c.args.wanted c.args.turned.now) waits waits c.add.new.self.waiting
    (c.as_slice.ensures.value ∙ c.in-Ok.ensures.ok) refl c.add.ensures.put
