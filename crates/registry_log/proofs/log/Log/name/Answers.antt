use Rattle.std.proofs.Common.{◌∙◌, ℕ, List, ap, refl}
use Rattle.registry_log.specs.Logs.{line_as, name_in}
use Rattle.registry_log.proofs.NoteFacts.{put-as}
use Rattle.registry_log.proofs.log.Log.name.Goals as goal

pub returns-in-Ok : goal.returns-in-Ok
returns-in-Ok g c =
    let waits = c.args.self.now.waiting in
    let named = λ (name : List ℕ). line_as c.args.unnamed.now name in
    record {
      noted = put-as c.as_slice.result.now (named (name_in c.args.user.now)) waits waits c.add.new.self.waiting
          (c.as_slice.ensures.value ∙ c.in-Ok.ensures.ok ∙ ap named c.user_text.ensures) refl c.add.ensures.put;
      keeps = c.add.ensures.keeps;
    }
