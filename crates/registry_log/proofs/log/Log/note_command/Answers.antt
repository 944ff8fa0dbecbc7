use Rattle.std.proofs.Common.{◌∙◌, Option, ap}
use Rattle.registry_log.specs.Logs.{Logging, command_line}
use Rattle.registry_log.specs.declared.log.Answered.{Answered}
use Rattle.registry_log.proofs.NoteFacts.{put-as}
use Rattle.registry_log.proofs.log.Log.note_command.Goals as goal

pub returns-in-Ok : goal.returns-in-Ok
returns-in-Ok g c =
    let answers = λ (l : Logging). l.answered in
    let later = λ (l : Logging). l.later in
    let at = c.moment-at.result in
    let command = c.args.command.now in
    let left = c.self.view_is ∙ c.take_answered-answered.ensures.left in
    record {
      at = at;
      noted = put-as c.as_slice.result.now (command_line at c.args.self.now.answered command) c.args.self.now.waiting c.self.inside.waiting c.add.new.self.waiting
          (c.as_slice.ensures.value ∙ c.in-Ok.ensures ∙ ap (λ (o : Option Answered). command_line at o command) c.take_answered-answered.ensures.taken)
          (ap (λ (l : Logging). l.waiting) left) c.add.ensures.put;
      next = record { answered = c.add.ensures.keeps.answered ∙ ap answers left; later = c.add.ensures.keeps.later ∙ ap later left };
      unnamed = c.add.ensures.keeps.unnamed ∙ ap (λ (l : Logging). l.unnamed) left;
    }
