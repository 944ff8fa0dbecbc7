use Rattle.std.proofs.Common.{◌∙◌, sym, ap}
use Rattle.registry_rules.specs.declared.reply.Reply.TheVariants.{Doc}
use Rattle.registry_service.specs.HttpAnswers.{Outcome, fronted_text}
use Rattle.registry_service.specs.Told.{outcome_in}
use Rattle.registry_service.specs.Turns.{end_of}
use Rattle.registry_service.proofs.told.Told.end.Goals as goal

pub returns-in-Fronted : goal.returns-in-Fronted
returns-in-Fronted c =
    c.end_after_reply.ensures (Doc (fronted_text c.in-Fronted.field-0)) ∙ ap (λ (o : Outcome). end_of o c.args.is_last c.args.closes) (sym (sym c.self.view_is ∙ ap outcome_in c.in-Fronted.is))
