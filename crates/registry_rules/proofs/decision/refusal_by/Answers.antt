use Rattle.std.proofs.Common.{ap, ◌∙◌}
use Rattle.std.specs.Option.{option_or}
use Rattle.registry_rules.specs.Refusals.{unless_allowed}
use Rattle.registry_rules.proofs.decision.refusal_by.Goals as goal

pub returns : goal.returns
returns c = λ S stand. c.or.ensures ∙ (λ i. option_or ((c.unless_allowed.ensures ∙ ap unless_allowed (c.permission.ensures S stand)) i) (c.state_refusal.ensures S c.args.caller.now stand i))
