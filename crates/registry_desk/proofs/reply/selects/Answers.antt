use Rattle.registry_desk.proofs.Words.{◌∙◌}
use Rattle.registry_rules.proofs.ListedFacts.{selects_by_text}
use Rattle.registry_desk.proofs.reply.selects.Goals as goal

pub returns : goal.returns
returns c = c.selects.ensures ∙ selects_by_text c.args.selector.now _ _ c.text.ensures.text c.text.ensures.form
