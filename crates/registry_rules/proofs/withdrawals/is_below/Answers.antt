use Rattle.std.proofs.Common.{◌∙◌, ap}
use Rattle.std.specs.Ordering.{is_lt}
use Rattle.registry_rules.proofs.ListedFacts.{precedence_by_texts}
use Rattle.registry_rules.proofs.withdrawals.is_below.Goals as goal

pub returns : goal.returns
returns c = c.is_lt.ensures ∙ ap is_lt (c.cmp.ensures ∙ precedence_by_texts _ _ _ _ c.text.ensures.text c.text.ensures.form c.text-2.ensures.text c.text-2.ensures.form)
