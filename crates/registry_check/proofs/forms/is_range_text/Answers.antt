use Rattle.registry_check.proofs.FormFacts.{range_tested}
use Rattle.registry_check.proofs.forms.is_range_text.Goals as goal

pub returns : goal.returns
returns c = range_tested c.is_range.result c.args.text.now c.is_range.ensures.0 c.is_range.ensures.1
