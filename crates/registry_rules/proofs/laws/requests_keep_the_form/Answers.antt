use Rattle.registry_rules.proofs.KeptFacts.{nothing_kept, step_kept}
use Rattle.registry_rules.proofs.laws.requests_keep_the_form.Goals as goal

pub returns-clause-nothing : goal.returns-clause-nothing
returns-clause-nothing c = nothing_kept

pub returns-clause-step : goal.returns-clause-step
returns-clause-step c = step_kept
