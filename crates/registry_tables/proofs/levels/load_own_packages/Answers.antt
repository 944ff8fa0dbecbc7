use Rattle.registry_tables.proofs.Words.{◌∙◌}
use Rattle.registry_tables.proofs.InsideFacts.{knows_here}
use Rattle.registry_tables.proofs.LevelFacts.{others_own_none}
use Rattle.registry_tables.proofs.levels.load_own_packages.Goals as goal

pub returns-in-Operator : goal.returns-in-Operator
returns-in-Operator g c = knows_here g.S.Store c.args.tx.now _ (λ d sound. c.new.ensures.items ∙ others_own_none d c.args.caller.now c.in-Operator.is)
