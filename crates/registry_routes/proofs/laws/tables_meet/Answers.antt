use Rattle.registry_routes.proofs.NpmFacts.{tables-meet}
use Rattle.registry_routes.proofs.laws.tables_meet.Goals as goal

pub returns : goal.returns
returns c = tables-meet
