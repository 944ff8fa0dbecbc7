use Rattle.registry_routes.proofs.LawFacts.{queries}
use Rattle.registry_routes.proofs.laws.queries_change_nothing.Goals as goal

pub returns : goal.returns
returns c = queries
