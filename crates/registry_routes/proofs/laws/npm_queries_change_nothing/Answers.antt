use Rattle.registry_routes.proofs.NpmFacts.{npm-queries}
use Rattle.registry_routes.proofs.laws.npm_queries_change_nothing.Goals as goal

pub returns : goal.returns
returns c = npm-queries
