use Rattle.registry_npm.specs.Queries.{npm_asks_queries}
use Rattle.registry_npm.proofs.laws.get_asks_queries.Goals as goal

pub returns : goal.returns
returns c = npm_asks_queries
