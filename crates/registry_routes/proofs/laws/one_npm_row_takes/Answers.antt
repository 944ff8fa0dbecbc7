use Rattle.registry_routes.proofs.NpmFacts.{one-npm_row}
use Rattle.registry_routes.proofs.laws.one_npm_row_takes.Goals as goal

pub returns : goal.returns
returns c = one-npm_row
