use Rattle.registry_npm.proofs.LawFacts.{npm-is_apart}
use Rattle.registry_npm.proofs.laws.npm_is_apart.Goals as goal

pub returns : goal.returns
returns c = npm-is_apart c.tables_meet.ensures
