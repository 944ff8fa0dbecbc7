use Rattle.registry_npm.proofs.StrangerFacts.{bodies_are_of_users}
use Rattle.registry_npm.proofs.laws.bodies_are_of_users.Goals as goal

pub returns : goal.returns
returns c = bodies_are_of_users
