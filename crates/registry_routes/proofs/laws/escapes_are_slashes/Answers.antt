use Rattle.registry_routes.proofs.EscapeFacts.{escapes}
use Rattle.registry_routes.proofs.laws.escapes_are_slashes.Goals as goal

pub returns : goal.returns
returns c = escapes
