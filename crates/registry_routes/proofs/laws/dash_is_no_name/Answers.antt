use Rattle.registry_routes.proofs.LawFacts.{dash}
use Rattle.registry_routes.proofs.laws.dash_is_no_name.Goals as goal

pub returns : goal.returns
returns c = dash
