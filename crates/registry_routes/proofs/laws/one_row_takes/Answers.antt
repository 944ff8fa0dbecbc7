use Rattle.registry_routes.proofs.LawFacts.{one-row}
use Rattle.registry_routes.proofs.laws.one_row_takes.Goals as goal

pub returns : goal.returns
returns c = one-row
