use Rattle.registry_cli.proofs.RowFacts.{parameters_found, parameters_missing}
use Rattle.registry_cli.proofs.reading.parameters_of.Goals as goal

pub returns-in-Some : goal.returns-in-Some
returns-in-Some c = parameters_found c.args.name.now c.in-Some.row.now c.in-Some.ensures

pub returns-in-None : goal.returns-in-None
returns-in-None c = parameters_missing c.args.name.now c.in-None.ensures
