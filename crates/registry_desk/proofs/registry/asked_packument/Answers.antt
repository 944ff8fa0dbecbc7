use Rattle.registry_desk.proofs.QueryFacts.{asks_none}
use Rattle.registry_desk.proofs.registry.asked_packument.Goals as goal

pub returns-in_default-clause-none : goal.returns-in_default-clause-none
returns-in_default-clause-none c = asks_none c.args.what.now c.in_default.not-Packument c.in_default.not-AbbreviatedPackument c.in_default.not-RevisedPackument
