use Rattle.registry_server.proofs.GroupFacts.{adds-within, empty-within, groups-hold_little}
use Rattle.registry_server.proofs.laws.groups_hold_little.Goals as goal

pub returns-clause-begins : goal.returns-clause-begins
returns-clause-begins c = empty-within

pub returns-clause-adds : goal.returns-clause-adds
returns-clause-adds c = adds-within

pub returns-clause-most : goal.returns-clause-most
returns-clause-most c = groups-hold_little
