use Rattle.registry_tables.proofs.OpeningFacts.{creation_understood, users_refused}
use Rattle.registry_tables.proofs.laws.tables_are_made_once.Goals as goal

pub returns-clause-understood : goal.returns-clause-understood
returns-clause-understood g c = creation_understood g.S.Store

pub returns-clause-users : goal.returns-clause-users
returns-clause-users g c = users_refused g.S.Store
