use Rattle.registry_tables.proofs.JoinedFacts.{scoped_are_all, unscoped_have_none}
use Rattle.registry_tables.proofs.laws.grants_stay_in_scope.Goals as goal

pub returns-clause-scoped : goal.returns-clause-scoped
returns-clause-scoped c = λ stored o u p g kept scope. scoped_are_all stored kept u p g o scope

pub returns-clause-unscoped : goal.returns-clause-unscoped
returns-clause-unscoped c = λ stored u p g kept none. unscoped_have_none stored kept u p g none
