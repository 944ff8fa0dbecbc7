use Rattle.sqlite.specs.Held.{state}
use Rattle.registry_rows.proofs.CreateFacts.{create_adds, create_adds_counter, create_keeps, create_keeps_counter, index_keeps, index_keeps_blank}
use Rattle.registry_rows.proofs.laws.creations_add_empty_tables.Goals as goal

pub returns-clause-create : goal.returns-clause-create
returns-clause-create g c = λ schema sql table means old new. create_adds schema sql table means (state g.S.Store old) (state g.S.Store new)

pub returns-clause-counter : goal.returns-clause-counter
returns-clause-counter g c = λ schema sql table means old new. create_adds_counter schema sql table means (state g.S.Store old) (state g.S.Store new)

pub returns-clause-index : goal.returns-clause-index
returns-clause-index g c = λ schema sql place table index means old new. index_keeps_blank schema sql place table index means (state g.S.Store old) (state g.S.Store new)

pub returns-clause-index_rows : goal.returns-clause-index_rows
returns-clause-index_rows g c = λ schema sql place table index means contents depends old new. index_keeps schema sql place table index means contents depends (state g.S.Store old) (state g.S.Store new)

pub returns-clause-create_rows : goal.returns-clause-create_rows
returns-clause-create_rows g c = λ schema sql table means before after alike old new. create_keeps schema sql table means before after alike (state g.S.Store old) (state g.S.Store new)

pub returns-clause-counter_rows : goal.returns-clause-counter_rows
returns-clause-counter_rows g c = λ schema sql table means before after alike old new. create_keeps_counter schema sql table means before after alike (state g.S.Store old) (state g.S.Store new)
