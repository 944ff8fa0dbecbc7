use Rattle.sqlite.specs.Held.{state}
use Rattle.registry_rows.proofs.CountFacts.{insert_numbers, next_is_new, next_is_after}
use Rattle.registry_rows.proofs.laws.numbers_are_counted.Goals as goal

pub returns-clause-insert : goal.returns-clause-insert
returns-clause-insert g c = λ schema contents place table value change t counters count i sql cells means params exact old new. insert_numbers t i sql cells means params exact (state g.S.Store old) (state g.S.Store new)

pub returns-clause-new : goal.returns-clause-new
returns-clause-new g c = next_is_new

pub returns-clause-after : goal.returns-clause-after
returns-clause-after g c = next_is_after
