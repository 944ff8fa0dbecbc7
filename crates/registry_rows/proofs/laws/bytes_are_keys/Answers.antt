use Rattle.sqlite.specs.Held.{state}
use Rattle.registry_rows.proofs.KeyedFacts.{by_bytes_given}
use Rattle.registry_rows.proofs.StatementFacts.{rows_tell_by, insert_puts_bytes, insert_meets_none_bytes, delete_erases_by}
use Rattle.registry_rows.proofs.LookUpFacts.{select_finds_by, select_has_by, select_all_by}
use Rattle.registry_rows.proofs.laws.bytes_are_keys.Goals as goal

pub returns-clause-once : goal.returns-clause-once
returns-clause-once g c = λ schema contents place table value change t h. (by_bytes_given t).keyed.once (state g.S.Store h)

pub returns-clause-tell : goal.returns-clause-tell
returns-clause-tell g c = λ schema contents place table value change t h. rows_tell_by (by_bytes_given t) (state g.S.Store h)

pub returns-clause-insert : goal.returns-clause-insert
returns-clause-insert g c = λ schema contents place table value change t sql cells means params exact old new.
    insert_puts_bytes t sql cells means params exact (state g.S.Store old) (state g.S.Store new)

pub returns-clause-insert_new : goal.returns-clause-insert_new
returns-clause-insert_new g c = λ schema contents place table value change t sql cells means params exact old new.
    insert_meets_none_bytes t sql cells means params exact (state g.S.Store old) (state g.S.Store new)

pub returns-clause-delete : goal.returns-clause-delete
returns-clause-delete g c = λ schema contents place table value change t sql means quiet q old new. delete_erases_by (by_bytes_given t) sql means quiet q (state g.S.Store old) (state g.S.Store new)

pub returns-clause-find : goal.returns-clause-find
returns-clause-find g c = λ schema contents place table value change t sql project names means q read see shows old new.
    select_finds_by (by_bytes_given t) sql project names means q read see shows (state g.S.Store old) (state g.S.Store new)

pub returns-clause-has : goal.returns-clause-has
returns-clause-has g c = λ schema contents place table value change t at q typed has tells sql project names means read see shows old new.
    select_has_by (by_bytes_given t) at q typed has tells sql project names means read see shows (state g.S.Store old) (state g.S.Store new)

pub returns-clause-all : goal.returns-clause-all
returns-clause-all g c = λ schema contents place table value change t sql project names means read see shows old new.
    select_all_by (by_bytes_given t) sql project names means read see shows (state g.S.Store old) (state g.S.Store new)
