use Rattle.sqlite.specs.Held.{state}
use Rattle.registry_laws_sql.proofs.JoinFacts.{select_joins}
use Rattle.registry_laws_sql.proofs.PartFacts.{select_part}
use Rattle.registry_laws_sql.proofs.laws.queries_show_parts.Goals as goal

pub returns-clause-part : goal.returns-clause-part
returns-clause-part g c = λ schema contents place table more value change t rest places within sql project names means q read see shows old new.
    select_part t rest places within sql project names means q read see shows (state g.S.Store old) (state g.S.Store new)

pub returns-clause-join : goal.returns-clause-join
returns-clause-join g c = λ schema contents place table m value change t other_place other n other_value other_change u ps sql project names means params sides read show shows old new.
    select_joins t u ps sql project names means params sides read show shows (state g.S.Store old) (state g.S.Store new)
