use Rattle.sqlite.specs.Held.{state}
use Rattle.registry_laws_sql.proofs.CascadeFacts.{delete_cascades}
use Rattle.registry_laws_sql.proofs.PartFacts.{delete_part}
use Rattle.registry_laws_sql.proofs.laws.deletes_take_parts.Goals as goal

pub returns-clause-part : goal.returns-clause-part
returns-clause-part g c = λ schema contents place table more value change t rest places within sql means quiet q old new. delete_part t rest places within sql means quiet q (state g.S.Store old) (state g.S.Store new)

pub returns-clause-cascade : goal.returns-clause-cascade
returns-clause-cascade g c = λ schema contents place table more value change t sql means children has q old new. delete_cascades t sql means children has q (state g.S.Store old) (state g.S.Store new)
