use Rattle.std.proofs.Common.{ap, ◌∙◌}
use Rattle.registry_access.specs.Positions.{level_at}
use Rattle.registry_access.proofs.AgreementFacts.{position_alike}
use Rattle.registry_access.proofs.access.level.Goals as goal

pub returns-clause-of_state : goal.returns-clause-of_state
returns-clause-of_state c = λ S same. c.level.ensures ∙ ap level_at (c.in_rows.ensures ∙ position_alike _ S _ _ same)
