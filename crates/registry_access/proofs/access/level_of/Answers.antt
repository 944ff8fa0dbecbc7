use Rattle.std.proofs.Common.{ap, ◌∙◌}
use Rattle.registry_access.specs.Positions.{level_at}
use Rattle.registry_access.proofs.AgreementFacts.{standing_level}
use Rattle.registry_access.proofs.access.level_of.Goals as goal

pub returns-clause-of_state : goal.returns-clause-of_state
returns-clause-of_state c = λ S p stands. c.level.ensures ∙ ap level_at c.in_standing.ensures ∙ standing_level _ S _ p stands
