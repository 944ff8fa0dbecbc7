use Rattle.std.proofs.Common.{◌∙◌}
use Rattle.registry_access.proofs.AgreementFacts.{allowed_alike}
use Rattle.registry_access.proofs.access.allowed.Goals as goal

pub returns-clause-of_state : goal.returns-clause-of_state
returns-clause-of_state c = λ S same. c.by_rows.ensures ∙ allowed_alike _ S _ _ same
