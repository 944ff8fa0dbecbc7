use Rattle.std.proofs.Common.{ap, ◌∙◌}
use Rattle.registry_access.specs.Policy.{allowed_at}
use Rattle.registry_access.proofs.AgreementFacts.{standing_allowed}
use Rattle.registry_access.proofs.access.allowed_by.Goals as goal

pub returns-clause-of_state : goal.returns-clause-of_state
returns-clause-of_state c = λ S p e stands.
    c.by_position.ensures ∙ ap (allowed_at c.args.caller.now c.args.ask.now) c.in_standing.ensures ∙ standing_allowed _ S c.args.caller.now c.args.ask.now p e stands
