use Rattle.registry_desk.proofs.Words.{◌∙◌, sym, true, false}
use Rattle.registry_rules.proofs.ListedFacts.{refused_whole}
use Rattle.registry_desk.proofs.withdrawals.refusal_by_ages.Goals as goal

pub returns-then-has_too_old : goal.returns-then-has_too_old
returns-then-has_too_old c = refused_whole c.args.now.now c.args.live.now false false true (sym c.if-is_empty.false ∙ c.is_empty.ensures) (sym c.if-has_too_old.true ∙ c.has_too_old.ensures)

pub returns-else-has_too_old : goal.returns-else-has_too_old
returns-else-has_too_old c = refused_whole c.args.now.now c.args.live.now false false false (sym c.if-is_empty.false ∙ c.is_empty.ensures) (sym c.if-has_too_old.false ∙ c.has_too_old.ensures)
