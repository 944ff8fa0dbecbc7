use Rattle.std.proofs.Common.{◌∙◌, sym, ap, true, false}
use Rattle.std.specs.Prelude.{None}
use Rattle.registry_names.specs.declared.refusal.Refusal.TheVariants.{Depended}
use Rattle.registry_rules.specs.Refusals.{refuse}
use Rattle.registry_rules.proofs.ListedFacts.{refused_whole}
use Rattle.registry_rules.proofs.withdrawals.withdraw_all_refusal.Goals as goal

pub returns-then-has_too_old : goal.returns-then-has_too_old
returns-then-has_too_old c =
    refused_whole c.args.now.now c.args.live.now c.args.depended false true (sym c.if-is_empty.false ∙ c.is_empty.ensures) (sym c.if-has_too_old.true ∙ c.has_too_old.ensures)

pub returns-then-depended : goal.returns-then-depended
returns-then-depended c =
    ap (λ b. refuse b Depended None) (sym c.if-depended.true)
    ∙ refused_whole c.args.now.now c.args.live.now c.args.depended false false (sym c.if-is_empty.false ∙ c.is_empty.ensures) (sym c.if-has_too_old.false ∙ c.has_too_old.ensures)

pub returns-else-depended : goal.returns-else-depended
returns-else-depended c =
    ap (λ b. refuse b Depended None) (sym c.if-depended.false)
    ∙ refused_whole c.args.now.now c.args.live.now c.args.depended false false (sym c.if-is_empty.false ∙ c.is_empty.ensures) (sym c.if-has_too_old.false ∙ c.has_too_old.ensures)
