use Rattle.std.proofs.Common.{sym, ◌∙◌}
use Rattle.registry_npm.proofs.ComesFacts.{comes-either}
use Rattle.registry_npm.proofs.commands.does.Goals as goal

pub returns-in-Deprecation : goal.returns-in-Deprecation
returns-in-Deprecation g c = rw c.in-Deprecation.is (rw (c.as_str.ensures.text, c.as_str-in-Deprecation.ensures.text) at c.deprecate.ensures)

pub returns-then-is_revised : goal.returns-then-is_revised
returns-then-is_revised g c = rw c.in-Withdrawal.is (comes-either g.D.Service.answers _ _ _ _ _ _ (sym c.is_revised.ensures ∙ c.if-is_revised.true) c.withdraw.ensures)

pub returns-then-is_revised-2 : goal.returns-then-is_revised-2
returns-then-is_revised-2 g c = rw c.in-OwnerAdd.is (comes-either g.D.Service.answers _ _ _ _ _ _ (sym c.is_revised-in-OwnerAdd.ensures ∙ c.if-is_revised-2.true) c.owner_add.ensures)

pub returns-then-is_revised-3 : goal.returns-then-is_revised-3
returns-then-is_revised-3 g c = rw c.in-OwnerRemove.is (comes-either g.D.Service.answers _ _ _ _ _ _ (sym c.is_revised-in-OwnerRemove.ensures ∙ c.if-is_revised-3.true) c.owner_remove.ensures)
