use Rattle.std.proofs.Common.{◌∙◌, ap, inl, inr, map, rules}
use Rattle.std.proofs.lemmas.Result.{IfOk-weaker}
use Rattle.registry_check.proofs.loads.load.Goals as goal

pub returns-in_err-rows-clause-finds : goal.returns-in_err-rows-clause-finds
returns-in_err-rows-clause-finds g c = inr (c.in_err-rows.ensures.failed, search (rules, c.from_residual.ensures))

pub returns-clause-finds : goal.returns-clause-finds
returns-clause-finds g c = inl (_, (c.in_ok-rows.ensures.shown, IfOk-weaker c.values_of_rows.result _ _ (λ _ e. e ∙ ap (map g.K.RowKind.spelled) c.deref.ensures.value) c.values_of_rows.ensures))
