use Rattle.std.proofs.Common.{◌∙◌, ap, slice_get}
use Rattle.std.specs.Ordering.{is_eq}
use Rattle.registry_check.proofs.OrderFacts.{first_kept}
use Rattle.registry_check.proofs.order.first_with.Goals as goal

pub returns : goal.returns
returns g c = λ ord answers up. c.first.ensures.value ∙ ap (λ rows. slice_get rows 0) (c.rows_with.ensures ord answers up) ∙ first_kept (λ row. is_eq (ord row)) c.args.rows.now
