use Rattle.std.proofs.Common.{◌∙◌, ◌==◌, ap, length, not}
use Rattle.std.specs.Ordering.{is_eq}
use Rattle.registry_check.proofs.OrderFacts.{some_kept}
use Rattle.registry_check.proofs.order.contains.Goals as goal

pub returns : goal.returns
returns g c = λ ord answers up. ap not c.is_empty.ensures ∙ ap (λ rows. not (length rows == 0)) (c.rows_with.ensures ord answers up) ∙ some_kept (λ row. is_eq (ord row)) c.args.rows.now
