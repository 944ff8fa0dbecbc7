use Rattle.registry_tables.proofs.Words.{◌∙◌, ap, map, IfOk-weaker, List, Row}
use Rattle.registry_tables.proofs.InsideFacts.{finds_of, shown_of}
use Rattle.registry_tables.proofs.queries.list.Goals as goal

pub returns : goal.returns
returns g c all query shows =
    let read = λ (rows : List Row). map g.K.RowKind.spelled rows in
    finds_of g.S.Store c.args.tx.now c.query.new.tx c.in_ok-rows.rows c.values_of_rows.result (c.in_ok-rows.ensures query)
    (λ d it. IfOk-weaker c.values_of_rows.result _ _ (λ values are. are ∙ ap read c.deref.ensures.value ∙ shown_of _ _ _ _ read all shows d _ it) c.values_of_rows.ensures)
