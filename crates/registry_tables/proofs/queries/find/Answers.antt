use Rattle.registry_tables.proofs.Words.{◌∙◌, ap, option_map, slice_get, IfOk-weaker, List, Row}
use Rattle.registry_tables.proofs.InsideFacts.{finds_of, shown_of}
use Rattle.registry_tables.proofs.queries.find.Goals as goal

pub returns : goal.returns
returns g c first query shows =
    let read = λ (rows : List Row). option_map g.K.RowKind.spelled (slice_get rows 0) in
    finds_of g.S.Store c.args.tx.now c.query.new.tx c.in_ok-rows.rows c.value_of_first_row.result (c.in_ok-rows.ensures query)
    (λ d it. IfOk-weaker c.value_of_first_row.result _ _ (λ found is. is ∙ ap read c.deref.ensures.value ∙ shown_of _ _ _ _ read first shows d _ it) c.value_of_first_row.ensures)
