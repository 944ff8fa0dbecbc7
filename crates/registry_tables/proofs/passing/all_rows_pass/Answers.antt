use Rattle.registry_tables.proofs.Words.{◌∙◌, ap, list_all, IfOk-weaker}
use Rattle.registry_tables.proofs.InsideFacts.{finds_of, shown_of}
use Rattle.registry_tables.proofs.passing.all_rows_pass.Goals as goal

pub returns : goal.returns
returns g c are query shows = finds_of g.S.Store c.args.tx.now c.query.new.tx c.in_ok-rows.rows c.all_pass.result (c.in_ok-rows.ensures query)
    (λ d it. IfOk-weaker c.all_pass.result _ _ (λ _ is. is ∙ ap (list_all g.T.RowTest.passes) c.deref.ensures.value ∙ shown_of _ _ _ _ (list_all g.T.RowTest.passes) are shows d _ it) c.all_pass.ensures)
