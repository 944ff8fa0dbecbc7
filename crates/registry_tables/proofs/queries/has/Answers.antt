use Rattle.registry_tables.proofs.Words.{◌==◌, ◌∙◌, ap, length, not}
use Rattle.registry_tables.proofs.InsideFacts.{finds_of, shown_of}
use Rattle.registry_tables.proofs.queries.has.Goals as goal

pub returns : goal.returns
returns g c is query shows = finds_of g.S.Store c.args.tx.now c.query.new.tx c.in_ok-rows.rows _ (c.in_ok-rows.ensures query)
    (λ d it. ap not (c.is_empty.ensures ∙ ap (λ n. n == 0) c.in_ok-rows.rows.ok.0) ∙ shown_of _ _ _ _ (λ rows. not (length rows == 0)) is shows d _ it)
