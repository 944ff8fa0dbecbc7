use Rattle.registry_tables.proofs.Words.{rules, ◌∙◌, List, ap, map, IfOk-weaker, Row, Contents, number_spelled, last_number, last_withdrawal, registry_of}
use Rattle.registry_tables.proofs.InsideFacts.{finds_of, is_query, shown_of}
use Rattle.registry_tables.proofs.SpentFacts.{last_found, last_means}
use Rattle.registry_tables.proofs.spent.load_last_withdrawal.Goals as goal

pub returns : goal.returns
returns g c =
    let read = λ (rows : List Row). last_number (map number_spelled rows) in
    let is = λ (d : Contents). last_withdrawal (registry_of d) c.args.name.now in
    finds_of g.S.Store c.args.tx.now c.query.new.tx c.in_ok-rows.rows c.last_moment.result (c.in_ok-rows.ensures (is_query last_means)) (λ d it.
    let shown = rw (c.params-to_sql.ensures, c.text.ensures.text) at it in
    IfOk-weaker c.last_moment.result _ _ (λ _ last. last ∙ ap read c.deref.ensures.value ∙ shown_of _ _ _ _ read is (last_found c.args.name.now _ _) d _ shown) c.last_moment.ensures)

pub returns-in_err-rows : goal.returns-in_err-rows
returns-in_err-rows g c = let it = c.in_err-rows.ensures (is_query last_means) in search rules
