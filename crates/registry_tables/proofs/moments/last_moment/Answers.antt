use Rattle.registry_tables.proofs.Words.{◌∙◌, ℕ, Option, Some, ap, sym, max, slice_index_or, unwrap_or, number_spelled}
use Rattle.registry_tables.proofs.SpentFacts.{last_next}
use Rattle.registry_tables.proofs.moments.last_moment.Goals as goal

pub loop-row-preserved : goal.loop-row-preserved
loop-row-preserved c =
    let next = number_spelled (slice_index_or c.args.rows.now c.loop-row.row-index c.row-item.result) in
    ap (λ (n : ℕ). Some n) (c.later.ensures
    ∙ ap (λ (n : ℕ). max n (unwrap_or c.loop-row.last 0)) (c.in_ok-moment.ensures ∙ ap number_spelled c.row-item.is)
    ∙ ap (λ (o : Option ℕ). max next (unwrap_or o 0)) c.loop-row.invariant)
    ∙ sym (last_next c.args.rows.now c.loop-row.row-index c.row-item.result c.loop-row-test.true)
