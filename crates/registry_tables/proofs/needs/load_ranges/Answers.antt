use Rattle.std.proofs.Common.{rules}
use Rattle.registry_tables.proofs.Words.{◌∙◌, ap, list_any, map, map-id, sym, IfOk-weaker, text_spelled}
use Rattle.registry_tables.specs.Dependents.{dependent_entry, ranges_of}
use Rattle.registry_tables.proofs.DependentFacts.{range_means, ranges_shown, same_found}
use Rattle.registry_tables.proofs.InsideFacts.{finds_of, is_query}
use Rattle.registry_tables.proofs.needs.load_ranges.Goals as goal

pub returns-in_err-rows : goal.returns-in_err-rows
returns-in_err-rows g c = let it = c.in_err-rows.ensures (is_query range_means) in search rules

pub returns : goal.returns
returns g c =
    let q = dependent_entry c.args.dependent.now in
    finds_of g.S.Store c.args.tx.now c.query.new.tx c.in_ok-rows.rows c.values_of_rows.result (c.in_ok-rows.ensures (is_query range_means))
    (λ d it. IfOk-weaker c.values_of_rows.result _ _ (λ found are f. ap (list_any f) (sym (map-id _) ∙ are ∙ ap (map text_spelled) c.deref.ensures.value)
    ∙ same_found it text_spelled (λ e. ranges_of e c.args.name.now q) (rw (c.params-to_sql.ensures, c.params-to_sql-2.ensures, c.params-to_sql-3.ensures, c.as_str.ensures.text, c.as_str-2.ensures.text, c.text.ensures.text) (ranges_shown c.args.name.now q _ _)) f) c.values_of_rows.ensures)
