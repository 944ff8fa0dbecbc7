use Rattle.std.proofs.Common.{rules}
use Rattle.std.proofs.lemmas.Result.{err_from_is_err_and}
use Rattle.std.proofs.lemmas.Slice.Eq.{bytes_eq-Decides}
use Rattle.registry_tables.proofs.Words.{◌∙◌, ap, list_any, map, tag_spelled}
use Rattle.registry_tables.specs.Dependents.{dependent_entry, dependents_on}
use Rattle.registry_tables.proofs.DependentFacts.{dependents_shown, list_means, once_each, same_found}
use Rattle.registry_tables.proofs.InsideFacts.{finds_of, is_query}
use Rattle.registry_tables.proofs.needs.load_dependents.Goals as goal

pub returns-in_err-rows : goal.returns-in_err-rows
returns-in_err-rows g c = let it = c.in_err-rows.ensures (is_query list_means) in search rules

pub returns-in_err-dependents : goal.returns-in_err-dependents
returns-in_err-dependents g c =
    let fault = err_from_is_err_and c.from_residual-in_err-dependents.result c.from_residual-in_err-dependents.ensures.1 in
    rw fault.1
    (finds_of g.S.Store c.args.tx.now c.query.new.tx c.in_ok-rows.rows _ (c.in_ok-rows.ensures (is_query list_means)) (λ _ _. tt))

pub returns : goal.returns
returns g c =
    finds_of g.S.Store c.args.tx.now c.query.new.tx c.in_ok-rows.rows _ (c.in_ok-rows.ensures (is_query list_means))
    (λ d it f. once_each dependent_entry _ (λ x y e. search (rules, bytes_eq-Decides)) _ _ c.dedup.ensures.filtered f
    ∙ ap (list_any f) (c.in_ok-dependents.ensures ∙ ap (map tag_spelled) c.deref.ensures.value)
    ∙ same_found it tag_spelled (λ e. dependents_on e c.args.name.now) (rw (c.params-to_sql.ensures, c.text.ensures.text) (dependents_shown c.args.name.now _ _)) f)
