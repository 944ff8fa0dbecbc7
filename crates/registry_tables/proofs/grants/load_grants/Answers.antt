use Rattle.registry_tables.proofs.Words.{rules, ◌∙◌, ap, sym, subst, map, map-id, IfOk-weaker, AreGranted, grant_spelled}
use Rattle.registry_tables.proofs.JoinedFacts.{grants_listed, grants_means}
use Rattle.registry_tables.proofs.InsideFacts.{finds_of, is_query}
use Rattle.registry_tables.proofs.grants.load_grants.Goals as goal

pub returns-in_err-rows : goal.returns-in_err-rows
returns-in_err-rows g c = let it = c.in_err-rows.ensures (is_query grants_means) in search rules

pub returns : goal.returns
returns g c =
    let told = rw (c.params-to_sql.ensures, c.params-to_sql-2.ensures, c.params-to_sql-3.ensures, c.text.ensures.text, c.text-2.ensures.text) at c.in_ok-rows.ensures (is_query grants_means) in
    finds_of g.S.Store c.args.tx.now c.query.new.tx _ c.values_of_rows.result told
    (λ d it.
    let is = subst (λ d. AreGranted d c.args.organisation.now c.args.user.now c.args.name.now (map grant_spelled c.in_ok-rows.rows.items)) it.holds (grants_listed c.args.organisation.now c.args.user.now c.args.name.now _ _ _ it.form it.call it.clean).1 in
    IfOk-weaker c.values_of_rows.result _ _ (λ grants e. subst (AreGranted d c.args.organisation.now c.args.user.now c.args.name.now) (sym (sym (map-id grants.items) ∙ e ∙ ap (map grant_spelled) c.deref.ensures.value)) is) c.values_of_rows.ensures)
