use Rattle.registry_tables.proofs.Words.{◌∙◌, sym}
use Rattle.registry_tables.proofs.InsideFacts.{finds_so, is_query}
use Rattle.registry_tables.proofs.RangeFacts.{levels_means}
use Rattle.registry_tables.proofs.ScopeFacts.{in_scope_told, scopes_tested}
use Rattle.registry_tables.proofs.scopes.are_grants_in_scope.Goals as goal

pub returns : goal.returns
returns g c = finds_so g.S.Store c.args.tx.now c.all_rows_pass.new.tx c.all_rows_pass.result
    (λ d _ is. let told = in_scope_told d in (λ are. told.0 (sym is ∙ are), λ scoped. is ∙ told.1 scoped))
    (c.all_rows_pass.ensures _ (is_query levels_means) (scopes_tested _ _))
