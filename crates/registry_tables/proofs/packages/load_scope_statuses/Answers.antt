use Rattle.registry_tables.proofs.Words.{◌∙◌, sym}
use Rattle.registry_tables.proofs.AfterScopeFacts.{scope_found}
use Rattle.registry_tables.proofs.InsideFacts.{finds_knows, finds_so, found_and}
use Rattle.registry_tables.proofs.packages.load_scope_statuses.Goals as goal

pub returns : goal.returns
returns g c =
    let asked = c.find_status.new.tx in
    let new = c.load_after_scope.new.tx in
    finds_so g.S.Store c.args.tx.now new c.load_after_scope.result
    (λ d _ it. it.1 ∙ scope_found d c.args.organisation.now _ c.in_ok-find_status.field-0 (c.as_str.ensures.text ∙ c.in_ok-scope.ensures.0) c.in_ok-scope.ensures.1 it.0 (sym c.is_some.ensures ∙ c.if-is_some.false))
    (found_and g.S.Store c.args.tx.now asked new _ c.load_after_scope.result c.in_ok-find_status.ensures (finds_knows g.S.Store asked new c.load_after_scope.result c.load_after_scope.ensures))
