use Rattle.registry_tables.proofs.Words.{◌≡◌, ◌∙◌, ◌∷◌, ◌++◌, List, ap, append_assoc, arith, length, sym, into_iter_items, scope_of, Text, PackageLevel, is_scope, levels_in, scopes_levels}
use Rattle.registry_tables.proofs.InsideFacts.{finds_knows, keeps_and}
use Rattle.registry_tables.proofs.levels.add_scopes.Goals as goal

pub loop-organisation-preserved : goal.loop-organisation-preserved
loop-organisation-preserved g c =
    let at = c.loop-organisation in
    let steps : into_iter_items at.organisation-iterator ≡ c.in-Some.organisation ∷ into_iter_items c.next.new.self = c.in-Some.ensures.steps.0 in
    let named : c.in_ok-organisation.organisation ≡ c.in-Some.organisation = (rw c.in_ok-organisation.ensures at c.parse.ensures.ok).0 ∙ c.as_str.ensures.text in
    let who = c.args.caller.now in
    let next = into_iter_items c.next.new.self in
    let scope = c.in_ok-scope.scope.items in
    record {
      kept = keeps_and g.S.Store c.args.tx.now at.tx c.load_scope_packages.new.tx _ at.invariant.kept (finds_knows g.S.Store at.tx c.load_scope_packages.new.tx _ c.in_ok-scope.ensures) (λ d were told sound.
          ap (λ (ps : List PackageLevel). ps ++ scopes_levels d who next) c.in_ok-append.ensures.items ∙ append_assoc at.packages.items scope (scopes_levels d who next)
          ∙ ap (λ (ps : List PackageLevel). at.packages.items ++ (ps ++ scopes_levels d who next)) (told sound ∙ ap (λ (o : Text). levels_in d who (λ p. is_scope o (scope_of p))) named)
          ∙ sym (ap (λ (os : List Text). at.packages.items ++ scopes_levels d who os) steps) ∙ were sound);
      remain =
          let was = at.invariant.remain in
          let gone = c.in-Some.ensures.steps.1 in
          let short = ap length steps in
          omega arith;
    }
