use Rattle.registry_tables.proofs.Words.{◌∙◌, ap, false, list_any, map, sym, take, true}
use Rattle.std.proofs.lemmas.List.{take_all}
use Rattle.registry_tables.specs.Dependents.{binds_one, dependent_entry, ranges_of}
use Rattle.registry_tables.proofs.DependentFacts.{kept_answer, none_more, some_here}
use Rattle.registry_tables.proofs.InsideFacts.{finds_knows, keeps_and}
use Rattle.registry_tables.proofs.dependents.any_binds.Goals as goal

pub loop-dependent-preserved : goal.loop-dependent-preserved
loop-dependent-preserved g c =
    let at = c.loop-dependent in
    keeps_and g.S.Store c.args.tx.now at.tx c.dependent_binds.new.tx _ at.invariant (finds_knows g.S.Store at.tx c.dependent_binds.new.tx _ c.in_ok-dependent_binds.ensures)
    (λ d were is. none_more dependent_entry (λ k. list_any (binds_one c.args.versions.now) (ranges_of d c.args.name.now k)) c.args.dependents.now at.dependent-index c.dependent-item.result c.loop-dependent-test.true c.dependent-item.is were (sym is ∙ c.if-branch.false))

pub returns-then-branch : goal.returns-then-branch
returns-then-branch g c =
    let at = c.loop-dependent in
    kept_answer g.S.Store c.args.tx.now c.dependent_binds.new.tx true
    (keeps_and g.S.Store c.args.tx.now at.tx c.dependent_binds.new.tx _ at.invariant (finds_knows g.S.Store at.tx c.dependent_binds.new.tx _ c.in_ok-dependent_binds.ensures)
    (λ d were is. some_here dependent_entry (λ k. list_any (binds_one c.args.versions.now) (ranges_of d c.args.name.now k)) c.args.dependents.now at.dependent-index c.dependent-item.result c.loop-dependent-test.true c.dependent-item.is (sym is ∙ c.if-branch.true)))
    (λ d so. sym so)

pub returns : goal.returns
returns g c =
    let at = c.loop-dependent in
    kept_answer g.S.Store c.args.tx.now at.tx false at.invariant
    (λ d so. sym (ap (λ ds. list_any (λ k. list_any (binds_one c.args.versions.now) (ranges_of d c.args.name.now k)) (map dependent_entry ds)) (sym (take_all at.dependent-index c.args.dependents.now c.loop-dependent-test.false)) ∙ so))
