use Rattle.registry_tables.proofs.Words.{◌∙◌, ap, list_any, map}
use Rattle.registry_tables.specs.Dependents.{binds_one, dependent_entry, ranges_of}
use Rattle.registry_tables.proofs.DependentFacts.{one_by_one}
use Rattle.registry_tables.proofs.InsideFacts.{finds_so, found_and}
use Rattle.registry_tables.proofs.dependents.is_one_bound.Goals as goal

pub returns : goal.returns
returns g c = finds_so g.S.Store c.args.tx.now c.any_binds.new.tx c.any_binds.result
    (λ d any told. told.1 ∙ ap (λ ds. list_any (λ k. list_any (binds_one c.args.versions.now) (ranges_of d c.args.name.now k)) (map dependent_entry ds)) c.deref.ensures.value
    ∙ told.0 (λ k. list_any (binds_one c.args.versions.now) (ranges_of d c.args.name.now k)) ∙ one_by_one d c.args.name.now (binds_one c.args.versions.now))
    (found_and g.S.Store c.args.tx.now c.load_dependents.new.tx c.any_binds.new.tx c.in_ok-dependents.dependents c.any_binds.result c.in_ok-dependents.ensures c.any_binds.ensures)
