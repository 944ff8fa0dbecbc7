use Rattle.registry_tables.proofs.Words.{◌∙◌, ap, map, sym, map-map, package_entry, viewed}
use Rattle.registry_tables.proofs.InsideFacts.{finds_so, found_and}
use Rattle.registry_tables.proofs.packages.load_packages.Goals as goal

pub returns : goal.returns
returns g c = finds_so g.S.Store c.args.tx.now c.with_latest.new.tx c.with_latest.result
    (λ d _ it. it.1 ∙ sym (map-map (viewed d) package_entry c.in_ok-packages.packages.items) ∙ ap (map (viewed d)) it.0)
    (found_and g.S.Store c.args.tx.now c.load_statuses.new.tx c.with_latest.new.tx _ c.with_latest.result c.in_ok-packages.ensures c.with_latest.ensures)
