use Rattle.registry_tables.proofs.Words.{◌∙◌, ap, map, counted}
use Rattle.registry_tables.proofs.InsideFacts.{finds_so, found_and}
use Rattle.registry_tables.proofs.users.load_users.Goals as goal

pub returns : goal.returns
returns g c = finds_so g.S.Store c.args.tx.now c.with_counts.new.tx c.with_counts.result (λ d users it. it.1 ∙ ap (map (counted d)) it.0)
    (found_and g.S.Store c.args.tx.now c.load_names.new.tx c.with_counts.new.tx _ c.with_counts.result c.in_ok-names.ensures c.with_counts.ensures)
