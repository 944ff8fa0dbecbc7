use Rattle.registry_tables.proofs.Words.{◌∙◌}
use Rattle.registry_tables.proofs.InsideFacts.{finds_so, found_and}
use Rattle.registry_tables.proofs.LevelFacts.{listed_right, scope_levels}
use Rattle.registry_tables.proofs.levels.load_scope_packages.Goals as goal

pub returns : goal.returns
returns g c =
    let old = c.args.tx.now in
    let asked = c.load_caller_role.new.tx in
    let who = c.args.caller.now in
    let o = c.args.organisation.now in
    let ps = c.in_ok-packages.packages.items in
    let is = c.in_ok-role.role in
    let role = found_and g.S.Store old c.load_scope_statuses.new.tx asked _ _ c.in_ok-packages.ensures c.in_ok-role.ensures in
    finds_so g.S.Store old c.with_levels.new.tx c.with_levels.result (λ d _ it sound.
    let first = it.0 in
    it.1 sound (listed_right d who is o ps first.0 first.1) ∙ scope_levels d who is o ps first.0)
    (found_and g.S.Store old asked c.with_levels.new.tx _ c.with_levels.result role c.with_levels.ensures)
