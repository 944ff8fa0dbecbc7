use Rattle.registry_tables.proofs.Words.{◌∙◌, ap, readable}
use Rattle.registry_tables.proofs.InsideFacts.{finds_so, found_and}
use Rattle.registry_tables.proofs.team_packages.load_team_packages.Goals as goal

pub returns : goal.returns
returns g c = finds_so g.S.Store c.args.tx.now c.read_by.new.tx c.read_by.result (λ d _ it sound. it.1 sound ∙ ap (readable d c.args.caller.now) it.0)
    (found_and g.S.Store c.args.tx.now c.load_team_grants.new.tx c.read_by.new.tx _ c.read_by.result c.in_ok-granted.ensures c.read_by.ensures)
