use Rattle.registry_desk.proofs.Words.{Leaves, contents, fresh, schema, shown}
use Rattle.registry_tables.specs.Opening.{HasCreated}
use Rattle.registry_desk.proofs.AdoptedFacts.{created_open, creates, finds_ours}
use Rattle.registry_desk.proofs.OpenedFacts.{both_ok}
use Rattle.registry_desk.proofs.open.settle_inside.Goals as goal

pub check_rows-requires : goal.check_rows-requires
check_rows-requires g c = record { in_form = rw c.in-Ours.is at c.requires.ready; going = c.requires.going }

pub migrate_rows-requires : goal.migrate_rows-requires
migrate_rows-requires g c = record { older = rw c.in-Older.is at c.requires.ready }

pub returns-in-Empty-clause-made : goal.returns-in-Empty-clause-made
returns-in-Empty-clause-made g c clean =
    let old = shown g.S.Store c.args.tx.now in
    let new = shown g.S.Store c.create.new.tx in
    rw c.in-Empty.is (both_ok c.create.result
    (λ (left : Leaves schema contents fresh new) (created : HasCreated g.S.Store c.args.tx.now c.create.new.tx). creates old new (created_open g.S.Store c.args.tx.now c.create.new.tx created clean) left)
    (c.create.ensures.made (rw c.in-Empty.is at c.requires.ready) clean) c.create.ensures.created)

pub returns-in-Ours-clause-made : goal.returns-in-Ours-clause-made
returns-in-Ours-clause-made g c clean =
    rw c.in-Ours.is (both_ok c.check_rows.result (finds_ours (shown g.S.Store c.args.tx.now) (shown g.S.Store c.check_rows.new.tx) c.requires.going) (c.check_rows.ensures.reads clean) (c.check_rows.ensures.ours clean))

pub returns-in-Older-clause-made : goal.returns-in-Older-clause-made
returns-in-Older-clause-made g c = rw c.in-Older.is c.migrate_rows.ensures.made
