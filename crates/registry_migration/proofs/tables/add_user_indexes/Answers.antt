use Rattle.registry_rows.proofs.QuietFacts.{on_answer, stays_then}
use Rattle.registry_tables.specs.Creation.{creation}
use Rattle.registry_tables.specs.Effects.{shown}
use Rattle.registry_migration.proofs.CreationFacts.{user_indexes_added}
use Rattle.registry_migration.proofs.tables.add_user_indexes.Goals as goal

pub returns-clause-made : goal.returns-clause-made
unfolding creation
returns-clause-made g c clean = on_answer c.write-4.result
    (λ wrote. user_indexes_added (shown g.S.Store c.args.tx.now) (shown g.S.Store c.write.new.tx) (shown g.S.Store c.write-2.new.tx) (shown g.S.Store c.write-3.new.tx) (shown g.S.Store c.write-4.new.tx)
    c.requires.lacking c.in_ok-write.ensures.wrote c.in_ok-write-2.ensures.wrote c.in_ok-write-3.ensures.wrote wrote clean)
    c.write-4.ensures.wrote

pub returns-clause-stays : goal.returns-clause-stays
returns-clause-stays g c =
    stays_then g.S.Store c.args.tx.now c.write-3.new.tx c.write-4.new.tx
    (stays_then g.S.Store c.args.tx.now c.write-2.new.tx c.write-3.new.tx (stays_then g.S.Store c.args.tx.now c.write.new.tx c.write-2.new.tx c.write.ensures.stays c.write-2.ensures.stays) c.write-3.ensures.stays)
    c.write-4.ensures.stays
