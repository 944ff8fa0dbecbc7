use Rattle.std.proofs.Common.{arith}
use Rattle.sqlite.specs.State.{HasCleanDisk}
use Rattle.registry_rows.proofs.QuietFacts.{on_answer, stays_then}
use Rattle.registry_tables.specs.Creation.{creation}
use Rattle.registry_tables.specs.Effects.{shown}
use Rattle.registry_migration.specs.Older.{contents_2}
use Rattle.registry_migration.proofs.CreationFacts.{leaves_then, ranges_added}
use Rattle.registry_migration.proofs.tables.add_ranges.Goals as goal

pub add_user_indexes-requires : goal.add_user_indexes-requires
unfolding creation
add_user_indexes-requires g c = record {
  lacking = λ clean _.
      (ranges_added (shown g.S.Store c.args.tx.now) (shown g.S.Store c.write.new.tx) (shown g.S.Store c.write-2.new.tx) (shown g.S.Store c.write-3.new.tx) c.requires.second c.in_ok-write.ensures.wrote c.in_ok-write-2.ensures.wrote c.in_ok-write-3.ensures.wrote clean).ready;
}

pub returns-clause-made : goal.returns-clause-made
unfolding creation
returns-clause-made g c clean =
    let between : HasCleanDisk (shown g.S.Store c.write-3.new.tx) = omega (arith, c.add_user_indexes.ensures.stays.survives.clean, clean) in
    on_answer c.add_user_indexes.result
    (leaves_then (contents_2 (shown g.S.Store c.args.tx.now).now.trees) (shown g.S.Store c.write-3.new.tx) (shown g.S.Store c.add_user_indexes.new.tx)
    (ranges_added (shown g.S.Store c.args.tx.now) (shown g.S.Store c.write.new.tx) (shown g.S.Store c.write-2.new.tx) (shown g.S.Store c.write-3.new.tx) c.requires.second c.in_ok-write.ensures.wrote c.in_ok-write-2.ensures.wrote c.in_ok-write-3.ensures.wrote between))
    (c.add_user_indexes.ensures.made clean)

pub returns-clause-stays : goal.returns-clause-stays
returns-clause-stays g c =
    stays_then g.S.Store c.args.tx.now c.write-3.new.tx c.add_user_indexes.new.tx
    (stays_then g.S.Store c.args.tx.now c.write-2.new.tx c.write-3.new.tx (stays_then g.S.Store c.args.tx.now c.write.new.tx c.write-2.new.tx c.write.ensures.stays c.write-2.ensures.stays) c.write-3.ensures.stays)
    c.add_user_indexes.ensures.stays
