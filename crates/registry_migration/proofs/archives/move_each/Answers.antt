use Rattle.std.proofs.Common.{◌∙◌, ap, arith, map, subst, sym, take_all}
use Rattle.sqlite.specs.State.{HasCleanDisk}
use Rattle.registry_rows.proofs.QuietFacts.{stays_then}
use Rattle.registry_tables.specs.Effects.{shown, stored_in}
use Rattle.registry_migration.specs.Steps.{HasMoved, version_key}
use Rattle.registry_migration.proofs.ArchiveFacts.{all_moved, none_moved, one_moved}
use Rattle.registry_migration.proofs.KeyFacts.{next_taken}
use Rattle.registry_migration.proofs.StayFacts.{stays_here}
use Rattle.registry_migration.proofs.archives.move_each.Goals as goal

pub loop-version-init : goal.loop-version-init
loop-version-init g c = record {
  stays = stays_here g.S.Store c.args.tx.now;
  leaves = c.requires.under_way;
  moved = λ clean. none_moved (stored_in g.S.Store c.args.tx.now) (c.requires.none clean);
}

pub move_archive-requires : goal.move_archive-requires
move_archive-requires g c = record { under_way = c.loop-version.invariant.leaves }

pub loop-version-preserved : goal.loop-version-preserved
loop-version-preserved g c = record {
  stays = stays_then g.S.Store c.args.tx.now c.loop-version.tx c.move_archive.new.tx c.loop-version.invariant.stays c.move_archive.ensures.stays;
  leaves = λ clean. (c.in_ok-move_archive.ensures.moved clean).0;
  moved = λ clean.
      let before : HasCleanDisk (shown g.S.Store c.loop-version.tx) = omega (arith, c.move_archive.ensures.stays.survives.clean, clean) in
      let so_far = c.loop-version.invariant.moved before in
      let one = (c.in_ok-move_archive.ensures.moved clean).1 in
      subst (λ ks. HasMoved ks (stored_in g.S.Store c.args.tx.now) (stored_in g.S.Store c.move_archive.new.tx))
      (sym (next_taken version_key c.args.versions.now c.loop-version.version-index c.version-item.result c.loop-version-test.true c.version-item.is))
      (one_moved _ _ (stored_in g.S.Store c.args.tx.now) (stored_in g.S.Store c.loop-version.tx) (stored_in g.S.Store c.move_archive.new.tx) so_far one);
}

pub returns-clause-moved : goal.returns-clause-moved
returns-clause-moved g c clean =
    let first : HasCleanDisk (shown g.S.Store c.args.tx.now) = omega (arith, c.loop-version.invariant.stays.survives.clean, clean) in
    let is_all = ap (map version_key) (take_all c.loop-version.version-index c.args.versions.now c.loop-version-test.false) ∙ c.requires.all first in
    (c.loop-version.invariant.leaves clean, all_moved (stored_in g.S.Store c.args.tx.now) (stored_in g.S.Store c.loop-version.tx) (subst (λ ks. HasMoved ks (stored_in g.S.Store c.args.tx.now) (stored_in g.S.Store c.loop-version.tx)) is_all (c.loop-version.invariant.moved clean)))
