use Rattle.std.proofs.Common.{◌∙◌, ap, arith, map, subst, sym, take_all}
use Rattle.sqlite.specs.State.{HasCleanDisk}
use Rattle.registry_rows.proofs.QuietFacts.{stays_then}
use Rattle.registry_tables.specs.Effects.{shown, stored_in}
use Rattle.registry_migration.specs.Steps.{HasPut, version_key}
use Rattle.registry_migration.proofs.NeedFacts.{all_put, none_put, one_put}
use Rattle.registry_migration.proofs.KeyFacts.{next_taken}
use Rattle.registry_migration.proofs.StayFacts.{stays_here}
use Rattle.registry_migration.proofs.needs.put_each.Goals as goal

pub loop-version-init : goal.loop-version-init
loop-version-init g c = record {
  stays = stays_here g.S.Store c.args.tx.now;
  leaves = c.requires.under_way;
  put = λ clean. none_put (stored_in g.S.Store c.args.tx.now) (c.requires.none clean);
}

pub put_ranges_of-requires : goal.put_ranges_of-requires
put_ranges_of-requires g c = record { under_way = c.loop-version.invariant.leaves }

pub loop-version-preserved : goal.loop-version-preserved
loop-version-preserved g c = record {
  stays = stays_then g.S.Store c.args.tx.now c.loop-version.tx c.put_ranges_of.new.tx c.loop-version.invariant.stays c.put_ranges_of.ensures.stays;
  leaves = λ clean. (c.in_ok-put_ranges_of.ensures.put clean).0;
  put = λ clean.
      let before : HasCleanDisk (shown g.S.Store c.loop-version.tx) = omega (arith, c.put_ranges_of.ensures.stays.survives.clean, clean) in
      let so_far = c.loop-version.invariant.put before in
      let one = (c.in_ok-put_ranges_of.ensures.put clean).1 in
      subst (λ ks. HasPut ks (stored_in g.S.Store c.args.tx.now) (stored_in g.S.Store c.put_ranges_of.new.tx))
      (sym (next_taken version_key c.args.versions.now c.loop-version.version-index c.version-item.result c.loop-version-test.true c.version-item.is))
      (one_put _ _ (stored_in g.S.Store c.args.tx.now) (stored_in g.S.Store c.loop-version.tx) (stored_in g.S.Store c.put_ranges_of.new.tx) so_far one);
}

pub returns-clause-put : goal.returns-clause-put
returns-clause-put g c clean =
    let first : HasCleanDisk (shown g.S.Store c.args.tx.now) = omega (arith, c.loop-version.invariant.stays.survives.clean, clean) in
    let is_all = ap (map version_key) (take_all c.loop-version.version-index c.args.versions.now c.loop-version-test.false) ∙ c.requires.all first in
    (c.loop-version.invariant.leaves clean, all_put (stored_in g.S.Store c.args.tx.now) (stored_in g.S.Store c.loop-version.tx) (subst (λ ks. HasPut ks (stored_in g.S.Store c.args.tx.now) (stored_in g.S.Store c.loop-version.tx)) is_all (c.loop-version.invariant.put clean)))
