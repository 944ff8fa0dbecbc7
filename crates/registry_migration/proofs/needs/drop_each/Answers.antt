use Rattle.std.proofs.Common.{◌∙◌, ap, arith, map, refl, subst, sym, take_all}
use Rattle.sqlite.specs.State.{HasCleanDisk}
use Rattle.registry_rows.proofs.QuietFacts.{stays_then}
use Rattle.registry_tables.specs.Effects.{shown, stored_in}
use Rattle.registry_migration.specs.Steps.{HasDropped, target_key}
use Rattle.registry_migration.proofs.KeyFacts.{next_taken}
use Rattle.registry_migration.proofs.StayFacts.{stays_here}
use Rattle.registry_migration.proofs.NeedFacts.{all_dropped, none_dropped, one_dropped}
use Rattle.registry_migration.proofs.needs.drop_each.Goals as goal

pub loop-target-init : goal.loop-target-init
loop-target-init g c = record {
  stays = stays_here g.S.Store c.args.tx.now;
  leaves = c.requires.under_way;
  dropped = λ clean. none_dropped (stored_in g.S.Store c.args.tx.now);
}

pub drop_target-requires : goal.drop_target-requires
drop_target-requires g c = record { in_form = λ clean on. (c.loop-target.invariant.leaves clean).ready }

pub loop-target-preserved : goal.loop-target-preserved
loop-target-preserved g c = record {
  stays = stays_then g.S.Store c.args.tx.now c.loop-target.tx c.drop_target.new.tx c.loop-target.invariant.stays c.drop_target.ensures.stays;
  leaves = λ clean. let it = c.in_ok-drop_target.ensures.makes clean in record { holds = refl; ready = it.ready; mode = it.mode };
  dropped = λ clean.
      let before : HasCleanDisk (shown g.S.Store c.loop-target.tx) = omega (arith, c.drop_target.ensures.stays.survives.clean, clean) in
      let so_far = c.loop-target.invariant.dropped before in
      let made = rw (c.as_str.ensures.text, c.as_str-in-loop-target.ensures.text, c.as_str-in-loop-target-2.ensures.text) at c.in_ok-drop_target.ensures.makes clean in
      subst (λ ks. HasDropped ks (stored_in g.S.Store c.args.tx.now) (stored_in g.S.Store c.drop_target.new.tx))
      (sym (next_taken target_key c.args.targets.now c.loop-target.target-index c.target-item.result c.loop-target-test.true c.target-item.is))
      (one_dropped _ _ (stored_in g.S.Store c.args.tx.now) (stored_in g.S.Store c.loop-target.tx) (stored_in g.S.Store c.drop_target.new.tx) so_far made.holds);
}

pub returns-clause-makes : goal.returns-clause-makes
returns-clause-makes g c clean =
    let first : HasCleanDisk (shown g.S.Store c.args.tx.now) = omega (arith, c.loop-target.invariant.stays.survives.clean, clean) in
    let is_all = ap (map target_key) (take_all c.loop-target.target-index c.args.targets.now c.loop-target-test.false) ∙ c.requires.all first in
    let it = c.loop-target.invariant.leaves clean in
    record {
      holds = all_dropped (stored_in g.S.Store c.args.tx.now) (stored_in g.S.Store c.loop-target.tx) (subst (λ ks. HasDropped ks (stored_in g.S.Store c.args.tx.now) (stored_in g.S.Store c.loop-target.tx)) is_all (c.loop-target.invariant.dropped clean));
      ready = it.ready;
      mode = it.mode;
    }
