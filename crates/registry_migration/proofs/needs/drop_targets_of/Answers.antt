use Rattle.std.proofs.Common.{◌∙◌, ap, arith, take_all}
use Rattle.registry_rows.proofs.QuietFacts.{stays_then}
use Rattle.registry_tables.specs.Effects.{stored_in}
use Rattle.registry_migration.specs.Steps.{version_key, without_targets}
use Rattle.registry_migration.proofs.NeedFacts.{targets_next}
use Rattle.registry_migration.proofs.needs.drop_targets_of.Goals as goal

pub drop_target-requires : goal.drop_target-requires
drop_target-requires g c = record { in_form = λ clean on. (c.loop-need.invariant.made clean).ready }

pub loop-need-preserved : goal.loop-need-preserved
loop-need-preserved g c = record {
  stays = stays_then g.S.Store c.args.tx.now c.loop-need.tx c.drop_target.new.tx c.loop-need.invariant.stays c.drop_target.ensures.stays;
  made = λ clean.
      let before = c.loop-need.invariant.made (omega (arith, c.drop_target.ensures.stays.survives.clean, clean)) in
      let it = rw (c.as_str.ensures.text, c.as_str-in-loop-need.ensures.text, c.as_str-in-loop-need-2.ensures.text) at c.in_ok-drop_target.ensures.makes clean in
      record {
        holds = targets_next (version_key c.args.version.now) c.args.needs.now c.loop-need.need-index c.need-item.result (stored_in g.S.Store c.args.tx.now) (stored_in g.S.Store c.loop-need.tx) (stored_in g.S.Store c.drop_target.new.tx)
            c.loop-need-test.true c.need-item.is before.holds it.holds;
        ready = it.ready;
        mode = it.mode;
      };
}

pub returns-clause-makes : goal.returns-clause-makes
returns-clause-makes g c clean =
    let it = c.loop-need.invariant.made clean in
    record {
      holds = it.holds ∙ ap (λ needs. record (stored_in g.S.Store c.args.tx.now) { needs = without_targets (stored_in g.S.Store c.args.tx.now).needs (version_key c.args.version.now) needs }) (take_all c.loop-need.need-index c.args.needs.now c.loop-need-test.false);
      ready = it.ready;
      mode = it.mode;
    }
