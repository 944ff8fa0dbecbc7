use Rattle.std.proofs.Common.{◌∙◌, ap, arith, refl, subst, sym}
use Rattle.sqlite.specs.Effect.{Database}
use Rattle.sqlite.specs.State.{HasCleanDisk}
use Rattle.registry_names.specs.Maps.{at}
use Rattle.registry_rows.proofs.QuietFacts.{on_answer, stays_then}
use Rattle.registry_tables.specs.Contents.{Contents, contents}
use Rattle.registry_tables.specs.Effects.{shown, stored_in}
use Rattle.registry_tables.specs.Fresh.{CountsArchivesAlone, schema_key}
use Rattle.registry_tables.proofs.InsideFacts.{on_any}
use Rattle.registry_migration.specs.Older.{contents_of}
use Rattle.registry_migration.specs.Steps.{HasNoneMoved}
use Rattle.registry_migration.proofs.MigrationFacts.{migrated, none_moved_yet, number_kept, readable, still_no_ranges}
use Rattle.registry_migration.proofs.migration.migrate.Goals as goal

pub check_number-requires : goal.check_number-requires
check_number-requires g c = record { in_form = λ clean on. (c.in_ok-add_tables.ensures.made clean).ready; going = λ clean. (c.in_ok-add_tables.ensures.made clean).mode }

pub move_archives-requires : goal.move_archives-requires
move_archives-requires g c = record {
  under_way = λ clean.
      let made = c.in_ok-add_tables.ensures.made (omega (arith, c.check_number.ensures.stays.survives.clean, clean)) in
      let reads = c.in_ok-check_number.ensures.reads clean in
      record { holds = refl; ready = reads.ready; mode = reads.mode ∙ made.mode };
  none = λ clean.
      let made = c.in_ok-add_tables.ensures.made (omega (arith, c.check_number.ensures.stays.survives.clean, clean)) in
      let reads = c.in_ok-check_number.ensures.reads clean in
      let is = ap (λ (d : Database). contents d.trees) reads.same ∙ made.holds in
      subst (HasNoneMoved c.args.older) (sym is) (none_moved_yet c.args.older (shown g.S.Store c.args.tx.now).now.trees);
}

pub put_ranges-requires : goal.put_ranges-requires
put_ranges-requires g c = record {
  under_way = λ clean. (c.in_ok-move_archives.ensures.moved clean).0;
  none = λ clean.
      let checked : HasCleanDisk (shown g.S.Store c.check_number.new.tx) = omega (arith, c.move_archives.ensures.stays.survives.clean, clean) in
      let made = c.in_ok-add_tables.ensures.made (omega (arith, c.check_number.ensures.stays.survives.clean, checked)) in
      let reads = c.in_ok-check_number.ensures.reads checked in
      still_no_ranges c.args.older (shown g.S.Store c.args.tx.now).now.trees (stored_in g.S.Store c.check_number.new.tx) (stored_in g.S.Store c.move_archives.new.tx)
      (ap (λ (d : Database). contents d.trees) reads.same ∙ made.holds) (c.in_ok-move_archives.ensures.moved clean).1;
}

pub drop_targets-requires : goal.drop_targets-requires
drop_targets-requires g c = record { under_way = λ clean. (c.in_ok-put_ranges.ensures.put clean).0 }

pub put_number-requires : goal.put_number-requires
put_number-requires g c = record {
  in_form = λ clean on. (c.in_ok-drop_targets.ensures.makes clean).ready;
  numbered = λ clean.
      let put : HasCleanDisk (shown g.S.Store c.put_ranges.new.tx) = omega (arith, c.drop_targets.ensures.stays.survives.clean, clean) in
      let moved : HasCleanDisk (shown g.S.Store c.move_archives.new.tx) = omega (arith, c.put_ranges.ensures.stays.survives.clean, put) in
      let checked : HasCleanDisk (shown g.S.Store c.check_number.new.tx) = omega (arith, c.move_archives.ensures.stays.survives.clean, moved) in
      let reads = c.in_ok-check_number.ensures.reads checked in
      number_kept c.args.older (stored_in g.S.Store c.add_tables.new.tx) (stored_in g.S.Store c.check_number.new.tx) (stored_in g.S.Store c.move_archives.new.tx) (stored_in g.S.Store c.put_ranges.new.tx) (stored_in g.S.Store c.drop_targets.new.tx)
      (ap (λ (d : Database). contents d.trees) reads.same) (c.in_ok-move_archives.ensures.moved moved).1 (c.in_ok-put_ranges.ensures.put put).1 (c.in_ok-drop_targets.ensures.makes clean).holds (c.in_ok-check_number.ensures.numbered checked);
}

-- up to the call that fails
pub returns-in_err-move_archives-clause-stays : goal.returns-in_err-move_archives-clause-stays
returns-in_err-move_archives-clause-stays g c =
    let old = c.args.tx.now in
    let added = c.add_tables.new.tx in
    let checked = c.check_number.new.tx in
    let moved = c.move_archives.new.tx in
    stays_then g.S.Store old checked moved (stays_then g.S.Store old added checked c.add_tables.ensures.stays c.check_number.ensures.stays) c.move_archives.ensures.stays

pub returns-in_err-put_ranges-clause-stays : goal.returns-in_err-put_ranges-clause-stays
returns-in_err-put_ranges-clause-stays g c =
    let old = c.args.tx.now in
    let added = c.add_tables.new.tx in
    let checked = c.check_number.new.tx in
    let moved = c.move_archives.new.tx in
    let put = c.put_ranges.new.tx in
    stays_then g.S.Store old moved put
    (stays_then g.S.Store old checked moved (stays_then g.S.Store old added checked c.add_tables.ensures.stays c.check_number.ensures.stays) c.move_archives.ensures.stays)
    c.put_ranges.ensures.stays

pub returns-in_err-drop_targets-clause-stays : goal.returns-in_err-drop_targets-clause-stays
returns-in_err-drop_targets-clause-stays g c =
    let old = c.args.tx.now in
    let added = c.add_tables.new.tx in
    let checked = c.check_number.new.tx in
    let moved = c.move_archives.new.tx in
    let put = c.put_ranges.new.tx in
    let dropped = c.drop_targets.new.tx in
    stays_then g.S.Store old put dropped
    (stays_then g.S.Store old moved put
    (stays_then g.S.Store old checked moved (stays_then g.S.Store old added checked c.add_tables.ensures.stays c.check_number.ensures.stays) c.move_archives.ensures.stays)
    c.put_ranges.ensures.stays)
    c.drop_targets.ensures.stays

pub returns-clause-stays : goal.returns-clause-stays
returns-clause-stays g c =
    let old = c.args.tx.now in
    let added = c.add_tables.new.tx in
    let checked = c.check_number.new.tx in
    let moved = c.move_archives.new.tx in
    let put = c.put_ranges.new.tx in
    let dropped = c.drop_targets.new.tx in
    stays_then g.S.Store old dropped c.put_number.new.tx
    (stays_then g.S.Store old put dropped
    (stays_then g.S.Store old moved put
    (stays_then g.S.Store old checked moved (stays_then g.S.Store old added checked c.add_tables.ensures.stays c.check_number.ensures.stays) c.move_archives.ensures.stays)
    c.put_ranges.ensures.stays)
    c.drop_targets.ensures.stays)
    c.put_number.ensures.stays

pub returns-clause-made : goal.returns-clause-made
returns-clause-made g c clean = on_answer c.put_number.result (λ left. record { holds = refl; ready = left.ready; mode = left.mode }) (c.put_number.ensures.makes clean)

pub returns-clause-migrates : goal.returns-clause-migrates
returns-clause-migrates g c clean =
    let dropped : HasCleanDisk (shown g.S.Store c.drop_targets.new.tx) = omega (arith, c.put_number.ensures.stays.survives.clean, clean) in
    let put : HasCleanDisk (shown g.S.Store c.put_ranges.new.tx) = omega (arith, c.drop_targets.ensures.stays.survives.clean, dropped) in
    let moved : HasCleanDisk (shown g.S.Store c.move_archives.new.tx) = omega (arith, c.put_ranges.ensures.stays.survives.clean, put) in
    let checked : HasCleanDisk (shown g.S.Store c.check_number.new.tx) = omega (arith, c.move_archives.ensures.stays.survives.clean, moved) in
    let made = c.in_ok-add_tables.ensures.made (omega (arith, c.check_number.ensures.stays.survives.clean, checked)) in
    let reads = c.in_ok-check_number.ensures.reads checked in
    on_answer c.put_number.result
    (λ left. migrated c.args.older (contents_of c.args.older (shown g.S.Store c.args.tx.now).now.trees) (stored_in g.S.Store c.check_number.new.tx) (stored_in g.S.Store c.move_archives.new.tx)
    (stored_in g.S.Store c.put_ranges.new.tx) (stored_in g.S.Store c.drop_targets.new.tx) (stored_in g.S.Store c.put_number.new.tx)
    (ap (λ (d : Database). contents d.trees) reads.same ∙ made.holds) (c.in_ok-move_archives.ensures.moved moved).1 (c.in_ok-put_ranges.ensures.put put).1 (c.in_ok-drop_targets.ensures.makes dropped).holds left.holds
    (subst CountsArchivesAlone made.holds (c.in_ok-check_number.ensures.counted checked)))
    (c.put_number.ensures.makes clean)

pub returns-clause-asks : goal.returns-clause-asks
returns-clause-asks g c clean =
    let dropped : HasCleanDisk (shown g.S.Store c.drop_targets.new.tx) = omega (arith, c.put_number.ensures.stays.survives.clean, clean) in
    let put : HasCleanDisk (shown g.S.Store c.put_ranges.new.tx) = omega (arith, c.drop_targets.ensures.stays.survives.clean, dropped) in
    let moved : HasCleanDisk (shown g.S.Store c.move_archives.new.tx) = omega (arith, c.put_ranges.ensures.stays.survives.clean, put) in
    let checked : HasCleanDisk (shown g.S.Store c.check_number.new.tx) = omega (arith, c.move_archives.ensures.stays.survives.clean, moved) in
    let made = c.in_ok-add_tables.ensures.made (omega (arith, c.check_number.ensures.stays.survives.clean, checked)) in
    let reads = c.in_ok-check_number.ensures.reads checked in
    on_answer c.put_number.result
    (λ left. record {
      numbered = sym (ap (λ (x : Contents). at x.meta schema_key) made.holds) ∙ c.in_ok-check_number.ensures.numbered checked;
      readable = readable c.args.older (contents_of c.args.older (shown g.S.Store c.args.tx.now).now.trees) (stored_in g.S.Store c.check_number.new.tx) (stored_in g.S.Store c.move_archives.new.tx) (stored_in g.S.Store c.put_ranges.new.tx)
          (ap (λ (d : Database). contents d.trees) reads.same ∙ made.holds) (c.in_ok-move_archives.ensures.moved moved).1 (c.in_ok-put_ranges.ensures.put put).1;
      counted = subst CountsArchivesAlone made.holds (c.in_ok-check_number.ensures.counted checked);
    })
    (c.put_number.ensures.makes clean)

pub returns-clause-served : goal.returns-clause-served
returns-clause-served g c clean =
    let dropped : HasCleanDisk (shown g.S.Store c.drop_targets.new.tx) = omega (arith, c.put_number.ensures.stays.survives.clean, clean) in
    let put : HasCleanDisk (shown g.S.Store c.put_ranges.new.tx) = omega (arith, c.drop_targets.ensures.stays.survives.clean, dropped) in
    let moved : HasCleanDisk (shown g.S.Store c.move_archives.new.tx) = omega (arith, c.put_ranges.ensures.stays.survives.clean, put) in
    let checked : HasCleanDisk (shown g.S.Store c.check_number.new.tx) = omega (arith, c.move_archives.ensures.stays.survives.clean, moved) in
    let added : HasCleanDisk (shown g.S.Store c.add_tables.new.tx) = omega (arith, c.check_number.ensures.stays.survives.clean, checked) in
    on_any c.put_number.result ((c.add_tables.ensures.stays.committed added).was_open (c.in_ok-check_number.ensures.reads checked).was_open)
