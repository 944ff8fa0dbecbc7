use Rattle.std.proofs.Common.{ap, arith, refl}
use Rattle.sqlite.specs.Effect.{Database}
use Rattle.sqlite.specs.State.{HasCleanDisk}
use Rattle.registry_rows.proofs.QuietFacts.{on_answer, stays_then}
use Rattle.registry_tables.specs.Contents.{contents}
use Rattle.registry_tables.specs.Effects.{shown, stored_in}
use Rattle.registry_tables.proofs.InsideFacts.{given_by, known_read}
use Rattle.registry_migration.specs.Steps.{version_key}
use Rattle.registry_migration.proofs.NeedFacts.{puts_one}
use Rattle.registry_migration.proofs.needs.put_ranges_of.Goals as goal

pub load_manifest-requires : goal.load_manifest-requires
load_manifest-requires g c = record { in_form = λ clean on. (c.requires.under_way clean).ready }

pub drop_targets_of-requires : goal.drop_targets_of-requires
drop_targets_of-requires g c =
    let read = c.load_manifest.new.tx in
    let known = known_read g.S.Store c.args.tx.now read c.load_manifest.ensures.stays (λ clean. (c.in_ok-manifest.ensures.loads clean).0) (λ clean. (c.requires.under_way clean).mode) c.in_ok-manifest.ensures.ran in
    let put = given_by g.S.Store read c.put_needs.new.tx _ known c.in_ok-put_needs.ensures in
    record { under_way = λ clean. let it = put.makes clean in record { holds = refl; ready = it.ready; mode = it.mode } }

pub returns-in_err-put_needs-clause-stays : goal.returns-in_err-put_needs-clause-stays
returns-in_err-put_needs-clause-stays g c =
    let read = c.load_manifest.new.tx in
    let known = known_read g.S.Store c.args.tx.now read c.load_manifest.ensures.stays (λ clean. (c.in_ok-manifest.ensures.loads clean).0) (λ clean. (c.requires.under_way clean).mode) c.in_ok-manifest.ensures.ran in
    let put = given_by g.S.Store read c.put_needs.new.tx _ known c.put_needs.ensures in
    stays_then g.S.Store c.args.tx.now read c.put_needs.new.tx c.load_manifest.ensures.stays put.stays

pub returns-clause-stays : goal.returns-clause-stays
returns-clause-stays g c =
    let old = c.args.tx.now in
    let read = c.load_manifest.new.tx in
    let known = known_read g.S.Store old read c.load_manifest.ensures.stays (λ clean. (c.in_ok-manifest.ensures.loads clean).0) (λ clean. (c.requires.under_way clean).mode) c.in_ok-manifest.ensures.ran in
    let put = given_by g.S.Store read c.put_needs.new.tx _ known c.in_ok-put_needs.ensures in
    stays_then g.S.Store old c.put_needs.new.tx c.drop_targets_of.new.tx (stays_then g.S.Store old read c.put_needs.new.tx c.load_manifest.ensures.stays put.stays) c.drop_targets_of.ensures.stays

pub returns-clause-put : goal.returns-clause-put
returns-clause-put g c clean =
    let read = c.load_manifest.new.tx in
    let known = known_read g.S.Store c.args.tx.now read c.load_manifest.ensures.stays (λ clean. (c.in_ok-manifest.ensures.loads clean).0) (λ clean. (c.requires.under_way clean).mode) c.in_ok-manifest.ensures.ran in
    let put = given_by g.S.Store read c.put_needs.new.tx _ known (rw (c.deref.ensures.value, c.as_str-2.ensures.text, c.as_str-3.ensures.text) at c.in_ok-put_needs.ensures) in
    let clean_put : HasCleanDisk (shown g.S.Store c.put_needs.new.tx) = omega (arith, c.drop_targets_of.ensures.stays.survives.clean, clean) in
    let clean_read : HasCleanDisk (shown g.S.Store read) = omega (arith, put.stays.survives.clean, clean_put) in
    let told = c.in_ok-manifest.ensures.loads clean_read in
    on_answer c.drop_targets_of.result
    (λ left. (
      record { holds = refl; ready = left.ready; mode = left.mode },
      puts_one (version_key c.args.version.now) _ _ (stored_in g.S.Store c.args.tx.now) (stored_in g.S.Store read) (stored_in g.S.Store c.put_needs.new.tx) (stored_in g.S.Store c.drop_targets_of.new.tx)
          (ap (λ (d : Database). contents d.trees) told.0.same) told.1 (rw c.as_str.ensures.text at c.in_ok-needs.ensures) (put.makes clean_put).holds left.holds,
    ))
    (rw c.deref-2.ensures.value at c.drop_targets_of.ensures.makes clean)
