use Rattle.std.proofs.Common.{SFits, ap, arith, refl, rules, w64}
use Rattle.std.proofs.lemmas.Int.{to_z-of_z}
use Rattle.sqlite.specs.Effect.{Database}
use Rattle.sqlite.specs.State.{HasCleanDisk}
use Rattle.registry_rows.proofs.QuietFacts.{on_answer, stays_then}
use Rattle.registry_tables.specs.Contents.{contents}
use Rattle.registry_tables.specs.Effects.{shown, stored_in}
use Rattle.registry_tables.proofs.InsideFacts.{given_by, known_after, known_read, makes_may}
use Rattle.registry_migration.specs.Steps.{version_key}
use Rattle.registry_migration.proofs.ArchiveFacts.{held_as, moves_one}
use Rattle.registry_migration.proofs.archives.move_archive.Goals as goal

pub load_row_archive-requires : goal.load_row_archive-requires
load_row_archive-requires g c = record { in_form = λ clean on. (c.requires.under_way clean).ready }

pub clear_row_archive-requires : goal.clear_row_archive-requires
clear_row_archive-requires g c =
    let read = c.load_row_archive.new.tx in
    let stored = c.store_archive.new.tx in
    let known = known_read g.S.Store c.args.tx.now read c.load_row_archive.ensures.stays (λ clean. (c.in_ok-archive.ensures.loads clean).0) (λ clean. (c.requires.under_way clean).mode) c.in_ok-archive.ensures.ran in
    let store = given_by g.S.Store read stored _ known (makes_may g.S.Store read stored _ c.in_ok-number.ensures) in
    let hold = given_by g.S.Store stored c.hold_archive.new.tx _ (known_after g.S.Store read stored _ c.in_ok-number.ensures.ran store) (makes_may g.S.Store stored c.hold_archive.new.tx _ c.in_ok-hold_archive.ensures) in
    record { in_form = λ clean on. (hold.makes clean).ready }

pub returns-in_err-number-clause-stays : goal.returns-in_err-number-clause-stays
returns-in_err-number-clause-stays g c =
    let read = c.load_row_archive.new.tx in
    let stored = c.store_archive.new.tx in
    let known = known_read g.S.Store c.args.tx.now read c.load_row_archive.ensures.stays (λ clean. (c.in_ok-archive.ensures.loads clean).0) (λ clean. (c.requires.under_way clean).mode) c.in_ok-archive.ensures.ran in
    let store = given_by g.S.Store read stored _ known (makes_may g.S.Store read stored _ c.store_archive.ensures) in
    stays_then g.S.Store c.args.tx.now read stored c.load_row_archive.ensures.stays store.stays

pub returns-in_err-hold_archive-clause-stays : goal.returns-in_err-hold_archive-clause-stays
returns-in_err-hold_archive-clause-stays g c =
    let old = c.args.tx.now in
    let read = c.load_row_archive.new.tx in
    let stored = c.store_archive.new.tx in
    let known = known_read g.S.Store old read c.load_row_archive.ensures.stays (λ clean. (c.in_ok-archive.ensures.loads clean).0) (λ clean. (c.requires.under_way clean).mode) c.in_ok-archive.ensures.ran in
    let store = given_by g.S.Store read stored _ known (makes_may g.S.Store read stored _ c.in_ok-number.ensures) in
    let hold = given_by g.S.Store stored c.hold_archive.new.tx _ (known_after g.S.Store read stored _ c.in_ok-number.ensures.ran store) (makes_may g.S.Store stored c.hold_archive.new.tx _ c.hold_archive.ensures) in
    stays_then g.S.Store old stored c.hold_archive.new.tx (stays_then g.S.Store old read stored c.load_row_archive.ensures.stays store.stays) hold.stays

pub returns-clause-stays : goal.returns-clause-stays
returns-clause-stays g c =
    let old = c.args.tx.now in
    let read = c.load_row_archive.new.tx in
    let stored = c.store_archive.new.tx in
    let held = c.hold_archive.new.tx in
    let known = known_read g.S.Store old read c.load_row_archive.ensures.stays (λ clean. (c.in_ok-archive.ensures.loads clean).0) (λ clean. (c.requires.under_way clean).mode) c.in_ok-archive.ensures.ran in
    let store = given_by g.S.Store read stored _ known (makes_may g.S.Store read stored _ c.in_ok-number.ensures) in
    let hold = given_by g.S.Store stored held _ (known_after g.S.Store read stored _ c.in_ok-number.ensures.ran store) (makes_may g.S.Store stored held _ c.in_ok-hold_archive.ensures) in
    stays_then g.S.Store old held c.clear_row_archive.new.tx
    (stays_then g.S.Store old stored held (stays_then g.S.Store old read stored c.load_row_archive.ensures.stays store.stays) hold.stays)
    c.clear_row_archive.ensures.stays

pub returns-clause-moved : goal.returns-clause-moved
returns-clause-moved g c clean =
    let read = c.load_row_archive.new.tx in
    let stored = c.store_archive.new.tx in
    let held = c.hold_archive.new.tx in
    let known = known_read g.S.Store c.args.tx.now read c.load_row_archive.ensures.stays (λ clean. (c.in_ok-archive.ensures.loads clean).0) (λ clean. (c.requires.under_way clean).mode) c.in_ok-archive.ensures.ran in
    let store = given_by g.S.Store read stored _ known (makes_may g.S.Store read stored _ (rw (c.as_str.ensures.text, c.as_slice-2.ensures) at c.in_ok-number.ensures)) in
    let hold = given_by g.S.Store stored held _ (known_after g.S.Store read stored _ c.in_ok-number.ensures.ran store) (makes_may g.S.Store stored held _ (rw (c.as_str-2.ensures.text, c.as_str-3.ensures.text) at c.in_ok-hold_archive.ensures)) in
    let clean_held : HasCleanDisk (shown g.S.Store held) = omega (arith, c.clear_row_archive.ensures.stays.survives.clean, clean) in
    let clean_stored : HasCleanDisk (shown g.S.Store stored) = omega (arith, hold.stays.survives.clean, clean_held) in
    let clean_read : HasCleanDisk (shown g.S.Store read) = omega (arith, store.stays.survives.clean, clean_stored) in
    let told = c.in_ok-archive.ensures.loads clean_read in
    let whole = rw c.as_slice.ensures at c.in_ok-integrity.ensures.ok in
    let fits : SFits w64 c.in_ok-number.number = search rules in
    let put = held_as (stored_in g.S.Store stored) (stored_in g.S.Store held) _ _ c.args.version.now.package c.args.version.now.version _ c.in_ok-number.number
    refl refl (to_z-of_z w64 c.in_ok-number.number fits) (hold.makes clean_held).holds in
    on_answer c.clear_row_archive.result
    (λ left. (
      record { holds = refl; ready = left.ready; mode = left.mode },
      moves_one (version_key c.args.version.now) _ _ _ (stored_in g.S.Store c.args.tx.now) (stored_in g.S.Store read) (stored_in g.S.Store stored) (stored_in g.S.Store held) (stored_in g.S.Store c.clear_row_archive.new.tx)
          (ap (λ (d : Database). contents d.trees) told.0.same) told.1 whole
          (store.makes clean_stored).holds (store.told clean_stored) (hold.told clean_held) put left.holds,
    ))
    (c.clear_row_archive.ensures.makes clean)
