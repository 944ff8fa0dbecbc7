use Rattle.std.proofs.Common.{◌∙◌, ap, map}
use Rattle.std.proofs.lemmas.Result.{IfOk-weaker}
use Rattle.registry_check.specs.Rows.{archive_entry, held_entry, integrities, live_entry, need_entry}
use Rattle.registry_names.specs.Maps.{entries}
use Rattle.registry_rows.proofs.QuietFacts.{stays_then}
use Rattle.registry_tables.specs.Contents.{contents}
use Rattle.registry_check.specs.Spelled.{archive_spelled, held_spelled, live_spelled, need_spelled}
use Rattle.registry_check.proofs.LoadFacts.{answered, left, next, still}
use Rattle.registry_check.proofs.QueryFacts.{live_listed, needs_listed, held_listed, archives_listed}
use Rattle.registry_check.proofs.loads.load_versions.Goals as goal

pub returns-in_err-live-clause-stays : goal.returns-in_err-live-clause-stays
returns-in_err-live-clause-stays g c = left g.S.Store live_spelled (λ db. entries (contents db).versions) live_listed c.args.tx.now c.load.new.tx c.requires.in_form c.load.ensures.same_reference c.load.ensures.finds

pub returns-in_err-needs-clause-stays : goal.returns-in_err-needs-clause-stays
returns-in_err-needs-clause-stays g c =
    let one = answered g.S.Store live_spelled (λ db. entries (contents db).versions) live_listed c.args.tx.now c.load.new.tx _ c.requires.in_form c.load.ensures.same_reference c.in_ok-live.ensures.finds in
    stays_then g.S.Store c.args.tx.now c.load.new.tx c.load-2.new.tx one.stays (left g.S.Store need_spelled (λ db. entries (contents db).need_ranges) needs_listed c.load.new.tx c.load-2.new.tx (still g.S.Store c.args.tx.now c.load.new.tx _ one) c.load-2.ensures.same_reference c.load-2.ensures.finds)

pub returns-in_err-held-clause-stays : goal.returns-in_err-held-clause-stays
returns-in_err-held-clause-stays g c =
    let one = answered g.S.Store live_spelled (λ db. entries (contents db).versions) live_listed c.args.tx.now c.load.new.tx _ c.requires.in_form c.load.ensures.same_reference c.in_ok-live.ensures.finds in
    let two = answered g.S.Store need_spelled (λ db. entries (contents db).need_ranges) needs_listed c.load.new.tx c.load-2.new.tx _ (still g.S.Store c.args.tx.now c.load.new.tx _ one) c.load-2.ensures.same_reference c.in_ok-needs.ensures.finds in
    stays_then g.S.Store c.args.tx.now c.load-2.new.tx c.load-3.new.tx (next g.S.Store c.args.tx.now c.load.new.tx c.load-2.new.tx _ _ one two).stays (left g.S.Store held_spelled (λ db. entries (contents db).held) held_listed c.load-2.new.tx c.load-3.new.tx (still g.S.Store c.load.new.tx c.load-2.new.tx _ two) c.load-3.ensures.same_reference c.load-3.ensures.finds)

pub returns-in_err-archives-clause-stays : goal.returns-in_err-archives-clause-stays
returns-in_err-archives-clause-stays g c =
    let one = answered g.S.Store live_spelled (λ db. entries (contents db).versions) live_listed c.args.tx.now c.load.new.tx _ c.requires.in_form c.load.ensures.same_reference c.in_ok-live.ensures.finds in
    let two = answered g.S.Store need_spelled (λ db. entries (contents db).need_ranges) needs_listed c.load.new.tx c.load-2.new.tx _ (still g.S.Store c.args.tx.now c.load.new.tx _ one) c.load-2.ensures.same_reference c.in_ok-needs.ensures.finds in
    let three = answered g.S.Store held_spelled (λ db. entries (contents db).held) held_listed c.load-2.new.tx c.load-3.new.tx _ (still g.S.Store c.load.new.tx c.load-2.new.tx _ two) c.load-3.ensures.same_reference c.in_ok-held.ensures.finds in
    stays_then g.S.Store c.args.tx.now c.load-3.new.tx c.load-4.new.tx (next g.S.Store c.args.tx.now c.load-2.new.tx c.load-3.new.tx _ _ (next g.S.Store c.args.tx.now c.load.new.tx c.load-2.new.tx _ _ one two) three).stays (left g.S.Store archive_spelled (λ db. integrities (contents db).archives) archives_listed c.load-3.new.tx c.load-4.new.tx (still g.S.Store c.load-2.new.tx c.load-3.new.tx _ three) c.load-4.ensures.same_reference c.load-4.ensures.finds)

pub returns : goal.returns
returns g c =
    let one = answered g.S.Store live_spelled (λ db. entries (contents db).versions) live_listed c.args.tx.now c.load.new.tx _ c.requires.in_form c.load.ensures.same_reference c.in_ok-live.ensures.finds in
    let two = answered g.S.Store need_spelled (λ db. entries (contents db).need_ranges) needs_listed c.load.new.tx c.load-2.new.tx _ (still g.S.Store c.args.tx.now c.load.new.tx _ one) c.load-2.ensures.same_reference c.in_ok-needs.ensures.finds in
    let three = answered g.S.Store held_spelled (λ db. entries (contents db).held) held_listed c.load-2.new.tx c.load-3.new.tx _ (still g.S.Store c.load.new.tx c.load-2.new.tx _ two) c.load-3.ensures.same_reference c.in_ok-held.ensures.finds in
    let four = answered g.S.Store archive_spelled (λ db. integrities (contents db).archives) archives_listed c.load-3.new.tx c.load-4.new.tx _ (still g.S.Store c.load-2.new.tx c.load-3.new.tx _ three) c.load-4.ensures.same_reference c.in_ok-archives.ensures.finds in
    let all = next g.S.Store c.args.tx.now c.load-3.new.tx c.load-4.new.tx _ _ (next g.S.Store c.args.tx.now c.load-2.new.tx c.load-3.new.tx _ _ (next g.S.Store c.args.tx.now c.load.new.tx c.load-2.new.tx _ _ one two) three) four in
    record {
      stays = all.stays;
      loads = λ clean. let r = all.reads clean in IfOk-weaker c.new.result _ _ (λ rows e. (r.0, record { live = ap (map live_entry) e.0 ∙ r.1.0.0.0; needs = ap (map need_entry) e.1 ∙ r.1.0.0.1; held = ap (map held_entry) e.2 ∙ r.1.0.1; archives = ap (map archive_entry) e.3 ∙ r.1.1 })) c.new.ensures;
    }
