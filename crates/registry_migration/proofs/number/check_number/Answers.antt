use Rattle.std.proofs.Common.{◌∙◌, ap, arith, rules, sym}
use Rattle.sqlite.specs.Effect.{Database}
use Rattle.registry_rows.proofs.QuietFacts.{reads_then, stays_then}
use Rattle.registry_tables.specs.Contents.{contents}
use Rattle.registry_tables.specs.Effects.{shown, stored_in}
use Rattle.registry_tables.specs.Schema.{schema}
use Rattle.sqlite.specs.State.{HasCleanDisk}
use Rattle.registry_tables.proofs.InsideFacts.{finds_reads, finds_stays, has_clean, is_clean}
use Rattle.registry_migration.proofs.StayFacts.{no_more, stays_going}
use Rattle.registry_migration.proofs.number.check_number.Goals as goal

pub returns-in_err-opened-clause-stays : goal.returns-in_err-opened-clause-stays
returns-in_err-opened-clause-stays g c = stays_going g.S.Store c.args.tx.now c.opened.new.tx c.opened.ensures.same_reference c.requires.going c.opened.ensures.committed c.opened.ensures.survives

pub returns-in_err-counts_archives_alone-clause-stays : goal.returns-in_err-counts_archives_alone-clause-stays
returns-in_err-counts_archives_alone-clause-stays g c =
    let opened = c.opened.new.tx in
    let reads = λ (clean : HasCleanDisk (shown g.S.Store opened)). (c.in_ok-opened.ensures.ours c.requires.in_form clean).0 in
    stays_then g.S.Store c.args.tx.now opened c.counts_archives_alone.new.tx
    (stays_going g.S.Store c.args.tx.now opened c.opened.ensures.same_reference c.requires.going c.opened.ensures.committed c.opened.ensures.survives)
    (finds_stays g.S.Store opened c.counts_archives_alone.new.tx _ (λ clean _. (reads clean).ready) (λ clean. (reads clean).mode ∙ c.requires.going (omega (arith, c.opened.ensures.survives.clean, clean))) c.counts_archives_alone.ensures)

pub returns-clause-stays : goal.returns-clause-stays
returns-clause-stays g c =
    let opened = c.opened.new.tx in
    let reads = λ (clean : HasCleanDisk (shown g.S.Store opened)). (c.in_ok-opened.ensures.ours c.requires.in_form clean).0 in
    stays_then g.S.Store c.args.tx.now opened c.counts_archives_alone.new.tx
    (stays_going g.S.Store c.args.tx.now opened c.opened.ensures.same_reference c.requires.going c.opened.ensures.committed c.opened.ensures.survives)
    (finds_stays g.S.Store opened c.counts_archives_alone.new.tx _ (λ clean _. (reads clean).ready) (λ clean. (reads clean).mode ∙ c.requires.going (omega (arith, c.opened.ensures.survives.clean, clean))) c.in_ok-counts_archives_alone.ensures)

pub returns-then-not-branch-clause-stays : goal.returns-then-not-branch-clause-stays
returns-then-not-branch-clause-stays g c =
    let opened = c.opened.new.tx in
    let reads = λ (clean : HasCleanDisk (shown g.S.Store opened)). (c.in_ok-opened.ensures.ours c.requires.in_form clean).0 in
    stays_then g.S.Store c.args.tx.now opened c.counts_archives_alone.new.tx
    (stays_going g.S.Store c.args.tx.now opened c.opened.ensures.same_reference c.requires.going c.opened.ensures.committed c.opened.ensures.survives)
    (finds_stays g.S.Store opened c.counts_archives_alone.new.tx _ (λ clean _. (reads clean).ready) (λ clean. (reads clean).mode ∙ c.requires.going (omega (arith, c.opened.ensures.survives.clean, clean))) c.in_ok-counts_archives_alone.ensures)

pub returns-clause-reads : goal.returns-clause-reads
returns-clause-reads g c clean =
    let opened = c.opened.new.tx in
    let reads = λ (clean : HasCleanDisk (shown g.S.Store opened)). (c.in_ok-opened.ensures.ours c.requires.in_form clean).0 in
    let it = finds_reads g.S.Store opened c.counts_archives_alone.new.tx _ (λ clean _. (reads clean).ready) (λ clean. (reads clean).mode ∙ c.requires.going (omega (arith, c.opened.ensures.survives.clean, clean))) c.in_ok-counts_archives_alone.ensures clean in
    let after : HasCleanDisk (shown g.S.Store opened) = has_clean g.S.Store opened opened (c.counts_archives_alone.ensures.clean (is_clean g.S.Store c.counts_archives_alone.new.tx opened clean)) in
    reads_then schema (shown g.S.Store c.args.tx.now) (shown g.S.Store opened) (shown g.S.Store c.counts_archives_alone.new.tx) (reads after) it.0

pub returns-clause-counted : goal.returns-clause-counted
returns-clause-counted g c clean =
    let opened = c.opened.new.tx in
    let reads = λ (clean : HasCleanDisk (shown g.S.Store opened)). (c.in_ok-opened.ensures.ours c.requires.in_form clean).0 in
    let it = finds_reads g.S.Store opened c.counts_archives_alone.new.tx _ (λ clean _. (reads clean).ready) (λ clean. (reads clean).mode ∙ c.requires.going (omega (arith, c.opened.ensures.survives.clean, clean))) c.in_ok-counts_archives_alone.ensures clean in
    let after : HasCleanDisk (shown g.S.Store opened) = has_clean g.S.Store opened opened (c.counts_archives_alone.ensures.clean (is_clean g.S.Store c.counts_archives_alone.new.tx opened clean)) in
    ap (λ (d : Database). (contents d.trees).counters) (sym (reads after).same) ∙ no_more (stored_in g.S.Store opened).counters (sym it.1 ∙ c.if-not-branch.false)

pub returns-clause-numbered : goal.returns-clause-numbered
returns-clause-numbered g c clean =
    let opened = c.opened.new.tx in
    let after : HasCleanDisk (shown g.S.Store opened) = has_clean g.S.Store opened opened (c.counts_archives_alone.ensures.clean (is_clean g.S.Store c.counts_archives_alone.new.tx opened clean)) in
    let told = (c.in_ok-opened.ensures.ours c.requires.in_form after).1.1 in
    sym told ∙ search rules
