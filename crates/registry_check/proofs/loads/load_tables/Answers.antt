use Rattle.std.proofs.Common.{◌≡◌, arith}
use Rattle.sqlite.specs.State.{State as Shown, HasCleanDisk}
use Rattle.registry_rows.proofs.QuietFacts.{stays_then}
use Rattle.registry_tables.specs.Contents.{contents}
use Rattle.registry_tables.specs.Effects.{shown}
use Rattle.registry_check.specs.Counter.{counter_entry, counter_in}
use Rattle.registry_check.specs.Loaded.{AreGrades, AreGroups, AreMarks, ArePackages, AreTimes, AreVersions}
use Rattle.registry_check.proofs.LoadFacts.{all_tables, then_told}
use Rattle.registry_check.proofs.loads.load_tables.Goals as goal

pub returns-clause-loads : goal.returns-clause-loads
returns-clause-loads g c clean =
    let s0 : Shown = shown g.S.Store c.args.tx.now in
    let s1 : Shown = shown g.S.Store c.load_accounts.new.tx in
    let s2 : Shown = shown g.S.Store c.load_groups.new.tx in
    let s3 : Shown = shown g.S.Store c.load_packages.new.tx in
    let s4 : Shown = shown g.S.Store c.load_versions.new.tx in
    let s5 : Shown = shown g.S.Store c.load_marks.new.tx in
    let s6 : Shown = shown g.S.Store c.load_grades.new.tx in
    let s7 : Shown = shown g.S.Store c.load_times.new.tx in
    let s8 : Shown = shown g.S.Store c.load_counter.new.tx in
    let w7 : HasCleanDisk s7 = omega (arith, c.load_counter.ensures.stays.survives.clean, clean) in
    let w6 : HasCleanDisk s6 = omega (arith, c.load_times.ensures.stays.survives.clean, w7) in
    let w5 : HasCleanDisk s5 = omega (arith, c.load_grades.ensures.stays.survives.clean, w6) in
    let w4 : HasCleanDisk s4 = omega (arith, c.load_marks.ensures.stays.survives.clean, w5) in
    let w3 : HasCleanDisk s3 = omega (arith, c.load_versions.ensures.stays.survives.clean, w4) in
    let w2 : HasCleanDisk s2 = omega (arith, c.load_packages.ensures.stays.survives.clean, w3) in
    let w1 : HasCleanDisk s1 = omega (arith, c.load_groups.ensures.stays.survives.clean, w2) in
    let r1 = c.in_ok-accounts.ensures.loads w1 in
    let r2 = then_told s0 s1 s2 (λ db. AreGroups c.in_ok-groups.groups (contents db)) r1.0 (c.in_ok-groups.ensures.loads w2) in
    let r3 = then_told s0 s2 s3 (λ db. ArePackages c.in_ok-packages.packages (contents db)) r2.0 (c.in_ok-packages.ensures.loads w3) in
    let r4 = then_told s0 s3 s4 (λ db. AreVersions c.in_ok-versions.versions (contents db)) r3.0 (c.in_ok-versions.ensures.loads w4) in
    let r5 = then_told s0 s4 s5 (λ db. AreMarks c.in_ok-marks.marks (contents db)) r4.0 (c.in_ok-marks.ensures.loads w5) in
    let r6 = then_told s0 s5 s6 (λ db. AreGrades c.in_ok-grades.grades db) r5.0 (c.in_ok-grades.ensures.loads w6) in
    let r7 = then_told s0 s6 s7 (λ db. AreTimes c.in_ok-times.times db) r6.0 (c.in_ok-times.ensures.loads w7) in
    let r8 = then_told s0 s7 s8 (λ db. counter_entry c.in_ok-counter.counter ≡ counter_in (contents db)) r7.0 (c.in_ok-counter.ensures.loads clean) in
    (r8.0, all_tables c.in_ok-accounts.accounts c.in_ok-groups.groups c.in_ok-packages.packages c.in_ok-versions.versions c.in_ok-marks.marks c.in_ok-grades.grades c.in_ok-times.times c.in_ok-counter.counter s0.now.trees r1.1 r2.1 r3.1 r4.1 r5.1 r6.1 r7.1 r8.1)

pub load_groups-requires : goal.load_groups-requires
load_groups-requires g c = record { in_form = λ clean up. (c.in_ok-accounts.ensures.loads clean).0.ready }

pub load_packages-requires : goal.load_packages-requires
load_packages-requires g c = record { in_form = λ clean up. (c.in_ok-groups.ensures.loads clean).0.ready }

pub load_versions-requires : goal.load_versions-requires
load_versions-requires g c = record { in_form = λ clean up. (c.in_ok-packages.ensures.loads clean).0.ready }

pub load_marks-requires : goal.load_marks-requires
load_marks-requires g c = record { in_form = λ clean up. (c.in_ok-versions.ensures.loads clean).0.ready }

pub load_grades-requires : goal.load_grades-requires
load_grades-requires g c = record { in_form = λ clean up. (c.in_ok-marks.ensures.loads clean).0.ready }

pub load_times-requires : goal.load_times-requires
load_times-requires g c = record { in_form = λ clean up. (c.in_ok-grades.ensures.loads clean).0.ready }

pub returns-in_err-groups-clause-stays : goal.returns-in_err-groups-clause-stays
returns-in_err-groups-clause-stays g c = stays_then g.S.Store c.args.tx.now c.load_accounts.new.tx c.load_groups.new.tx c.load_accounts.ensures.stays c.load_groups.ensures.stays

pub returns-in_err-packages-clause-stays : goal.returns-in_err-packages-clause-stays
returns-in_err-packages-clause-stays g c = stays_then g.S.Store c.args.tx.now c.load_groups.new.tx c.load_packages.new.tx (stays_then g.S.Store c.args.tx.now c.load_accounts.new.tx c.load_groups.new.tx c.load_accounts.ensures.stays c.load_groups.ensures.stays) c.load_packages.ensures.stays

pub returns-in_err-versions-clause-stays : goal.returns-in_err-versions-clause-stays
returns-in_err-versions-clause-stays g c = stays_then g.S.Store c.args.tx.now c.load_packages.new.tx c.load_versions.new.tx (stays_then g.S.Store c.args.tx.now c.load_groups.new.tx c.load_packages.new.tx (stays_then g.S.Store c.args.tx.now c.load_accounts.new.tx c.load_groups.new.tx c.load_accounts.ensures.stays c.load_groups.ensures.stays) c.load_packages.ensures.stays) c.load_versions.ensures.stays

pub returns-in_err-marks-clause-stays : goal.returns-in_err-marks-clause-stays
returns-in_err-marks-clause-stays g c = stays_then g.S.Store c.args.tx.now c.load_versions.new.tx c.load_marks.new.tx (stays_then g.S.Store c.args.tx.now c.load_packages.new.tx c.load_versions.new.tx (stays_then g.S.Store c.args.tx.now c.load_groups.new.tx c.load_packages.new.tx (stays_then g.S.Store c.args.tx.now c.load_accounts.new.tx c.load_groups.new.tx c.load_accounts.ensures.stays c.load_groups.ensures.stays) c.load_packages.ensures.stays) c.load_versions.ensures.stays) c.load_marks.ensures.stays

pub returns-in_err-grades-clause-stays : goal.returns-in_err-grades-clause-stays
returns-in_err-grades-clause-stays g c = stays_then g.S.Store c.args.tx.now c.load_marks.new.tx c.load_grades.new.tx (stays_then g.S.Store c.args.tx.now c.load_versions.new.tx c.load_marks.new.tx (stays_then g.S.Store c.args.tx.now c.load_packages.new.tx c.load_versions.new.tx (stays_then g.S.Store c.args.tx.now c.load_groups.new.tx c.load_packages.new.tx (stays_then g.S.Store c.args.tx.now c.load_accounts.new.tx c.load_groups.new.tx c.load_accounts.ensures.stays c.load_groups.ensures.stays) c.load_packages.ensures.stays) c.load_versions.ensures.stays) c.load_marks.ensures.stays) c.load_grades.ensures.stays

pub returns-in_err-times-clause-stays : goal.returns-in_err-times-clause-stays
returns-in_err-times-clause-stays g c = stays_then g.S.Store c.args.tx.now c.load_grades.new.tx c.load_times.new.tx (stays_then g.S.Store c.args.tx.now c.load_marks.new.tx c.load_grades.new.tx (stays_then g.S.Store c.args.tx.now c.load_versions.new.tx c.load_marks.new.tx (stays_then g.S.Store c.args.tx.now c.load_packages.new.tx c.load_versions.new.tx (stays_then g.S.Store c.args.tx.now c.load_groups.new.tx c.load_packages.new.tx (stays_then g.S.Store c.args.tx.now c.load_accounts.new.tx c.load_groups.new.tx c.load_accounts.ensures.stays c.load_groups.ensures.stays) c.load_packages.ensures.stays) c.load_versions.ensures.stays) c.load_marks.ensures.stays) c.load_grades.ensures.stays) c.load_times.ensures.stays

pub load_counter-requires : goal.load_counter-requires
load_counter-requires g c = record { in_form = λ clean up. (c.in_ok-times.ensures.loads clean).0.ready }

pub returns-in_err-counter-clause-stays : goal.returns-in_err-counter-clause-stays
returns-in_err-counter-clause-stays g c = stays_then g.S.Store c.args.tx.now c.load_times.new.tx c.load_counter.new.tx (stays_then g.S.Store c.args.tx.now c.load_grades.new.tx c.load_times.new.tx (stays_then g.S.Store c.args.tx.now c.load_marks.new.tx c.load_grades.new.tx (stays_then g.S.Store c.args.tx.now c.load_versions.new.tx c.load_marks.new.tx (stays_then g.S.Store c.args.tx.now c.load_packages.new.tx c.load_versions.new.tx (stays_then g.S.Store c.args.tx.now c.load_groups.new.tx c.load_packages.new.tx (stays_then g.S.Store c.args.tx.now c.load_accounts.new.tx c.load_groups.new.tx c.load_accounts.ensures.stays c.load_groups.ensures.stays) c.load_packages.ensures.stays) c.load_versions.ensures.stays) c.load_marks.ensures.stays) c.load_grades.ensures.stays) c.load_times.ensures.stays) c.load_counter.ensures.stays

pub returns-clause-stays : goal.returns-clause-stays
returns-clause-stays g c = stays_then g.S.Store c.args.tx.now c.load_times.new.tx c.load_counter.new.tx (stays_then g.S.Store c.args.tx.now c.load_grades.new.tx c.load_times.new.tx (stays_then g.S.Store c.args.tx.now c.load_marks.new.tx c.load_grades.new.tx (stays_then g.S.Store c.args.tx.now c.load_versions.new.tx c.load_marks.new.tx (stays_then g.S.Store c.args.tx.now c.load_packages.new.tx c.load_versions.new.tx (stays_then g.S.Store c.args.tx.now c.load_groups.new.tx c.load_packages.new.tx (stays_then g.S.Store c.args.tx.now c.load_accounts.new.tx c.load_groups.new.tx c.load_accounts.ensures.stays c.load_groups.ensures.stays) c.load_packages.ensures.stays) c.load_versions.ensures.stays) c.load_marks.ensures.stays) c.load_grades.ensures.stays) c.load_times.ensures.stays) c.load_counter.ensures.stays
