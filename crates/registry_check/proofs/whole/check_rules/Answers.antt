use Rattle.std.proofs.Common.{◌≡◌, ◌∙◌, ◌++◌, ap, ap₂, arith, map, sym, List}
use Rattle.sqlite.specs.Effect.{Database}
use Rattle.sqlite.specs.State.{HasCleanDisk}
use Rattle.registry_rows.specs.KeyKinds.{NumberMap}
use Rattle.registry_rows.proofs.QuietFacts.{stays_then}
use Rattle.registry_tables.specs.Contents.{Archive, Contents, contents}
use Rattle.registry_tables.specs.Effects.{shown, stored_in}
use Rattle.registry_tables.proofs.EffectFacts.{reads_as_before}
use Rattle.registry_check.specs.Problems.{archive_problems, problems}
use Rattle.registry_check.specs.Rows.{Rows, archive_entry, integrities, rows_of}
use Rattle.registry_check.specs.declared.problem.Problem.{Problem}
use Rattle.registry_check.proofs.whole.check_rules.Goals as goal

pub push_archives-requires : goal.push_archives-requires
push_archives-requires g c = record { in_form = λ clean up. (c.in_ok-tables.ensures.loads clean).0.ready }

pub returns-in_err-push_archives-clause-stays : goal.returns-in_err-push_archives-clause-stays
returns-in_err-push_archives-clause-stays g c = stays_then g.S.Store c.args.tx.now c.load_tables.new.tx c.push_archives.new.tx c.load_tables.ensures.stays c.push_archives.ensures.stays

pub returns-in_err-push_forms-clause-stays : goal.returns-in_err-push_forms-clause-stays
returns-in_err-push_forms-clause-stays g c = stays_then g.S.Store c.args.tx.now c.load_tables.new.tx c.push_archives.new.tx c.load_tables.ensures.stays c.push_archives.ensures.stays

pub returns-clause-stays : goal.returns-clause-stays
returns-clause-stays g c = stays_then g.S.Store c.args.tx.now c.load_tables.new.tx c.push_archives.new.tx c.load_tables.ensures.stays c.push_archives.ensures.stays

pub returns-clause-loads : goal.returns-clause-loads
returns-clause-loads g c clean =
    let were : HasCleanDisk (shown g.S.Store c.load_tables.new.tx) = omega (arith, c.push_archives.ensures.stays.survives.clean, clean) in
    let it = c.in_ok-tables.ensures.loads were in
    let there : NumberMap Archive = (stored_in g.S.Store c.load_tables.new.tx).archives in
    let same : stored_in g.S.Store c.load_tables.new.tx ≡ stored_in g.S.Store c.args.tx.now = ap (λ (d : Database). contents d.trees) it.0.same in
    let listed : map archive_entry c.in_ok-tables.tables.versions.archives.items ≡ integrities there = ap (λ (R : Rows). R.archives) it.1 ∙ ap (λ (d : Contents). integrities d.archives) (sym same) in
    let added = (rw c.deref.ensures.value at c.in_ok-push_archives.ensures.adds) clean listed in
    let premises = added ∙ ap (λ (ps : List Problem). ps ++ archive_problems (rows_of c.in_ok-tables.tables) there) c.in_ok-problems.ensures in
    let found = c.in_ok-push_forms.ensures there premises ∙ ap₂ problems it.1 (ap (λ (d : Contents). d.archives) same) in
    let reads = reads_as_before (shown g.S.Store c.args.tx.now) (shown g.S.Store c.load_tables.new.tx) (shown g.S.Store c.push_archives.new.tx) it.0 (c.in_ok-push_archives.ensures.kept clean) in
    (reads, found)
