use Rattle.registry_desk.proofs.Words.{◌∙◌, ap, arith, option_map, refl, subst, sym, IfOk-weaker, Database, HasCleanDisk, InForm, IsTrue, reads_then, stays_then, contents, shown, schema, CountsArchivesAlone, IsAsWritten}
use Rattle.std.specs.Prelude.{pos}
use Rattle.registry_migration.proofs.StayFacts.{stays_going}
use Rattle.registry_tables.proofs.InsideFacts.{finds_reads, finds_stays}
use Rattle.registry_desk.proofs.open.check_rows.Goals as goal

pub returns-in_err-opened-clause-stays : goal.returns-in_err-opened-clause-stays
returns-in_err-opened-clause-stays g c = stays_going g.S.Store c.args.tx.now c.opened.new.tx c.opened.ensures.same_reference (λ _. c.requires.going) c.opened.ensures.committed c.opened.ensures.survives

pub returns : goal.returns
returns g c =
    let was = shown g.S.Store c.args.tx.now in
    let one = shown g.S.Store c.opened.new.tx in
    let first = stays_going g.S.Store c.args.tx.now c.opened.new.tx c.opened.ensures.same_reference (λ _. c.requires.going) c.opened.ensures.committed c.opened.ensures.survives in
    let opens = c.in_ok-opened.ensures.ours c.requires.in_form in
    let form : InForm g.S.Store c.opened.new.tx = λ clean _. (opens clean).0.ready in
    let begun : HasCleanDisk one → IsTrue one.in_transaction = λ clean. (opens clean).0.mode ∙ c.requires.going in
    let last = finds_stays g.S.Store c.opened.new.tx c.check_held.new.tx c.check_held.result form begun c.check_held.ensures in
    let read = finds_reads g.S.Store c.opened.new.tx c.check_held.new.tx c.check_held.result form begun c.check_held.ensures in
    let were : HasCleanDisk (shown g.S.Store c.check_held.new.tx) → HasCleanDisk one = λ clean. omega (arith, last.survives.clean, clean) in
    record {
      stays = stays_then g.S.Store c.args.tx.now c.opened.new.tx c.check_held.new.tx first last;
      reads = λ clean. IfOk-weaker c.check_held.result _ _ (λ _ told. reads_then schema was one (shown g.S.Store c.check_held.new.tx) (opens (were clean)).0 told.0) (read clean);
      ours = λ clean. IfOk-weaker c.check_held.result _ _ (λ _ told. let at = opens (were clean) in record {
        numbered = sym at.1.1 ∙ ap (option_map (λ n. pos n)) (c.in_ok-check_number.ensures.ok.0 refl);
        counted = subst (λ (d : Database). CountsArchivesAlone (contents d.trees)) at.0.same told.1.0;
        written = subst (λ (d : Database). IsAsWritten (contents d.trees)) at.0.same told.1.1;
      }) (read clean);
    }
