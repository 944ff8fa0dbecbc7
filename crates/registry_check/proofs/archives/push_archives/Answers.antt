use Rattle.std.proofs.Common.{◌≡◌, ◌∙◌, ◌++◌, ℤ, List, Some, append-nil, arith, ap, subst, sym}
use Rattle.sqlite.specs.Effect.{Database}
use Rattle.sqlite.specs.State.{HasCleanDisk}
use Rattle.registry_names.specs.Maps.{at}
use Rattle.registry_rows.proofs.QuietFacts.{stays_then}
use Rattle.registry_tables.specs.Contents.{Archive, contents}
use Rattle.registry_tables.specs.Effects.{shown, stored_in}
use Rattle.registry_tables.proofs.EffectFacts.{as_it_was, before_then, form_after, reads_nothing_new}
use Rattle.registry_check.specs.Problems as spec
use Rattle.registry_check.specs.Problems.{problems_of}
use Rattle.registry_check.specs.Rows.{found_entry, rows_of}
use Rattle.registry_check.specs.Rules.{archive_tests, found_in}
use Rattle.registry_check.proofs.FoundFacts.{all_found, next_found}
use Rattle.registry_check.proofs.LoadFacts.{stays_here}
use Rattle.registry_check.proofs.archives.push_archives.Goals as goal

pub find_archive-requires : goal.find_archive-requires
find_archive-requires g c = record { in_form = form_after (shown g.S.Store c.args.tx.now) (shown g.S.Store c.loop-row.tx) (λ clean. omega (arith, c.loop-row.invariant.stays.survives.clean, clean)) c.loop-row.invariant.kept c.requires.in_form }

pub loop-row-preserved : goal.loop-row-preserved
loop-row-preserved g c =
    let now = c.loop-row in
    record {
      stays = stays_then g.S.Store c.args.tx.now now.tx c.find_archive.new.tx now.invariant.stays c.find_archive.ensures.stays;
      kept = λ clean.
          let were : HasCleanDisk (shown g.S.Store now.tx) = omega (arith, c.find_archive.ensures.stays.survives.clean, clean) in
          before_then (shown g.S.Store c.args.tx.now) (shown g.S.Store now.tx) (shown g.S.Store c.find_archive.new.tx) (now.invariant.kept were)
          (reads_nothing_new (shown g.S.Store now.tx) (shown g.S.Store c.find_archive.new.tx) (c.in_ok-found.ensures.loads clean).0);
      added = λ clean listed.
          let were : HasCleanDisk (shown g.S.Store now.tx) = omega (arith, c.find_archive.ensures.stays.survives.clean, clean) in
          let told = subst (λ (d : Database). (a : Archive) → at (contents d.trees).archives c.row-item.result.number ≡ Some a → a.integrity ≡ c.row-item.result.integrity → found_entry c.in_ok-found.found ≡ found_in (contents d.trees).archives (c.row-item.result.number, a)) (now.invariant.kept were).same (c.in_ok-found.ensures.loads clean).1 in
          next_found (stored_in g.S.Store c.args.tx.now).archives (rows_of c.args.all.now) c.args.rows.now listed now.row-index c.row-item.result c.loop-row-test.true c.row-item.is (found_entry c.in_ok-found.found) told
          c.args.problems.now.items now.problems.items c.push_broken.new.problems.items (now.invariant.added were listed) c.in_ok-push_broken.ensures;
    }

pub loop-row-init : goal.loop-row-init
loop-row-init g c = record {
  stays = stays_here g.S.Store c.args.tx.now;
  kept = λ clean. as_it_was (shown g.S.Store c.args.tx.now);
  added = λ clean listed. sym (append-nil c.args.problems.now.items);
}

pub returns-clause-adds : goal.returns-clause-adds
returns-clause-adds g c clean = λ listed.
    c.loop-row.invariant.added clean listed ∙ ap (λ (es : List (ℤ × Archive)). c.args.problems.now.items ++ problems_of spec.archive (archive_tests (rows_of c.args.all.now) (stored_in g.S.Store c.args.tx.now).archives) es) (all_found (stored_in g.S.Store c.args.tx.now).archives (rows_of c.args.all.now) c.args.rows.now listed c.loop-row.row-index c.loop-row-test.false)
