use Rattle.std.proofs.Common.{◌≡◌, ◌∙◌, ◌+◌, ◌++◌, ◌<◌, ℕ, List, ap, arith, get_or, length, refl, sym, take, take_all}
use Rattle.std.specs.List.{flat_map}
use Rattle.sqlite.specs.Effect.{Database}
use Rattle.sqlite.specs.State.{HasCleanDisk}
use Rattle.registry_rows.proofs.QuietFacts.{stays_then}
use Rattle.registry_tables.specs.Effects.{shown}
use Rattle.registry_tables.proofs.EffectFacts.{as_it_was, before_then, form_after, reads_nothing_new}
use Rattle.registry_check.specs.Readable.{all_tables, table_problems}
use Rattle.registry_check.specs.declared.problem.Problem.{Problem}
use Rattle.registry_check.specs.declared.texts.TextTable.{TextTable}
use Rattle.registry_check.proofs.LoadFacts.{stays_here}
use Rattle.registry_check.proofs.StepFacts.{flat_next}
use Rattle.registry_check.proofs.texts.problems_of_tables.Goals as goal

-- the problems of one more table
told_next : (now then : Database) → now ≡ then → (tables : List TextTable) (i : ℕ) (d : TextTable) → i < length tables → (old new : List Problem) → old ≡ flat_map (table_problems then.trees) (take i tables)
    → new ≡ old ++ table_problems now.trees (get_or tables i d) → new ≡ flat_map (table_problems then.trees) (take (i + 1) tables)
told_next now then same tables i d within old new so_far one =
    one
    ∙ ap (λ (it : Database). old ++ table_problems it.trees (get_or tables i d)) same
    ∙ ap (λ (ps : List Problem). ps ++ table_problems then.trees (get_or tables i d)) so_far
    ∙ sym (flat_next (table_problems then.trees) tables i d within)

pub push_table-requires : goal.push_table-requires
push_table-requires g c = record { in_form = form_after (shown g.S.Store c.args.tx.now) (shown g.S.Store c.loop-table.tx) (λ clean. omega (arith, c.loop-table.invariant.stays.survives.clean, clean)) c.loop-table.invariant.kept c.requires.in_form }

pub loop-table-preserved : goal.loop-table-preserved
loop-table-preserved g c =
    let now = c.loop-table in
    record {
      stays = stays_then g.S.Store c.args.tx.now now.tx c.push_table.new.tx now.invariant.stays c.push_table.ensures.stays;
      kept = λ clean.
          let were : HasCleanDisk (shown g.S.Store now.tx) = omega (arith, c.push_table.ensures.stays.survives.clean, clean) in
          before_then (shown g.S.Store c.args.tx.now) (shown g.S.Store now.tx) (shown g.S.Store c.push_table.new.tx) (now.invariant.kept were)
          (reads_nothing_new (shown g.S.Store now.tx) (shown g.S.Store c.push_table.new.tx) (c.in_ok-push_table.ensures.adds clean).0);
      was_open = λ clean _.
          let were : HasCleanDisk (shown g.S.Store now.tx) = omega (arith, c.push_table.ensures.stays.survives.clean, clean) in
          (now.invariant.kept were).committed.was_open (c.in_ok-push_table.ensures.adds clean).0.was_open;
      added = λ clean.
          let were : HasCleanDisk (shown g.S.Store now.tx) = omega (arith, c.push_table.ensures.stays.survives.clean, clean) in
          told_next (shown g.S.Store now.tx).now (shown g.S.Store c.args.tx.now).now (now.invariant.kept were).same c.args.tables.now now.table-index _ c.loop-table-test.true now.problems.items _ (now.invariant.added were) (c.in_ok-push_table.ensures.adds clean).1;
    }

pub loop-table-init : goal.loop-table-init
loop-table-init g c = record {
  stays = stays_here g.S.Store c.args.tx.now;
  kept = λ clean. as_it_was (shown g.S.Store c.args.tx.now);
  was_open = λ clean less. absurd (omega (arith, less));
  added = λ clean. c.new-problems.ensures.items;
}

pub returns-clause-loads : goal.returns-clause-loads
returns-clause-loads g c clean =
    let now = c.loop-table in
    let all : length all_tables ≡ 17 = refl in
    let many : length c.args.tables.now ≡ 17 = ap length c.requires.all ∙ all in
    let past : 0 < now.table-index = omega (arith, many, c.loop-table-test.false) in
    let kept = now.invariant.kept clean in
    let on = now.invariant.was_open clean past in
    let were : HasCleanDisk (shown g.S.Store c.args.tx.now) = omega (arith, now.invariant.stays.survives.clean, clean) in (
      record { was_open = on; ready = kept.ready (c.requires.in_form were on); same = kept.same; mode = kept.mode; committed = kept.committed },
      now.invariant.added clean ∙ ap (flat_map (table_problems (shown g.S.Store c.args.tx.now).now.trees)) (take_all now.table-index c.args.tables.now (omega (arith, c.loop-table-test.false)) ∙ c.requires.all),
    )
