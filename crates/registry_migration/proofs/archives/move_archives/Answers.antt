use Rattle.std.proofs.Common.{◌∙◌, ap, arith, map, refl, subst, sym}
use Rattle.sqlite.specs.Effect.{Database}
use Rattle.sqlite.specs.State.{HasCleanDisk}
use Rattle.registry_names.specs.Maps.{entries, keys}
use Rattle.registry_rows.proofs.QuietFacts.{on_answer}
use Rattle.registry_tables.specs.Contents.{Contents, contents}
use Rattle.registry_tables.specs.Effects.{shown, stored_in}
use Rattle.registry_migration.specs.Steps.{HasNoArchives, HasNoneMoved, Moves, MovesArchives, version_key}
use Rattle.registry_migration.specs.declared.older.Older.{Older}
use Rattle.registry_migration.proofs.archives.move_archives.Goals as goal

pub load_versions-requires : goal.load_versions-requires
load_versions-requires g c = record { in_form = λ clean on. (c.requires.under_way clean).ready }

pub move_each-requires : goal.move_each-requires
move_each-requires g c = record {
  under_way = λ clean.
      let before = c.requires.under_way (omega (arith, c.load_versions.ensures.stays.survives.clean, clean)) in
      let reads = (c.in_ok-versions-in-First.ensures.loads clean).0 in
      record { holds = refl; ready = reads.ready; mode = reads.mode ∙ before.mode };
  all = λ clean.
      let told = c.in_ok-versions-in-First.ensures.loads clean in
      ap (map version_key) c.deref.ensures.value ∙ told.1 ∙ sym (ap (λ (d : Database). keys (entries (contents d.trees).versions)) told.0.same);
  none = λ clean.
      let told = c.in_ok-versions-in-First.ensures.loads clean in
      let none = subst (λ (older : Older). HasNoneMoved older (stored_in g.S.Store c.args.tx.now)) c.in-First.is (c.requires.none (omega (arith, c.load_versions.ensures.stays.survives.clean, clean))) in
      subst HasNoArchives (sym (ap (λ (d : Database). contents d.trees) told.0.same)) none;
}

pub returns-in_ok-versions-in-First-clause-moved : goal.returns-in_ok-versions-in-First-clause-moved
returns-in_ok-versions-in-First-clause-moved g c clean =
    let read : HasCleanDisk (shown g.S.Store c.load_versions.new.tx) = omega (arith, c.move_each.ensures.stays.survives.clean, clean) in
    let told = c.in_ok-versions-in-First.ensures.loads read in
    on_answer c.move_each.result
    (λ it.
    let moved = subst (λ (before : Contents). MovesArchives before (stored_in g.S.Store c.move_each.new.tx)) (ap (λ (d : Database). contents d.trees) told.0.same) it.1 in
    (it.0, subst (λ (older : Older). Moves older (stored_in g.S.Store c.args.tx.now) (stored_in g.S.Store c.move_each.new.tx)) (sym c.in-First.is) moved))
    (c.move_each.ensures.moved clean)
