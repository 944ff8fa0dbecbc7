use Rattle.std.proofs.Common.{◌∙◌, ap, arith, map, refl, subst, sym}
use Rattle.sqlite.specs.Effect.{Database}
use Rattle.sqlite.specs.State.{HasCleanDisk}
use Rattle.registry_names.specs.Maps.{entries, keys}
use Rattle.registry_rows.proofs.QuietFacts.{on_answer}
use Rattle.registry_tables.specs.Contents.{Contents, contents}
use Rattle.registry_tables.specs.Effects.{shown, stored_in}
use Rattle.registry_migration.specs.Steps.{HasNoRanges, PutsNeeds, version_key}
use Rattle.registry_migration.proofs.needs.put_ranges.Goals as goal

pub load_versions-requires : goal.load_versions-requires
load_versions-requires g c = record { in_form = λ clean on. (c.requires.under_way clean).ready }

pub put_each-requires : goal.put_each-requires
put_each-requires g c = record {
  under_way = λ clean.
      let before = c.requires.under_way (omega (arith, c.load_versions.ensures.stays.survives.clean, clean)) in
      let reads = (c.in_ok-versions.ensures.loads clean).0 in
      record { holds = refl; ready = reads.ready; mode = reads.mode ∙ before.mode };
  all = λ clean.
      let told = c.in_ok-versions.ensures.loads clean in
      ap (map version_key) c.deref.ensures.value ∙ told.1 ∙ sym (ap (λ (d : Database). keys (entries (contents d.trees).versions)) told.0.same);
  none = λ clean.
      let told = c.in_ok-versions.ensures.loads clean in
      subst HasNoRanges (sym (ap (λ (d : Database). contents d.trees) told.0.same)) (c.requires.none (omega (arith, c.load_versions.ensures.stays.survives.clean, clean)));
}

pub returns-clause-put : goal.returns-clause-put
returns-clause-put g c clean =
    let read : HasCleanDisk (shown g.S.Store c.load_versions.new.tx) = omega (arith, c.put_each.ensures.stays.survives.clean, clean) in
    let told = c.in_ok-versions.ensures.loads read in
    on_answer c.put_each.result
    (λ it. (it.0, subst (λ (before : Contents). PutsNeeds before (stored_in g.S.Store c.put_each.new.tx)) (ap (λ (d : Database). contents d.trees) told.0.same) it.1))
    (c.put_each.ensures.put clean)
