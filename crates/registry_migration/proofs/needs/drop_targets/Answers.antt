use Rattle.std.proofs.Common.{◌∙◌, ap, arith, map, refl, sym}
use Rattle.sqlite.specs.Effect.{Database}
use Rattle.sqlite.specs.State.{HasCleanDisk}
use Rattle.registry_names.specs.Maps.{empty, entries, keys}
use Rattle.registry_rows.proofs.QuietFacts.{on_answer}
use Rattle.registry_tables.specs.Contents.{contents}
use Rattle.registry_tables.specs.Effects.{shown}
use Rattle.registry_migration.specs.Steps.{target_key}
use Rattle.registry_migration.proofs.needs.drop_targets.Goals as goal

pub load_targets-requires : goal.load_targets-requires
load_targets-requires g c = record { in_form = λ clean on. (c.requires.under_way clean).ready }

pub drop_each-requires : goal.drop_each-requires
drop_each-requires g c = record {
  under_way = λ clean.
      let before = c.requires.under_way (omega (arith, c.load_targets.ensures.stays.survives.clean, clean)) in
      let reads = (c.in_ok-targets.ensures.loads clean).0 in
      record { holds = refl; ready = reads.ready; mode = reads.mode ∙ before.mode };
  all = λ clean.
      let told = c.in_ok-targets.ensures.loads clean in
      ap (map target_key) c.deref.ensures.value ∙ told.1 ∙ sym (ap (λ (d : Database). keys (entries (contents d.trees).needs)) told.0.same);
}

pub returns-clause-makes : goal.returns-clause-makes
returns-clause-makes g c clean =
    let read : HasCleanDisk (shown g.S.Store c.load_targets.new.tx) = omega (arith, c.drop_each.ensures.stays.survives.clean, clean) in
    let told = c.in_ok-targets.ensures.loads read in
    on_answer c.drop_each.result
    (λ left. record { holds = left.holds ∙ ap (λ (d : Database). record (contents d.trees) { needs = empty }) told.0.same; ready = left.ready; mode = left.mode })
    (c.drop_each.ensures.makes clean)
