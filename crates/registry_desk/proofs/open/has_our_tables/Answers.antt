use Rattle.registry_desk.proofs.Words.{◌∙◌, subst, sym, memory_is_clean}
use Rattle.registry_migration.specs.Plain.{IsPlain}
use Rattle.registry_desk.proofs.PlainFacts.{schema_plain}
use Rattle.registry_desk.proofs.open.has_our_tables.Goals as goal

pub returns : goal.returns
returns c =
    let clean = memory_is_clean c.settle_as.new.conn in
    let made = c.in_ok-settle_as.ensures in
    let form = made.rests.in_form clean (made.made clean).1 in
    let has = c.schema.ensures.value ∙ form.schema_is in (
      λ same. sym (c.is_same_schema.ensures.0 same).0 ∙ has,
      λ is. c.is_same_schema.ensures.1 (has ∙ sym is, subst IsPlain (sym has) schema_plain),
    )
