use Rattle.std.proofs.Common.{◌∙◌, subst, sym}
use Rattle.sqlite.proofs.Callers.{memory_is_clean}
use Rattle.registry_migration.specs.Plain.{IsPlain}
use Rattle.registry_migration.proofs.PlainFacts.{older_plain}
use Rattle.registry_migration.proofs.older.is_schema_of.Goals as goal

pub returns : goal.returns
returns c =
    let clean = memory_is_clean c.make_tables.new.conn in
    let made = c.schema.ensures.value ∙ c.in_ok-make_tables.ensures clean in (
      λ same. sym (c.is_same_schema.ensures.0 same).0 ∙ made,
      λ is. c.is_same_schema.ensures.1 (made ∙ sym is, subst IsPlain (sym made) (older_plain c.args.older)),
    )
