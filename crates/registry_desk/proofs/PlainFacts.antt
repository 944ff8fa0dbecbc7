-- A registry's schema is plain: it has nothing that a comparison of schemas passes over.
use Rattle.registry_desk.proofs.Words.{refl, schema}
use Rattle.registry_migration.specs.Plain.{IsPlain, IsPlainTable}
use Rattle.registry_migration.proofs.PlainFacts.{all_of, is_plain, table_plain}

pub schema_plain : IsPlain schema
schema_plain = record { tables = all_of IsPlainTable is_plain table_plain schema.tables refl; views = refl }
