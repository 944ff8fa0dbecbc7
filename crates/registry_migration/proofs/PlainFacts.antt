-- The older schemas are plain.
use Rattle.std.proofs.Common.{◌≡◌, Bool, true, ◌&&◌, List, [], ◌∷◌, refl, sym, true≢false}
use Rattle.std.specs.List.{All, list_all}
use Rattle.std.proofs.lemmas.Bool.{and_parts}
use Rattle.std.proofs.lemmas.List.Elements.{All-cons, All-nil}
use Rattle.sqlite_schema.specs.declared.schema.Column.{Column}
use Rattle.sqlite_schema.specs.declared.schema.Table.{Table}
use Rattle.sqlite_sql.specs.Ops.{is_null}
use Rattle.sqlite_value.specs.declared.value.Value.{Value}
use Rattle.sqlite_value.specs.declared.value.Value.TheVariants.{Null, Int, Real, Text, Blob}
use Rattle.registry_rules.specs.State.{is_empty}
use Rattle.registry_migration.specs.Older.{schema_of}
use Rattle.registry_migration.specs.Plain.{IsPlain, IsPlainColumn, IsPlainTable}
use Rattle.registry_migration.specs.declared.older.Older.{Older}
use Rattle.registry_migration.specs.declared.older.Older.TheVariants.{First, Second}

-- ---- plain

null_is : (v : Value) → is_null v ≡ true → v ≡ Null
null_is Null is = refl
null_is (Int n) is = absurd (true≢false (sym is))
null_is (Real x) is = absurd (true≢false (sym is))
null_is (Text t) is = absurd (true≢false (sym is))
null_is (Blob b) is = absurd (true≢false (sym is))

none_is : {X : Type 0} (xs : List X) → is_empty xs ≡ true → xs ≡ []
none_is [] is = refl
none_is (x ∷ xs) is = absurd (true≢false (sym is))

pub all_of : {X : Type 0} (P : X → Type 0) (test : X → Bool) → ((x : X) → test x ≡ true → P x) → (xs : List X) → list_all test xs ≡ true → All P xs
all_of P test tells [] pass = All-nil P
all_of P test tells (x ∷ xs) pass = let both = and_parts (test x) (list_all test xs) pass in All-cons P x xs (tells x both.0) (all_of P test tells xs both.1)

abbrev has_no_default : Column → Bool
has_no_default column = is_null column.default

abbrev has_no_stamps : Table → Bool
has_no_stamps table = is_empty table.stamps.places && (is_empty table.stamps.terms && is_empty table.stamps.formats)

abbrev pub is_plain : Table → Bool
is_plain table = list_all has_no_default table.columns && (is_empty table.checks && (is_empty table.computed && has_no_stamps table))

pub table_plain : (table : Table) → is_plain table ≡ true → IsPlainTable table
table_plain table is =
    let columns = and_parts (list_all has_no_default table.columns) (is_empty table.checks && (is_empty table.computed && has_no_stamps table)) is in
    let checks = and_parts (is_empty table.checks) (is_empty table.computed && has_no_stamps table) columns.1 in
    let computed = and_parts (is_empty table.computed) (has_no_stamps table) checks.1 in
    let places = and_parts (is_empty table.stamps.places) (is_empty table.stamps.terms && is_empty table.stamps.formats) computed.1 in
    let terms = and_parts (is_empty table.stamps.terms) (is_empty table.stamps.formats) places.1 in
    record {
      columns = all_of IsPlainColumn has_no_default (λ column. null_is column.default) table.columns columns.0;
      bare = record {
        checks = none_is table.checks checks.0;
        computed = none_is table.computed computed.0;
        stamps = λ i. record { places = none_is table.stamps.places places.0 i; terms = none_is table.stamps.terms terms.0 i; formats = none_is table.stamps.formats terms.1 i };
      };
    }

pub older_plain : (older : Older) → IsPlain (schema_of older)
older_plain First = record { tables = all_of IsPlainTable is_plain table_plain (schema_of First).tables refl; views = refl }
older_plain Second = record { tables = all_of IsPlainTable is_plain table_plain (schema_of Second).tables refl; views = refl }
