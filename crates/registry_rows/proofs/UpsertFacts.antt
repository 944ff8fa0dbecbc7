-- INSERT INTO t VALUES (..) ON CONFLICT (the primary key) DO .. of one row.
use Rattle.std.proofs.Common.{◌≡◌, ◌⊎◌, inl, inr, ◌==◌, ◌/◌, ℕ, ℤ, List, [], ◌∷◌, ◌++◌, length, drop, Bool, true, false, not, ◌||◌, ◌&&◌, Some, None, Option, Ok, refl, sym, ap, subst, subst₂, ◌∙◌, append-nil, true≢false, IsTrue}
use Rattle.std.specs.Prelude.{bytes_eq}
use Rattle.std.proofs.lemmas.Bool.{and_parts, cases_Bool, not-true, eqb-true}
use Rattle.std.proofs.lemmas.Slice.Eq.{bytes_eq-Decides}
use Rattle.sqlite.specs.declared.types.Value.{Value}
use Rattle.sqlite.specs.declared.types.Value.TheVariants.{Null, Int}
use Rattle.sqlite_value.specs.Order.{Row}
use Rattle.sqlite_value.specs.declared.keys.Order.{Order}
use Rattle.sqlite_value.specs.Keys.{plain}
use Rattle.sqlite_trees.specs.Tree.{Trees, rowid}
use Rattle.sqlite_trees.specs.View.{is_int}
use Rattle.sqlite_sql.specs.Term.{Term, col}
use Rattle.sqlite.specs.Source.TheVariants.{Values}
use Rattle.sqlite_schema.specs.declared.command.Conflict.TheVariants.{Abort}
use Rattle.sqlite_schema.specs.declared.command.Upsert.{Upsert}
use Rattle.sqlite_schema.specs.declared.schema.Column.{Column}
use Rattle.sqlite_schema.specs.declared.schema.Index.{Index}
use Rattle.sqlite_schema.specs.declared.schema.Schema.{Schema}
use Rattle.sqlite_schema.specs.declared.schema.Table.{Table}
use Rattle.sqlite_schema.specs.declared.schema.Reference.{Reference}
use Rattle.sqlite_schema.specs.declared.schema.Keys.TheVariants.{Enforced}
use Rattle.sqlite_schema.specs.Rules.{agree, guards}
use Rattle.sqlite_rules.specs.declared.error.Refusal.{Refusal}
use Rattle.sqlite_rules.specs.declared.error.Rowids.TheVariants.{Chosen, Given}
use Rattle.sqlite_rules.specs.Cast.{cast_row}
use Rattle.sqlite_rules.specs.Edit.{edit_of, next_rowid, with_rowid, Applies}
use Rattle.sqlite_rules.specs.Keys.{AreConflicts, aims, shares, conflicts}
use Rattle.sqlite_rules.specs.Lists.{Has}
use Rattle.sqlite_rules.proofs.ListLemmas.{all_from, all_has, test_has, some_has}
use Rattle.sqlite.specs.Effect.{value_rows}
use Rattle.sqlite.specs.Rows as rows
use Rattle.sqlite.specs.Rows.{Written, Task, nothing}
use Rattle.sqlite.proofs.Callers.{one_step}
use Rattle.registry_rows.specs.Columns.{are_exact, AreOf}
use Rattle.registry_rows.specs.Tables.{keyed_table}
use Rattle.registry_rows.specs.Rows.{HasRowids}
use Rattle.registry_rows.specs.Statements.{KeepsOthers, Adds, Updates, ignores_updates, has_plain_keys, by_texts, set_terms, set_row, is_wanted, row_after, are_set_after, done_with}
use Rattle.registry_rows.proofs.WriteFacts.{went, same_value}
use Rattle.registry_rows.proofs.CastFacts.{cast_null, cast_int, cast_exact}
use Rattle.registry_rows.proofs.ActionFacts.{no_works}
use Rattle.registry_rows.proofs.InsertFacts.{put_one, others_kept}
use Rattle.registry_rows.proofs.UpdateFacts.{replaced}
use Rattle.registry_rows.proofs.SetFacts.{set_cast, set_more}

-- ---- which row is met

-- the second of two, where the first is false
or_second : (a b : Bool) → a ≡ false → (a || b) ≡ true → b ≡ true
or_second true b out h = absurd (true≢false out)
or_second false b out h = h

-- an order of no digits is SQLite's own
plain_order : (o : Order) → (o.digits == 0) ≡ true → o ≡ plain
plain_order o e = ap (λ (n : ℕ). record { digits = n }) (eqb-true o.digits 0 e)

module _ (schema : Schema) (table : Table) (plainly : has_plain_keys schema table ≡ true) (r new : Row) where
  -- under one index
  shared : (i : Index) → Has schema.indexes i → shares (Some table.primary) table new r i ≡ true → agree plain table.primary r table.primary new ≡ true
  shared i listed h =
      let parts = and_parts _ _ h in
      let aimed = and_parts (guards i table) (aims (Some table.primary) i.columns) parts.0 in
      let order = plain_order i.order (or_second _ _ (ap not aimed.0) (test_has _ schema.indexes i plainly listed)) in
      subst₂ (λ o ps. agree o ps r ps new ≡ true) order (sym ((bytes_eq-Decides table.primary i.columns).0 aimed.1)) parts.1

  -- a row in the way of the new one agrees with it in the primary key
  met : bytes_eq table.primary (0 ∷ []) ≡ false → conflicts (Some table.primary) schema.indexes table new r ≡ true → agree plain table.primary r table.primary new ≡ true
  met apart h =
      let some = some_has (shares (Some table.primary) table new r) schema.indexes (or_second _ _ (ap (λ b. b && agree plain (0 ∷ []) r (0 ∷ []) new) apart) h) in
      shared some.0 some.1 some.2

-- ---- what is done

-- the row that is there agrees with the new one in the primary key, and it alone is updated, or
-- nothing is
pub record Takes (schema : Schema) (tree : ℕ) (primary : List ℕ) (new params : Row) (into : Row → Row) (old next : Trees) : Type 0 where
  pub row : Row
  pub had : Has (old tree) row
  pub agrees : agree plain primary row primary new ≡ true
  pub rest : Row
  pub updates : Updates schema tree (by_texts 0 0 (length params)) (params ++ rowid row ∷ rest) into old next

-- either way the other tables are as they were, and the rowids rise
pub either_kept : {schema : Schema} {tree : ℕ} {primary : List ℕ} {new params : Row} {into : Row → Row} {old next : Trees} → Adds schema tree new old next ⊎ Takes schema tree primary new params into old next
    → KeepsOthers schema tree old next × (HasRowids (old tree) → HasRowids (next tree))
either_kept (inl adds) = (adds.others, adds.rowids)
either_kept (inr takes) = (takes.updates.others, takes.updates.rowids)

-- where nothing is done, each row is what its rowid and its columns are
whole : (r : Row) → IsTrue (is_int (rowid r)) → r ≡ rowid r ∷ drop 1 r
whole [] h = absurd (true≢false (sym h))
whole (id ∷ vs) h = refl

unchanged : (schema : Schema) (tree : ℕ) (wanted : List Term) (params : Row) (db : Trees) → HasRowids (db tree) → Updates schema tree wanted params (λ x. rowid x ∷ drop 1 x) db db
unchanged schema tree wanted params db ids =
    let same = λ (x : Row) (h : Has (db tree) x). whole x (all_has _ (db tree) x ids.1 h) in
    record {
      kept = λ x h out. h;
      changed = λ x h pass. subst (Has (db tree)) (same x h) h;
      none_else = λ x h. elim (cases_Bool (is_wanted wanted params x)) [
        | inl pass ↦ inr (x, h, pass, same x h)
        | inr out ↦ inl (h, out)
      ];
      others = all_from _ schema.tables (λ t h other. refl);
      rowids = λ was. was;
    }

module _ (schema : Schema) (name : List ℕ) (tree : ℕ) (columns : List Column) (primary : List ℕ) (references : List Reference) (limit : Option ℕ) (params : Row) where
  abbrev table : Table
  table = keyed_table name tree columns primary references

  abbrev task : Task
  task = record { limit = limit; keys = Enforced; schema = schema; table = table; params = params }

  -- the one row of VALUES is tried, with the next rowid
  tried : (clauses : List Upsert) (terms : List Term) (width : ℕ) (source : Row) (db : Trees) (w : Written) → value_rows params width (length terms / width) terms ≡ source ∷ []
      → rows.InsertsOr task Abort clauses (Values terms width) db (Ok w) → (one : Written) × rows.Tries task Abort clauses (with_rowid Chosen (db tree) (cast_row table source)) db (Ok one) × (w.trees ≡ one.trees)
  tried clauses terms width source db w is h =
      let given = went h in
      let counted = went given.2 in
      let done = went counted.2 in
      let left = went done.2 in
      let sources : given.0 ≡ source ∷ [] = given.1.1 ∙ ap (λ p. value_rows p width (length terms / width) terms) (append-nil params) ∙ is in
      let one = went (subst (λ l. rows.TriesEach task Abort clauses l (rows.count_of counted.0) (nothing db) (Ok done.0)) sources done.1) in
      (one.0, one.1, ap (λ (it : Written). it.trees) (same_value left.2) ∙ same_value left.1 ∙ ap (λ (it : Written × ℤ). it.0.trees) (same_value one.2))

  -- a row that breaks a rule is not passed over
  judged : (clauses : List Upsert) (new : Row) (db : Trees) (one : Written) → rows.Tries task Abort clauses new db (Ok one) → rows.Upserts task Abort new db clauses (Ok one)
  judged clauses new db one (inl unfit) = absurd (let e = unfit.1 in cc)
  judged clauses new db one (inr passes) = go passes.0 passes.2
    where
      go : (verdict : Option Refusal) → rows.Judged task Abort clauses new db verdict (Ok one) → rows.Upserts task Abort new db clauses (Ok one)
      go None h = h
      go (Some why) h = absurd cc

  -- the edit of one row whose rowid is given
  placed : (id : ℤ) (values : Row) → are_exact columns values ≡ true → (db next : Trees) → Applies schema Enforced db (edit_of db table [] Given 0 ((Int id ∷ values) ∷ [])) next → Adds schema tree (Int id ∷ values) db next
  placed id values exact db next did =
      let e = rw (cast_int id, cast_exact columns values exact) at did in
      put_one schema table values id db next (not-true _ (and_parts _ _ e.fresh).0) e.rows (others_kept schema tree db next e.tables)

  -- the new row goes in where its rowid is free
  put_in : (id : ℤ) (values : Row) → are_exact columns values ≡ true → (db : Trees) (one : Written) → rows.Puts task (Int id ∷ values) db (Ok one) → Adds schema tree (Int id ∷ values) db one.trees
  put_in id values exact db one h =
      let written = went h in
      let edit = edit_of db table [] Given 0 ((Int id ∷ values) ∷ []) in
      let did = one_step schema Enforced db written.0 edit (no_works schema Enforced 0 tree edit.news) written.1 in
      subst (Adds schema tree (Int id ∷ values) db) (sym (ap (λ (it : Written). it.trees) (same_value written.2))) (placed id values exact db written.0 did)

  -- where ON CONFLICT does not speak, the row is put in or the statement fails
  cleared : (new : Row) (db : Trees) (found : List Row) (one : Written) → rows.Clears task Abort new db found (Ok one) → rows.Puts task new db (Ok one)
  cleared new db [] one h = h
  cleared new db (x ∷ more) one h = h

  -- the row that is there is updated, or stays as it is
  there_then : (sets : Option (List (Option ℕ))) → ignores_updates schema ≡ true → are_set_after columns sets params ≡ true → (db : Trees) → HasRowids (db tree) → ((r : Row) → Has (db tree) r → AreOf columns (drop 1 r)) → (new r : Row) (one : Written)
      → rows.Resolves task new db r (done_with tree (length params) sets) (Ok one) → (rest : Row) × Updates schema tree (by_texts 0 0 (length params)) (params ++ rowid r ∷ rest) (λ x. rowid x ∷ row_after sets params (drop 1 x)) db one.trees
  there_then None quiet set db ids typed new r one h =
      ([], subst (Updates schema tree (by_texts 0 0 (length params)) (params ++ rowid r ∷ []) (λ x. rowid x ∷ drop 1 x) db) (sym (ap (λ (it : Written). it.trees) (same_value h))) (unchanged schema tree _ _ db ids))
  there_then (Some sets) quiet set db ids typed new r one h =
      let rest = rowid r ∷ rows.shown table new in (
        rows.shown table new,
        replaced schema table quiet limit params (params ++ rest) (by_texts 0 0 (length params)) (col 1 0 ∷ set_terms 1 sets) (λ x. rowid x ∷ set_row 0 sets params (drop 1 x)) db one ids (λ x there pass.
            let same = set_more columns sets 0 params rest (drop 1 x) set in
            set_cast table sets (params ++ rest) x (all_has _ (db tree) x ids.1 there) (typed x there) same.0 ∙ ap (λ (l : Row). rowid x ∷ l) same.1) h,
      )

  module _ (sets : Option (List (Option ℕ))) (quiet : ignores_updates schema ≡ true) (set : are_set_after columns sets params ≡ true) (plainly : has_plain_keys schema table ≡ true) (apart : bytes_eq primary (0 ∷ []) ≡ false)
      (values : Row) (exact : are_exact columns values ≡ true) (db : Trees) (ids : HasRowids (db tree)) (typed : (r : Row) → Has (db tree) r → AreOf columns (drop 1 r)) where
    abbrev clause : List ℕ → Upsert
    clause places = record { target = Some places; update = done_with tree (length params) sets }

    abbrev Upserted : ℤ → Trees → Type 0
    Upserted id next = Adds schema tree (Int id ∷ values) db next ⊎ Takes schema tree primary (Int id ∷ values) params (λ r. rowid r ∷ row_after sets params (drop 1 r)) db next

    -- no row is in the way, or it is the first that is
    put_or_taken : (id : ℤ) (found : List Row) (one : Written) → AreConflicts (Some primary) schema.indexes table (db tree) (Int id ∷ values) found
        → rows.Meets task (rows.Upserts task Abort (Int id ∷ values) db []) (Int id ∷ values) db (clause primary) found (Ok one) → Upserted id one.trees
    put_or_taken id [] one are h = inl (put_in id values exact db one (cleared (Int id ∷ values) db h.0 one h.2))
    put_or_taken id (there ∷ others) one are h =
        let had = are.sound there (inl refl) in
        let does = there_then sets quiet set db ids typed (Int id ∷ values) there one h in
        inr (record {
          row = had.0;
          had = had.1;
          agrees = met schema table plainly had.0 (Int id ∷ values) apart had.2;
          rest = does.0;
          updates = subst (λ (i : Value). Updates schema tree (by_texts 0 0 (length params)) (params ++ i ∷ does.0) (λ r. rowid r ∷ row_after sets params (drop 1 r)) db one.trees) (ap rowid had.3) does.1;
        })

    -- the whole statement
    pub upserted : (places : List ℕ) → places ≡ primary → (cells : List Term) (width : ℕ) (w : Written) → value_rows params width (length cells / width) cells ≡ (Null ∷ values) ∷ []
        → rows.InsertsOr task Abort (clause places ∷ []) (Values cells width) db (Ok w) → (id : ℤ) × Upserted id w.trees
    upserted places same cells width w is h =
        let one = tried (clause primary ∷ []) cells width (Null ∷ values) db w is (subst (λ ps. rows.InsertsOr task Abort (clause ps ∷ []) (Values cells width) db (Ok w)) same h) in
        let id = next_rowid (db tree) in
        let new : with_rowid Chosen (db tree) (cast_row table (Null ∷ values)) ≡ Int id ∷ values = rw (cast_null, cast_exact columns values exact) refl in
        let each = subst (λ (x : Row). rows.Upserts task Abort x db (clause primary ∷ []) (Ok one.0)) new (judged (clause primary ∷ []) _ db one.0 one.1) in
        (id, subst (Upserted id) (sym one.2) (put_or_taken id each.0 one.0 each.1 each.2))
