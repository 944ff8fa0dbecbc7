-- SELECT .. FROM two tables WHERE texts of their keys are equal.
use Rattle.std.proofs.Common.{◌≡◌, inl, inr, ℕ, suc, List, [], ◌∷◌, map, Bool, true, false, cond, ◌&&◌, drop, refl, sym, ap, ap₂, subst, ◌∙◌, true≢false, arith}
use Rattle.std.specs.Prelude.{◌↔◌}
use Rattle.std.specs.List.{list_all, flat_map}
use Rattle.std.proofs.lemmas.Bool.{and_parts}
use Rattle.sqlite.specs.declared.types.Value.{Value}
use Rattle.sqlite.specs.declared.types.Value.TheVariants as value
use Rattle.sqlite.specs.declared.types.Value.TheVariants.{Null}
use Rattle.sqlite_value.specs.Order.{Row, column}
use Rattle.sqlite_trees.specs.Tree.{Trees}
use Rattle.sqlite_sql.specs.Term.{Term, Env, eval, eval_all, holds}
use Rattle.sqlite_sql.specs.Program.{overlay, IsProgramAnswer}
use Rattle.sqlite_sql.specs.Query.{IsAnswer, output}
use Rattle.sqlite_schema.specs.declared.schema.Schema.{Schema}
use Rattle.sqlite_schema.specs.declared.schema.Table.{Table}
use Rattle.sqlite_rules.specs.Lists.{Has}
use Rattle.sqlite_rules.proofs.ListLemmas.{all_has}
use Rattle.sqlite.specs.State.{State, HasCleanDisk}
use Rattle.registry_names.specs.Texts.{Text}
use Rattle.registry_names.specs.Maps.{at}
use Rattle.registry_rows.specs.Columns.{text_in}
use Rattle.registry_rows.specs.TextKeys.{Texts, TextsMap, texts_from}
use Rattle.registry_rows.specs.KeyKinds.{texts}
use Rattle.registry_rows.specs.Rows.{map_of, key_of}
use Rattle.registry_rows.specs.Statements.{MeansQuery}
use Rattle.registry_rows.specs.Ready.{IsReady, Ready, Reads, Queried, IsMapped}
use Rattle.registry_rows.proofs.ListFacts.{has_mapped, map_has, has_moved, has_back}
use Rattle.registry_rows.proofs.SelectFacts.{overlay_none}
use Rattle.registry_rows.proofs.TextKeyFacts.{HasTexts, texts_key, row_parts, one_test}
use Rattle.registry_rows.proofs.RowFacts.{at_row, row_at}
use Rattle.registry_rows.proofs.KeyedFacts.{texts_of, by_texts_given}
use Rattle.registry_rows.proofs.QueryFacts.{query_answers}
use Rattle.registry_laws_sql.specs.Places.{text_of, is_place}
use Rattle.registry_laws_sql.specs.Joins.{Side, given, first, second, term_of, comparisons, side_text, joins, is_text_value, is_side, are_sides, join, select_join, IsJoined}
use Rattle.registry_laws_sql.proofs.PlaceFacts.{text_there, has_text, column_before}
use Rattle.registry_laws_sql.proofs.LinkFacts.{flat_has, has_flat}

-- ---- the rows that a join shows

module _ (one two : ℕ) (wanted project : List Term) (params : Row) where
  abbrev env : Row → Row → Env
  env r u = params ∷ r ∷ u ∷ []

  inner_rows : Trees → Row → List Env
  inner_rows db r = flat_map (λ u. cond (list_all (holds (env r u)) wanted) (env r u ∷ []) []) (db two)

  -- one row of each passes, and shows x
  abbrev pub ShowsPair : Trees → Row → Type 0
  ShowsPair db x = (r : Row) × Has (db one) r × (u : Row) × Has (db two) u × (list_all (holds (env r u)) wanted ≡ true) × (x ≡ eval_all project (env r u))

  one_of : (b : Bool) (e f : Env) → Has (cond b (e ∷ []) []) f → (b ≡ true) × (f ≡ e)
  one_of true e f (inl same) = (refl, same)
  one_of true e f (inr more) = absurd more
  one_of false e f h = absurd h

  one_there : (b : Bool) (e : Env) → b ≡ true → Has (cond b (e ∷ []) []) e
  one_there true e h = inl refl
  one_there false e h = absurd (true≢false (sym h))

  pub join_shows : (db : Trees) (rows : List Row) → IsProgramAnswer [] (join one two wanted project) db params rows → ((x : Row) → Has rows x → ShowsPair db x) × ((x : Row) → ShowsPair db x → Has rows x)
  join_shows db rows h =
      let q = join one two wanted project in
      let a : IsAnswer q (overlay db []) params rows = h Null in
      let staged = a.distinct ∙ ap (map (output q)) a.grouped in (
        λ x k.
            let o = has_mapped (λ (o : Row × Row). o.1) a.ordered x (subst (λ l. Has l x) a.shown k) in
            let e = has_mapped (output q) _ o.0 (subst (λ l. Has l o.0) staged (has_back _ a.ordered o.0 a.same o.1)) in
            let r = flat_has (λ r. flat_map (λ u. cond (list_all (holds (env r u)) wanted) (env r u ∷ []) []) (overlay db [] two)) (overlay db [] one) e.0 e.1 in
            let u = flat_has (λ u. cond (list_all (holds (env r.0 u)) wanted) (env r.0 u ∷ []) []) (overlay db [] two) e.0 r.2 in
            let p = one_of (list_all (holds (env r.0 u.0)) wanted) (env r.0 u.0) e.0 u.2 in
            (r.0, subst (λ l. Has l r.0) (overlay_none db one) r.1, u.0, subst (λ l. Has l u.0) (overlay_none db two) u.1, p.0, o.2 ∙ ap (λ (z : Row × Row). z.1) e.2 ∙ ap (eval_all project) p.1),
        λ x s.
            let r = s.0 in
            let u = s.2 in
            let there = has_flat (λ r. flat_map (λ u. cond (list_all (holds (env r u)) wanted) (env r u ∷ []) []) (overlay db [] two)) (overlay db [] one) r (env r u) (subst (λ l. Has l r) (sym (overlay_none db one)) s.1)
            (has_flat (λ u. cond (list_all (holds (env r u)) wanted) (env r u ∷ []) []) (overlay db [] two) u (env r u) (subst (λ l. Has l u) (sym (overlay_none db two)) s.3) (one_there (list_all (holds (env r u)) wanted) (env r u) s.4)) in
            let o = has_moved _ a.ordered (output q (env r u)) a.same (subst (λ l. Has l (output q (env r u))) (sym staged) (map_has (output q) _ (env r u) there)) in
            subst (λ l. Has l x) (sym a.shown) (subst (Has (map (λ (o : Row × Row). o.1) a.ordered)) (sym s.5) (map_has (λ (o : Row × Row). o.1) a.ordered (output q (env r u)) o)),
      )

-- ---- WHERE

text_value : (v : Value) → is_text_value v ≡ true → v ≡ value.Text (text_in v)
text_value (value.Text t) h = refl
text_value _ h = absurd cc

module _ (m n : ℕ) (params r u : Row) (tr : HasTexts m 0 (drop 1 r)) (tu : HasTexts n 0 (drop 1 u)) where
  own_key : (more at : ℕ) (x : Row) → HasTexts more 0 (drop 1 x) → is_place more at ≡ true → column x (suc at) ≡ value.Text (text_of more at (texts_from more 0 (drop 1 x)))
  own_key more at x t h = column_before x at ∙ has_text more at 0 (drop 1 x) t h ∙ ap (λ (s : Text). value.Text s) (text_there more at 0 (drop 1 x) h)

  side_is : (s : Side) → is_side m n params s ≡ true → eval (term_of s) (params ∷ r ∷ u ∷ []) ≡ value.Text (side_text m n params (texts_from m 0 (drop 1 r)) (texts_from n 0 (drop 1 u)) s)
  side_is (given at) h = text_value (column params at) h
  side_is (first at) h = own_key m at r tr h
  side_is (second at) h = own_key n at u tu h

  pub tests_join : (ps : List (Side × Side)) → are_sides m n params ps ≡ true → list_all (holds (params ∷ r ∷ u ∷ [])) (comparisons ps) ≡ joins m n params ps (texts_from m 0 (drop 1 r)) (texts_from n 0 (drop 1 u))
  tests_join [] h = refl
  tests_join (p ∷ ps) h =
      let both = and_parts _ _ h in
      let sides = and_parts _ _ both.0 in
      ap₂ (λ a b. a && b) (one_test _ _ _ _ (side_is p.0 sides.0) (side_is p.1 sides.1)) (tests_join ps both.1)

-- ---- two tables of the schema

module _ {C X Z : Type 0} {schema : Schema} {contents : Trees → C} {place other_place : ℕ} {table other : Table} {m n : ℕ} {value : Row → X} {other_value : Row → Z} {change : C → TextsMap m X → C} {other_change : C → TextsMap n Z → C}
    (t : IsMapped schema contents place table m value change) (u : IsMapped schema contents other_place other n other_value other_change) where
  -- in tables that are ready
  module _ {Y : Type 0} (ps : List (Side × Side)) (project : List Term) (params : Row) (sides : are_sides m n params ps ≡ true) (read : Row → Y) (show : Texts m → X → Texts n → Z → Y)
      (shows : (id other_id : Value) (vs us : Row) → read (eval_all project (params ∷ (id ∷ vs) ∷ (other_id ∷ us) ∷ [])) ≡ show (texts_from m 0 vs) (value vs) (texts_from n 0 us) (other_value us)) (s : State) (ready : IsReady schema s) where
    abbrev ones : List Row
    ones = s.now.trees table.tree

    abbrev others : List Row
    others = s.now.trees other.tree

    shown_pair : (a b : Row) → Has ones a → Has others b → read (eval_all project (params ∷ a ∷ b ∷ [])) ≡ show (key_of m a) (value (drop 1 a)) (key_of n b) (other_value (drop 1 b))
    shown_pair a b ha hb =
        let pa = row_parts a (all_has _ ones a ((by_texts_given t).keyed.rowids s ready).1 ha) in
        let pb = row_parts b (all_has _ others b ((by_texts_given u).keyed.rowids s ready).1 hb) in
        ap₂ (λ (x y : Row). read (eval_all project (params ∷ x ∷ y ∷ []))) pa.1 pb.1 ∙ shows pa.0 pb.0 (drop 1 a) (drop 1 b)

    tested : (a b : Row) → Has ones a → Has others b → list_all (holds (params ∷ a ∷ b ∷ [])) (comparisons ps) ≡ joins m n params ps (key_of m a) (key_of n b)
    tested a b ha hb = tests_join m n params a b (texts_of t s ready a ha) (texts_of u s ready b hb) ps sides

    abbrev AreJoined : Y → Type 0
    AreJoined = IsJoined m n (map_of m value ones) (map_of n other_value others) (joins m n params ps) show

    joined : (x : Row) → ShowsPair table.tree other.tree (comparisons ps) project params s.now.trees x → AreJoined (read x)
    joined x it = record {
      key = key_of m it.0;
      value = value (drop 1 it.0);
      other_key = key_of n it.2;
      other = other_value (drop 1 it.2);
      there = at_row (texts m) (texts_key m) value ones it.0 ((by_texts_given t).keyed.once s ready) it.1;
      other_there = at_row (texts n) (texts_key n) other_value others it.2 ((by_texts_given u).keyed.once s ready) it.3;
      pass = sym (tested it.0 it.2 it.1 it.3) ∙ it.4;
      shown = ap read it.5 ∙ shown_pair it.0 it.2 it.1 it.3;
    }

    pair_of : (y : Y) → AreJoined y → (x : Row) × ShowsPair table.tree other.tree (comparisons ps) project params s.now.trees x × (read x ≡ y)
    pair_of y it =
        let a = row_at (texts m) (texts_key m) value ones it.key it.value it.there in
        let b = row_at (texts n) (texts_key n) other_value others it.other_key it.other it.other_there in (
          eval_all project (params ∷ a.0 ∷ b.0 ∷ []),
          (a.0, a.1, b.0, b.1, tested a.0 b.0 a.1 b.1 ∙ ap₂ (joins m n params ps) a.2 b.2 ∙ it.pass, refl),
          shown_pair a.0 b.0 a.1 b.1 ∙ ap₂ (λ (k : Texts m) (x : X). show k x (key_of n b.0) (other_value (drop 1 b.0))) a.2 a.3 ∙ ap₂ (λ (l : Texts n) (z : Z). show it.key it.value l z) b.2 b.3 ∙ sym it.shown,
        )

    pub shown_joined : (rows : List Row) → IsProgramAnswer [] (join table.tree other.tree (comparisons ps) project) s.now.trees params rows → (y : Y) → Has (map read rows) y ↔ AreJoined y
    shown_joined rows answer y =
        let both = join_shows table.tree other.tree (comparisons ps) project params s.now.trees rows answer in (
          λ h. let x = has_mapped read rows y h in subst AreJoined (sym x.2) (joined x.0 (both.0 x.0 x.1)),
          λ it. let x = pair_of y it in subst (Has (map read rows)) x.2 (map_has read rows x.0 (both.1 x.0 x.1)),
        )

  pub select_joins : {Y : Type 0} (ps : List (Side × Side)) (sql : List ℕ) (project : List Term) (names : List (List ℕ)) → MeansQuery schema sql (select_join table other project ps names)
      → (params : Row) → are_sides m n params ps ≡ true → (read : Row → Y) (show : Texts m → X → Texts n → Z → Y)
      → ((id other_id : Value) (vs us : Row) → read (eval_all project (params ∷ (id ∷ vs) ∷ (other_id ∷ us) ∷ [])) ≡ show (texts_from m 0 vs) (value vs) (texts_from n 0 us) (other_value us))
      → (old new : State) (rows : List Row) → Ready schema old → Queried sql params old new rows → HasCleanDisk new
      → Reads schema old new × ((y : Y) → Has (map read rows) y ↔ IsJoined m n (map_of m value (old.now.trees table.tree)) (map_of n other_value (old.now.trees other.tree)) (joins m n params ps) show y)
  select_joins ps sql project names means params sides read show shows old new rows form call clean =
      let it = query_answers schema sql (join table.tree other.tree (comparisons ps) project) names means params old new rows (form (omega (arith, call.survives.clean, clean))) (call.shown clean) in
      (it.0, shown_joined ps project params sides read show shows old it.1 rows it.2)
