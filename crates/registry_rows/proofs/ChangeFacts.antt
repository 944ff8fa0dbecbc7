-- What a change of the rows makes of the map that they give.
use Rattle.std.proofs.Common.{◌≡◌, inl, inr, ℕ, Bool, true, false, cond, not, List, [], ◌∷◌, map, refl, sym, ◌∙◌, ap, subst, Some, None, Option, option_map, filter, if◌then◌else◌}
use Rattle.std.proofs.lemmas.Bool.{cases_Bool}
use Rattle.sqlite_value.specs.Order.{Row}
use Rattle.sqlite_trees.specs.Tree.{Trees}
use Rattle.sqlite_sql.specs.Term.{Term}
use Rattle.sqlite_schema.specs.declared.schema.Schema.{Schema}
use Rattle.sqlite_rules.specs.Lists.{Has}
use Rattle.registry_names.specs.Keys.{IsKey}
use Rattle.registry_names.specs.Maps.{MapBy, at, put, erase, keep, revise, rows}
use Rattle.registry_names.proofs.KeyFacts.{same_true, same_self}
use Rattle.registry_names.proofs.MapFacts.{at-put, at-revise}
use Rattle.registry_names.proofs.ChangeFacts.{rows_keep, keep_but}
use Rattle.registry_rows.specs.KeyKinds.{KeyKind, map_by, OneEach}
use Rattle.registry_rows.specs.Statements.{Adds, Deletes, Updates, is_wanted}
use Rattle.registry_rows.proofs.RowFacts.{entry, value_of, HasRow, at_row, row_at, at_key, map_is, some_same, never_some}

module _ {X : Type 0} (k : KeyKind) (key : IsKey k.cmp k.same) (value : Row → X) where
  abbrev v : Row → X
  v = value_of k key value

  -- ---- INSERT

  module _ (schema : Schema) (tree : ℕ) (row : Row) (old new : Trees) (was : OneEach k (old tree)) (one : OneEach k (new tree)) (it : Adds schema tree row old new) where
    abbrev before : MapBy k.cmp X
    before = map_by k value (old tree)

    abbrev after : MapBy k.cmp X
    after = put before (k.of_row row) (v row)

    put_there : (r : Row) → r ≡ row → at after (k.of_row r) ≡ Some (v r)
    put_there r is = subst (λ (x : Row). at after (k.of_row x) ≡ Some (v x)) (sym is)
        (at-put key before (k.of_row row) (v row) (k.of_row row) ∙ ap (λ b. cond b (Some (v row)) (at before (k.of_row row))) (same_self key (k.of_row row)))

    there : (r : Row) → Has (new tree) r → at after (k.of_row r) ≡ Some (v r)
    there r h = elim (it.none_else r h) [
      | inl is ↦ put_there r is
      | inr stood ↦ elim (cases_Bool (k.same (k.of_row row) (k.of_row r))) [
        | inl hit ↦ put_there r (sym (one row r it.there h (same_true key _ _ hit)))
        | inr miss ↦ at-put key before (k.of_row row) (v row) (k.of_row r) ∙ ap (λ b. cond b (Some (v row)) (at before (k.of_row r))) miss ∙ at_row k key value (old tree) r was stood
      ]
    ]

    only_one : (q : k.Key) (x : X) (b : Bool) → k.same (k.of_row row) q ≡ b → cond b (Some (v row)) (at before q) ≡ Some x → HasRow k key value (new tree) q x
    only_one q x true t e = (row, it.there, same_true key _ _ t, some_same e)
    only_one q x false t e = let r = row_at k key value (old tree) q x e in (r.0, it.kept r.0 r.1, r.2, r.3)

    -- where the key was there, the table would have two rows of one key
    pub inserted : map_by k value (new tree) ≡ after
    inserted = map_is k key value (new tree) after one there
        (λ q x e. only_one q x (k.same (k.of_row row) q) refl (sym (at-put key before (k.of_row row) (v row) q) ∙ e))

    free : (o : Option X) → at before (k.of_row row) ≡ o → o ≡ None
    free None e = refl
    free (Some x) e =
        let r = row_at k key value (old tree) (k.of_row row) x e in
        absurd (it.fresh (subst (Has (old tree)) (one r.0 row (it.kept r.0 r.1) it.there r.2) r.1))

    -- and so it was not there
    pub was_free : at before (k.of_row row) ≡ None
    was_free = free (at before (k.of_row row)) refl

  -- ---- DELETE

  pulled : (r : Row) (b : Bool) (rest : List Row) → map (entry k key value) (cond b (r ∷ rest) rest) ≡ cond b (entry k key value r ∷ map (entry k key value) rest) (map (entry k key value) rest)
  pulled r true rest = refl
  pulled r false rest = refl

  pub map_filter : (test : k.Key → Bool) (wanted : Row → Bool) (table : List Row) → ((r : Row) → Has table r → wanted r ≡ test (k.of_row r))
      → map (entry k key value) (filter (λ r. not (wanted r)) table) ≡ filter (λ (e : k.Key × X). not (test e.0)) (map (entry k key value) table)
  map_filter test wanted [] alike = refl
  map_filter test wanted (r ∷ table) alike =
      ap (λ b. map (entry k key value) (cond (not b) (r ∷ filter (λ r. not (wanted r)) table) (filter (λ r. not (wanted r)) table))) (alike r (inl refl))
      ∙ pulled r (not (test (k.of_row r))) (filter (λ r. not (wanted r)) table)
      ∙ ap (λ es. cond (not (test (k.of_row r))) (entry k key value r ∷ es) es) (map_filter test wanted table (λ z h. alike z (inr h)))

  module _ (schema : Schema) (tree : ℕ) (wanted : List Term) (params : Row) (old new : Trees) (it : Deletes schema tree wanted params old new) where
    -- the rows that pass are not kept
    pub deleted_where : (test : k.Key → Bool) → ((r : Row) → Has (old tree) r → is_wanted wanted params r ≡ test (k.of_row r)) → map_by k value (new tree) ≡ keep (map_by k value (old tree)) (λ q. not (test q))
    deleted_where test tested =
        ap (map_by k value) it.rows ∙ ap (rows k.cmp) (map_filter test (is_wanted wanted params) (old tree) tested)
        ∙ rows_keep key (map (entry k key value) (old tree)) (λ q. not (test q))

    -- the rows of one key are erased
    pub deleted : (q : k.Key) → ((r : Row) → Has (old tree) r → is_wanted wanted params r ≡ k.same q (k.of_row r)) → map_by k value (new tree) ≡ erase (map_by k value (old tree)) q
    deleted q tested = deleted_where (k.same q) tested ∙ keep_but key (map_by k value (old tree)) q

  -- ---- UPDATE

  module _ (schema : Schema) (tree : ℕ) (wanted : List Term) (params : Row) (into : Row → Row) (old new : Trees) (q : k.Key) (set : X → X)
      (was : OneEach k (old tree)) (one : OneEach k (new tree)) (tested : (r : Row) → Has (old tree) r → is_wanted wanted params r ≡ k.same q (k.of_row r))
      (keeps : (r : Row) → k.of_row (into r) ≡ k.of_row r) (sets : (r : Row) → v (into r) ≡ set (v r)) (it : Updates schema tree wanted params into old new) where
    abbrev f : k.Key → X → X
    f p x = if k.same q p then set x else x

    abbrev stood : MapBy k.cmp X
    stood = map_by k value (old tree)

    abbrev changed : MapBy k.cmp X
    changed = revise stood f

    at_old : (r : Row) → Has (old tree) r → at changed (k.of_row r) ≡ Some (f (k.of_row r) (v r))
    at_old r h = at-revise key stood f (k.of_row r) ∙ ap (option_map (f (k.of_row r))) (at_row k key value (old tree) r was h)

    hit : (r : Row) → Has (old tree) r → is_wanted wanted params r ≡ true → f (k.of_row r) (v r) ≡ v (into r)
    hit r h pass = ap (λ b. cond b (set (v r)) (v r)) (sym (tested r h) ∙ pass) ∙ sym (sets r)

    miss : (r : Row) → Has (old tree) r → is_wanted wanted params r ≡ false → f (k.of_row r) (v r) ≡ v r
    miss r h out = ap (λ b. cond b (set (v r)) (v r)) (sym (tested r h) ∙ out)

    there_still : (x : Row) → Has (new tree) x → at changed (k.of_row x) ≡ Some (v x)
    there_still x h = elim (it.none_else x h) [
      | inl stays ↦ at_old x stays.0 ∙ ap (λ (y : X). Some y) (miss x stays.0 stays.1)
      | inr made ↦ subst (λ (z : Row). at changed (k.of_row z) ≡ Some (v z)) (sym made.3)
          (at_key k key value changed _ _ _ (sym (keeps made.0)) (at_old made.0 made.1 ∙ ap (λ (y : X). Some y) (hit made.0 made.1 made.2)))
    ]

    found_old : (p : k.Key) (x : X) (o : Option X) → at stood p ≡ o → option_map (f p) o ≡ Some x → (y : X) × (at stood p ≡ Some y) × (f p y ≡ x)
    found_old p x None e h = absurd (never_some h)
    found_old p x (Some y) e h = (y, e, some_same h)

    only_old : (p : k.Key) (x : X) → at changed p ≡ Some x → HasRow k key value (new tree) p x
    only_old p x e =
        let y = found_old p x (at stood p) refl (sym (at-revise key stood f p) ∙ e) in
        let r = row_at k key value (old tree) p y.0 y.1 in
        let same_key : f (k.of_row r.0) (v r.0) ≡ f p (v r.0) = ap (λ j. f j (v r.0)) r.2 in
        let given : f (k.of_row r.0) (v r.0) ≡ x = same_key ∙ ap (f p) r.3 ∙ y.2 in
        elim (cases_Bool (is_wanted wanted params r.0)) [
          | inl pass ↦ (into r.0, it.changed r.0 r.1 pass, keeps r.0 ∙ r.2, sym (hit r.0 r.1 pass) ∙ given)
          | inr out ↦ (r.0, it.kept r.0 r.1 out, r.2, sym (miss r.0 r.1 out) ∙ given)
        ]

    pub updated : map_by k value (new tree) ≡ changed
    updated = map_is k key value (new tree) changed one there_still only_old
