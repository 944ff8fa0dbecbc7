-- DELETE by key where rows of other tables go too.
use Rattle.std.proofs.Common.{◌≡◌, ◌==◌, inl, inr, ℕ, List, [], ◌∷◌, map, filter, Bool, true, false, not, ◌&&◌, Ok, Result, OnOk, refl, sym, ap, subst, ◌∙◌}
use Rattle.std.specs.List.{AllByRecursion, list_any}
use Rattle.std.proofs.lemmas.Bool.{cases_Bool, eqb-true}
use Rattle.sqlite_value.specs.Order.{Row}
use Rattle.sqlite_trees.specs.Tree.{Trees}
use Rattle.sqlite_trees.specs.declared.store.Shape.TheVariants as shape
use Rattle.sqlite_trees.proofs.TreeLemmas.{IsShaped-filter}
use Rattle.sqlite_sql.specs.Term.{col}
use Rattle.sqlite_schema.specs.declared.schema.Schema.{Schema}
use Rattle.sqlite_schema.specs.declared.schema.Table.{Table}
use Rattle.sqlite_schema.specs.declared.schema.Keys.TheVariants.{Enforced}
use Rattle.sqlite_rules.specs.declared.error.Rowids.TheVariants.{Given}
use Rattle.sqlite_rules.specs.Calls.{ids_of}
use Rattle.sqlite_rules.specs.Edit.{Edit, edit_of, row_at, Applies}
use Rattle.sqlite_rules.specs.Action.{works, Writes}
use Rattle.sqlite_rules.specs.Lists.{Has}
use Rattle.sqlite_rules.proofs.ListLemmas.{all_has, all_from, has_filtered}
use Rattle.sqlite.specs.Effect.{Database}
use Rattle.sqlite.specs.Rows.{Written}
use Rattle.sqlite.specs.declared.error.Error.{Error}
use Rattle.sqlite.specs.State.{State, HasCleanDisk}
use Rattle.registry_names.specs.Maps.{keep, erase, rows}
use Rattle.registry_names.proofs.KeyFacts.{same_true, same_self}
use Rattle.registry_names.proofs.ChangeFacts.{rows_keep}
use Rattle.registry_rows.specs.TextKeys.{Texts, TextsMap, texts_cmp, texts_are, texts_row}
use Rattle.registry_rows.specs.KeyKinds.{texts}
use Rattle.registry_rows.specs.Rows.{HasRowids, map_of, key_of}
use Rattle.registry_rows.specs.Statements.{Means, delete_where, by_texts, is_wanted, Finds, Deletes}
use Rattle.registry_rows.specs.Ready.{IsReady, Ready, Leaves, Executed, with_rows, IsMapped}
use Rattle.registry_rows.proofs.ListFacts.{filter_same, filter_twice, not-or}
use Rattle.registry_rows.proofs.TextKeyFacts.{texts_key}
use Rattle.registry_rows.proofs.WriteFacts.{written_as, written_sound, went, same_value}
use Rattle.registry_rows.proofs.InsertFacts.{others_kept}
use Rattle.registry_rows.proofs.SelectFacts.{selects, finds}
use Rattle.registry_rows.proofs.DeleteFacts.{left_over}
use Rattle.registry_rows.proofs.ChangeFacts.{deleted, map_filter}
use Rattle.registry_rows.proofs.ReadyFacts.{inside, rowids_after}
use Rattle.registry_rows.proofs.KeyedFacts.{after, by_texts_given}
use Rattle.registry_rows.proofs.StatementFacts.{tested_alone}
use Rattle.registry_rows.proofs.LookUpFacts.{all_pass}
use Rattle.registry_laws_sql.specs.Places.{Places, are_places, picked, texts_at}
use Rattle.registry_laws_sql.specs.Cascades.{Child, IsChild, HasChildren, links, all_erased}
use Rattle.registry_laws_sql.proofs.PlaceFacts.{texts_picked}
use Rattle.registry_laws_sql.proofs.SettleFacts.{gone, cascades}
use Rattle.registry_laws_sql.proofs.ChildFacts.{taken_wanted, wanted_taken, gone_is, leaves}

-- ---- trees without the rows that go

module _ {C : Type 0} (more : ℕ) (q : Texts more) where
  abbrev erased_rows : List (Child C more) → Trees → Trees
  erased_rows [] db = db
  erased_rows (c ∷ cs) db = erased_rows cs (with_rows db c.table.tree (filter (λ r. not (texts_are more q (texts_at more c.places r))) (db c.table.tree)))

  abbrev going : List (Child C more) → ℕ → Row → Bool
  going children n r = list_any (λ c. (c.table.tree == n) && texts_are more q (texts_at more c.places r)) children

  one_erased : (c : Child C more) (db : Trees) (n : ℕ) → with_rows db c.table.tree (filter (λ r. not (texts_are more q (texts_at more c.places r))) (db c.table.tree)) n
      ≡ filter (λ r. not ((c.table.tree == n) && texts_are more q (texts_at more c.places r))) (db n)
  one_erased c db n = elim (cases_Bool (c.table.tree == n)) [
    | inl here ↦ rw here (ap (λ i. filter (λ r. not (texts_are more q (texts_at more c.places r))) (db i)) (eqb-true c.table.tree n here))
    | inr other ↦ rw other (sym (all_pass (db n)))
  ]

  erased_at : (cs : List (Child C more)) (db : Trees) (n : ℕ) → erased_rows cs db n ≡ filter (λ r. not (going cs n r)) (db n)
  erased_at [] db n = sym (all_pass (db n))
  erased_at (c ∷ cs) db n =
      erased_at cs (with_rows db c.table.tree (filter (λ r. not (texts_are more q (texts_at more c.places r))) (db c.table.tree))) n
      ∙ ap (filter (λ r. not (going cs n r))) (one_erased c db n)
      ∙ filter_twice (λ r. not ((c.table.tree == n) && texts_are more q (texts_at more c.places r))) (λ r. not (going cs n r)) (db n)
      ∙ filter_same _ (λ r. not (going (c ∷ cs) n r)) (db n) (λ r _. not-or ((c.table.tree == n) && texts_are more q (texts_at more c.places r)) (going cs n r))

  contents_erased : (schema : Schema) (contents : Trees → C) (cs : List (Child C more)) (db : Trees) → AllByRecursion (IsChild schema contents) cs → contents (erased_rows cs db) ≡ all_erased cs q (contents db)
  contents_erased schema contents [] db each = refl
  contents_erased schema contents (c ∷ cs) db each =
      contents_erased schema contents cs (with_rows db c.table.tree (filter (λ r. not (texts_are more q (texts_at more c.places r))) (db c.table.tree))) each.1
      ∙ ap (all_erased cs q) (each.0.erased q db)

module _ {C X : Type 0} {schema : Schema} {contents : Trees → C} {place : ℕ} {table : Table} {more : ℕ} {value : Row → X} {change : C → TextsMap more X → C} (t : IsMapped schema contents place table more value change) where
  -- a table that gives a map is one whose rows go with those that they refer to
  child_erased : (rest : ℕ) (places : Places rest) → are_places more rest places ≡ true → (q : Texts rest) (db : Trees)
      → contents (with_rows db table.tree (filter (λ r. not (texts_are rest q (texts_at rest places r))) (db table.tree))) ≡ change (contents db) (keep (map_of more value (db table.tree)) (λ k. not (texts_are rest q (picked more rest places k))))
  child_erased rest places within q db =
      t.alone db (filter (λ r. not (texts_are rest q (texts_at rest places r))) (db table.tree))
      ∙ ap (λ es. change (contents db) (rows (texts_cmp more) es)) (map_filter (texts more) (texts_key more) value (λ k. texts_are rest q (picked more rest places k)) (λ r. texts_are rest q (texts_at rest places r)) (db table.tree)
      (λ r _. ap (texts_are rest q) (texts_picked more rest places within r)))
      ∙ ap (change (contents db)) (rows_keep (texts_key more) _ (λ k. not (texts_are rest q (picked more rest places k))))

  pub mapped_child : {rest : ℕ} (places : Places rest) → are_places more rest places ≡ true → links schema table.tree ≡ [] → (erases : Texts rest → C → C)
      → ((q : Texts rest) (db : Trees) → change (contents db) (keep (map_of more value (db table.tree)) (λ k. not (texts_are rest q (picked more rest places k)))) ≡ erases q (contents db))
      → IsChild schema contents (record { table = table; places = places; erases = erases })
  mapped_child places within quiet erases is = record {
    place = place;
    key_more = more;
    found = t.found;
    shape = t.shape;
    index = t.index;
    indexed = t.indexed;
    plain = t.plain;
    texts = t.texts;
    within = within;
    quiet = quiet;
    erased = λ q db. child_erased _ places within q db ∙ is q db;
  }

  -- ---- DELETE FROM t WHERE the key, with what goes with the row

  module _ (s : State) (ready : IsReady schema s) (q : Texts more) (found : List Row) (f : Finds (by_texts more 1 0) (col 1 0 ∷ []) (texts_row more q) (s.now.trees table.tree) found)
      (children : List (Child C more)) (has : HasChildren schema contents table children) (out : Trees)
      (writes : Writes schema Enforced s.now.trees (edit_of s.now.trees table (ids_of found) Given 0 []) (Ok out)) where
    abbrev db : Trees
    db = s.now.trees

    abbrev olds : List Row
    olds = map (row_at (db table.tree)) (ids_of found)

    ids : HasRowids (db table.tree)
    ids = (by_texts_given t).keyed.rowids s ready

    abbrev edit : Edit
    edit = edit_of db table (ids_of found) Given 0 []

    tests : (x : Row) → Has (db table.tree) x → is_wanted (by_texts more 1 0) (texts_row more q) x ≡ texts_are more q (key_of more x)
    tests = tested_alone (by_texts_given t) s ready q

    sound : (x : Row) → Has olds x → Has (db table.tree) x × (q ≡ key_of more x)
    sound x h =
        let it = taken_wanted (by_texts more 1 0) (texts_row more q) (db table.tree) found f ids x h in
        (it.0, same_true (texts_key more) q (key_of more x) (sym (tests x it.0) ∙ it.1))

    complete : (x : Row) → Has (db table.tree) x → q ≡ key_of more x → Has olds x
    complete x h e = wanted_taken (by_texts more 1 0) (texts_row more q) (db table.tree) found f ids x h
        (tests x h ∙ ap (texts_are more q) (sym e) ∙ same_self (texts_key more) q)

    module _ (mid : Trees) (did : Applies schema Enforced db edit mid) where
      first : Deletes schema table.tree (by_texts more 1 0) (texts_row more q) db mid
      first =
          let left = did.rows ∙ left_over (by_texts more 1 0) [] (texts_row more q) (db table.tree) found f ids in
          record {
            rows = left;
            others = others_kept schema table.tree db mid did.tables;
            rowids = λ was. subst HasRowids (sym left) (IsShaped-filter shape.Table (λ r. not (is_wanted (by_texts more 1 0) (texts_row more q) r)) (db table.tree) was);
          }

      mid_rowids : AllByRecursion (λ (u : Table). HasRowids (mid u.tree)) schema.tables
      mid_rowids = rowids_after schema table.tree db mid first.others first.rowids ready.rowids

      mid_contents : contents mid ≡ change (contents db) (erase (map_of more value (db table.tree)) q)
      mid_contents = after (by_texts_given t) db mid _ first.others (deleted (texts more) (texts_key more) value schema table.tree (by_texts more 1 0) (texts_row more q) db mid first q tests)

      -- a row that is left was there
      was_there : (u : Table) → Has schema.tables u → (r : Row) → Has (mid u.tree) r → Has (db u.tree) r
      was_there u listed r h = elim (cases_Bool (table.tree == u.tree)) [
        | inl here ↦ subst (λ n. Has (db n) r) (eqb-true table.tree u.tree here)
            (has_filtered (λ x. not (is_wanted (by_texts more 1 0) (texts_row more q) x)) (db table.tree) r (subst (λ l. Has l r) first.rows (subst (λ n. Has (mid n) r) (sym (eqb-true table.tree u.tree here)) h))).0
        | inr other ↦ subst (λ l. Has l r) (all_has (λ (v : Table). (table.tree == v.tree) ≡ false → mid v.tree ≡ db v.tree) schema.tables u first.others listed other) h
      ]

      module _ (ends : (u : Table) → Has schema.tables u → out u.tree ≡ filter (λ r. not (gone (works schema Enforced 0 table.tree olds []) u.tree r)) (mid u.tree)) where
        left_is : (u : Table) → Has schema.tables u → out u.tree ≡ erased_rows more q children mid u.tree
        left_is u listed =
            ends u listed ∙ filter_same _ _ (mid u.tree) (λ r h. gone_is t s ready q olds sound complete children has u.tree r (was_there u listed r h))
            ∙ sym (erased_at more q children mid u.tree)

        pub left_contents : contents out ≡ all_erased children q (change (contents db) (erase (map_of more value (db table.tree)) q))
        left_contents =
            t.depends (erased_rows more q children mid) out (all_from (λ (u : Table). out u.tree ≡ erased_rows more q children mid u.tree) schema.tables left_is)
            ∙ contents_erased more q schema contents children mid has.each ∙ ap (all_erased children q) mid_contents

        pub left_rowids : AllByRecursion (λ (u : Table). HasRowids (out u.tree)) schema.tables
        left_rowids = all_from (λ (u : Table). HasRowids (out u.tree)) schema.tables (λ u listed.
            subst HasRowids (sym (ends u listed)) (IsShaped-filter shape.Table (λ r. not (gone (works schema Enforced 0 table.tree olds []) u.tree r)) (mid u.tree)
            (all_has (λ (v : Table). HasRowids (mid v.tree)) schema.tables u mid_rowids listed)))

    cascaded : (mid : Trees) × Applies schema Enforced db edit mid × ((u : Table) → Has schema.tables u → out u.tree ≡ filter (λ r. not (gone (works schema Enforced 0 table.tree olds []) u.tree r)) (mid u.tree))
    cascaded = cascades schema db edit out (leaves t s ready q olds sound complete children has)
        (λ mid did u h. all_has (λ (v : Table). HasRowids (mid v.tree)) schema.tables u (mid_rowids mid did) h) writes

    pub cascade_contents : contents out ≡ all_erased children q (change (contents db) (erase (map_of more value (db table.tree)) q))
    cascade_contents = left_contents cascaded.0 cascaded.1 cascaded.2

    pub cascade_rowids : AllByRecursion (λ (u : Table). HasRowids (out u.tree)) schema.tables
    cascade_rowids = left_rowids cascaded.0 cascaded.1 cascaded.2

  pub delete_cascades : (sql : List ℕ) → Means schema sql (delete_where place table (by_texts more 1 0))
      → (children : List (Child C more)) → HasChildren schema contents table children → (q : Texts more) → (old new : State) (r : Result ℕ Error) → Ready schema old → Executed sql (texts_row more q) old new r → HasCleanDisk new
      → OnOk r (Leaves schema contents (all_erased children q (change (contents old.now.trees) (erase (map_of more value (old.now.trees table.tree)) q))) new)
  delete_cascades sql means children has q old new r form call clean = inside _ schema sql (texts_row more q) old new r form call clean (λ count ready ran on.
      let w = written_as schema place table t.found sql (texts_row more q) old new ready.schema_is _ means.0 means.1 count ran refl in
      let given = went w.1 in
      let written = went given.2 in
      let f = finds (by_texts more 1 0) (col 1 0 ∷ []) [] (texts_row more q) (old.now.trees table.tree) given.0 (selects table.tree (by_texts more 1 0) (col 1 0 ∷ []) [] (texts_row more q) old.now.trees given.0 given.1.answer) in
      let trees : new.now.trees ≡ written.0 = ap (λ (d : Database). d.trees) w.2 ∙ ap (λ (it : Written). it.trees) (same_value written.2) in
      record {
        holds = ap contents trees ∙ cascade_contents old ready q given.0 f children has written.0 written.1;
        ready = record {
          schema_is = ap (λ (d : Database). d.schema) w.2;
          sound = written_sound schema place sql (texts_row more q) old new ready.schema_is _ means.0 means.1 count ran refl;
          rowids = subst (λ (db : Trees). AllByRecursion (λ (u : Table). HasRowids (db u.tree)) schema.tables) (sym trees) (cascade_rowids old ready q given.0 f children has written.0 written.1);
        };
        mode = on;
      })
