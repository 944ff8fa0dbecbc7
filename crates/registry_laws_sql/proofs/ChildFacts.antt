-- Which rows go with the one that DELETE by key takes: those that refer to it.
use Rattle.std.proofs.Common.{◌≡◌, ◌==◌, inl, inr, ℕ, List, [], ◌∷◌, map, Bool, true, not, drop, ◌&&◌, ◌||◌, refl, sym, ap, subst, ◌∙◌, true≢false}
use Rattle.std.specs.List.{AllByRecursion, list_any}
use Rattle.std.proofs.lemmas.Bool.{cases_Bool, and_parts, and_from, eqb-true, false_from_ne_true}
use Rattle.sqlite_value.specs.Order.{Row}
use Rattle.sqlite_value.specs.Keys.{plain}
use Rattle.sqlite_trees.specs.Tree.{Trees, rowid, has_rowid}
use Rattle.sqlite_sql.specs.Term.{Term, col}
use Rattle.sqlite_schema.specs.declared.schema.Schema.{Schema}
use Rattle.sqlite_schema.specs.declared.schema.Table.{Table}
use Rattle.sqlite_schema.specs.declared.schema.Keys.TheVariants.{Enforced}
use Rattle.sqlite_schema.specs.declared.schema.Constraint.TheVariants.{ForeignKey}
use Rattle.sqlite_schema.specs.declared.schema.Action.TheVariants.{Cascade}
use Rattle.sqlite_schema.specs.Rules.{agree, has_null, has_parent, is_held, parent_key}
use Rattle.sqlite_rules.specs.Calls.{ids_of}
use Rattle.sqlite_rules.specs.Edit.{id_in, row_at}
use Rattle.sqlite_rules.specs.Action.{Work, works, pairs, loses, is_child_of}
use Rattle.sqlite_rules.specs.Lists.{Has}
use Rattle.sqlite_rules.proofs.PlaceLemmas.{row_at_is}
use Rattle.sqlite_rules.proofs.ListLemmas.{all_has, all_from, some_has, some_from, test_has, has_got}
use Rattle.sqlite.specs.State.{State}
use Rattle.registry_names.proofs.KeyFacts.{same_true, same_self}
use Rattle.registry_rows.specs.TextKeys.{Texts, TextsMap, texts_are, places_from}
use Rattle.registry_rows.specs.Tables.{reference}
use Rattle.registry_rows.specs.Rows.{HasRowids, key_of}
use Rattle.registry_rows.specs.Statements.{is_wanted, shown_by, Finds}
use Rattle.registry_rows.specs.Ready.{IsReady, IsMapped}
use Rattle.registry_rows.proofs.ListFacts.{has_mapped, map_has}
use Rattle.registry_rows.proofs.TextKeyFacts.{texts_key, has_texts}
use Rattle.registry_rows.proofs.DeleteFacts.{own_id}
use Rattle.registry_rows.proofs.OneRowFacts.{row_types}
use Rattle.registry_rows.proofs.KeyedFacts.{texts_of}
use Rattle.registry_laws_sql.specs.Places.{Places, columns_at, texts_at}
use Rattle.registry_laws_sql.specs.Cascades.{Child, IsChild, HasChildren, link_of, links}
use Rattle.registry_laws_sql.proofs.PlaceFacts.{HasTextsAt, agree_texts, agree_none, no_null, firsts, columns_firsts, texts_firsts, typed_firsts, typed_at}
use Rattle.registry_laws_sql.proofs.LinkFacts.{work_of, is_due, work_links, link_works, link_is, no_link}
use Rattle.registry_laws_sql.proofs.SettleFacts.{hit, gone, IsLeaf}

-- ---- the rows that a DELETE takes out

pub taken_wanted : (wanted : List Term) (params : Row) (table found : List Row) → Finds wanted (col 1 0 ∷ []) params table found → HasRowids table
    → (x : Row) → Has (map (row_at table) (ids_of found)) x → Has table x × (is_wanted wanted params x ≡ true)
taken_wanted wanted params table found f ids x h =
    let i = has_mapped (row_at table) (ids_of found) x h in
    let y = has_mapped (λ (z : Row). id_in (rowid z)) found i.0 i.1 in
    let s = f.sound y.0 y.1 in
    let id : i.0 ≡ id_in (rowid s.0) = y.2 ∙ ap (λ (z : Row). id_in (rowid z)) s.3 in
    let same : x ≡ s.0 = i.2 ∙ row_at_is table i.0 s.0 ids.0 s.1 (subst (λ i. has_rowid i s.0 ≡ true) (sym id) (own_id s.0 (all_has _ table s.0 ids.1 s.1))) in
    (subst (Has table) (sym same) s.1, subst (λ z. is_wanted wanted params z ≡ true) (sym same) s.2)

pub wanted_taken : (wanted : List Term) (params : Row) (table found : List Row) → Finds wanted (col 1 0 ∷ []) params table found → HasRowids table
    → (x : Row) → Has table x → is_wanted wanted params x ≡ true → Has (map (row_at table) (ids_of found)) x
wanted_taken wanted params table found f ids x h pass =
    let id = map_has (λ (z : Row). id_in (rowid z)) found (shown_by (col 1 0 ∷ []) params x) (f.complete x h pass) in
    subst (Has (map (row_at table) (ids_of found))) (row_at_is table (id_in (rowid x)) x ids.0 h (own_id x (all_has _ table x ids.1 h))) (map_has (row_at table) (ids_of found) _ id)

-- ---- moves of rows that go

pub moved : (olds : List Row) (m : Row × Row) → Has (pairs olds []) m → (x : Row) × Has olds x × ◌≡◌ {A = Row × Row} m (x, [])
moved [] m h = absurd h
moved (x ∷ olds) m (inl same) = (x, inl refl, same)
moved (x ∷ olds) m (inr later) = let it = moved olds m later in (it.0, inr it.1, it.2)

pub moves : (olds : List Row) (x : Row) → Has olds x → Has (pairs olds []) (x, [])
moves [] x h = absurd h
moves (y ∷ olds) x (inl same) = inl (ap (λ (z : Row). (z, [])) same)
moves (y ∷ olds) x (inr later) = inr (moves olds x later)

module _ {C X : Type 0} {schema : Schema} {contents : Trees → C} {place : ℕ} {table : Table} {more : ℕ} {value : Row → X} {change : C → TextsMap more X → C} (t : IsMapped schema contents place table more value change)
    (s : State) (ready : IsReady schema s) (q : Texts more) (olds : List Row)
    (sound : (x : Row) → Has olds x → Has (s.now.trees table.tree) x × (q ≡ key_of more x)) (complete : (x : Row) → Has (s.now.trees table.tree) x → q ≡ key_of more x → Has olds x) where
  abbrev own : Places more
  own = firsts more 0

  own_texts : (x : Row) → Has (s.now.trees table.tree) x → HasTextsAt more own x
  own_texts x h = typed_firsts more 0 x (texts_of t s ready x h)

  module _ (c : Child C more) (is : IsChild schema contents c) (linked : Has (links schema table.tree) (link_of table c)) where
    child_texts : (r : Row) → Has (s.now.trees c.table.tree) r → HasTextsAt more c.places r
    child_texts r h = typed_at is.key_more more c.places is.within r (has_texts is.key_more c.table.columns (drop 1 r) is.texts (row_types schema s is.place c.table _ ready is.found is.shape is.plain r h))

    agrees : (r x : Row) → Has (s.now.trees c.table.tree) r → Has (s.now.trees table.tree) x → agree plain (columns_at more c.places) r (places_from more 1) x ≡ texts_are more (key_of more x) (texts_at more c.places r)
    agrees r x hr hx = ap (λ ps. agree plain (columns_at more c.places) r ps x) (sym (columns_firsts more 0)) ∙ agree_texts more c.places own r x (child_texts r hr) (own_texts x hx)
        ∙ ap (λ k. texts_are more k (texts_at more c.places r)) (texts_firsts more 0 x)

    parent_agrees : (r x : Row) → Has (s.now.trees c.table.tree) r → Has (s.now.trees table.tree) x → agree plain (places_from more 1) x (columns_at more c.places) r ≡ texts_are more (texts_at more c.places r) (key_of more x)
    parent_agrees r x hr hx = ap (λ ps. agree plain ps x (columns_at more c.places) r) (sym (columns_firsts more 0)) ∙ agree_texts more own c.places x r (own_texts x hx) (child_texts r hr)
        ∙ ap (texts_are more (texts_at more c.places r)) (texts_firsts more 0 x)

    lost : (x : Row) → Has (s.now.trees table.tree) x → loses plain (places_from more 1) (x, []) ≡ true
    lost x hx = subst (λ ps. loses plain ps (x, []) ≡ true) (columns_firsts more 0)
        (and_from _ _ (agree_texts more own own x x (own_texts x hx) (own_texts x hx) ∙ same_self (texts_key more) (texts_at more own x)) (ap not (agree_none more own x (own_texts x hx))))

    -- a row of the child has its parent
    parent_of : (r : Row) → Has (s.now.trees c.table.tree) r → (x : Row) × Has (s.now.trees table.tree) x × (texts_at more c.places r ≡ key_of more x)
    parent_of r h =
        let l = link_is schema table.tree [] (link_of table c) linked in
        let rule = all_has _ (s.now.trees c.table.tree) r (all_has _ s.now.schema.tables c.table (ready.sound.obeys.rules ForeignKey) (subst (λ z. Has z.tables c.table) (sym ready.schema_is) l.0)) h in
        let one : has_parent s.now.schema.tables s.now.trees r (reference (columns_at more c.places) table.name Cascade) ≡ true = test_has (has_parent s.now.schema.tables s.now.trees r) c.table.references _ rule l.1 in
        let some = subst (λ (z : Schema). (has_null (columns_at more c.places) r || is_held s.now.trees (columns_at more c.places) r (parent_key z.tables (reference (columns_at more c.places) table.name Cascade))) ≡ true) ready.schema_is one in
        let held : list_any (λ x. agree plain (places_from more 1) x (columns_at more c.places) r) (s.now.trees table.tree) ≡ true = rw (l.2, no_null more c.places r (child_texts r h)) at some in
        let x = some_has (λ x. agree plain (places_from more 1) x (columns_at more c.places) r) (s.now.trees table.tree) held in
        (x.0, x.1, same_true (texts_key more) _ _ (sym (parent_agrees r x.0 h x.1) ∙ x.2))

    hits : (r : Row) → Has (s.now.trees c.table.tree) r → hit (work_of 0 olds (link_of table c)) r ≡ true → texts_are more q (texts_at more c.places r) ≡ true
    hits r h any =
        let m = some_has (is_child_of (work_of 0 olds (link_of table c)) r) (pairs olds []) any in
        let x = moved olds m.0 m.1 in
        let o = sound x.0 x.1 in
        let same : agree plain (columns_at more c.places) r (places_from more 1) x.0 ≡ true = subst (λ (z : Row × Row). agree plain (columns_at more c.places) r (places_from more 1) z.0 ≡ true) x.2 (and_parts _ _ m.2).1 in
        ap (λ k. texts_are more k (texts_at more c.places r)) o.1 ∙ sym (agrees r x.0 h o.0) ∙ same

    due : (r : Row) → Has (s.now.trees c.table.tree) r → texts_are more q (texts_at more c.places r) ≡ true → (is_due olds (link_of table c) ≡ true) × (hit (work_of 0 olds (link_of table c)) r ≡ true)
    due r h is_q =
        let x = parent_of r h in
        let o = complete x.0 x.1 (same_true (texts_key more) q _ is_q ∙ x.2) in
        let away = lost x.0 x.1 in (
          some_from (loses plain (places_from more 1)) (pairs olds []) (x.0, []) (moves olds x.0 o) away,
          some_from (is_child_of (work_of 0 olds (link_of table c)) r) (pairs olds []) (x.0, []) (moves olds x.0 o)
              (and_from _ _ away (agrees r x.0 h x.1 ∙ ap (λ k. texts_are more k (texts_at more c.places r)) (sym x.2) ∙ same_self (texts_key more) (texts_at more c.places r))),
        )

  abbrev goes : List (Child C more) → ℕ → Row → Bool
  goes children n r = list_any (λ c. (c.table.tree == n) && texts_are more q (texts_at more c.places r)) children

  module _ (children : List (Child C more)) (has : HasChildren schema contents table children) where
    child_link : (c : Child C more) → Has children c → Has (links schema table.tree) (link_of table c)
    child_link c h = subst (λ ls. Has ls (link_of table c)) (sym has.linked) (map_has (link_of table) children c h)

    at_tree : (c : Child C more) (n : ℕ) (r : Row) → (c.table.tree == n) ≡ true → Has (s.now.trees n) r → Has (s.now.trees c.table.tree) r
    at_tree c n r here h = subst (λ i. Has (s.now.trees i) r) (sym (eqb-true c.table.tree n here)) h

    pub gone_is : (n : ℕ) (r : Row) → Has (s.now.trees n) r → not (gone (works schema Enforced 0 table.tree olds []) n r) ≡ not (goes children n r)
    gone_is n r h = elim (cases_Bool (goes children n r)) [
      | inl yes_ ↦ ap not (forth yes_ ∙ sym yes_)
      | inr out ↦ ap not (false_from_ne_true _ (λ any. true≢false (sym (back any) ∙ out)) ∙ sym out)
    ]
      where
        forth : goes children n r ≡ true → gone (works schema Enforced 0 table.tree olds []) n r ≡ true
        forth any =
            let c = some_has (λ (c : Child C more). (c.table.tree == n) && texts_are more q (texts_at more c.places r)) children any in
            let both = and_parts _ _ c.2 in
            let l = child_link c.0 c.1 in
            let d = due c.0 (all_has (IsChild schema contents) children c.0 has.each c.1) l r (at_tree c.0 n r both.0 h) both.1 in
            some_from (λ (w : Work). (w.child.tree == n) && hit w r) (works schema Enforced 0 table.tree olds []) (work_of 0 olds (link_of table c.0)) (link_works schema table.tree olds 0 (link_of table c.0) l d.0) (and_from _ _ both.0 d.1)

        back : gone (works schema Enforced 0 table.tree olds []) n r ≡ true → goes children n r ≡ true
        back any =
            let w = some_has (λ (w : Work). (w.child.tree == n) && hit w r) (works schema Enforced 0 table.tree olds []) any in
            let l = work_links schema table.tree olds 0 w.0 w.1 in
            let c = has_mapped (link_of table) children l.0 (subst (λ ls. Has ls l.0) has.linked l.1) in
            let is : w.0 ≡ work_of 0 olds (link_of table c.0) = l.3 ∙ ap (work_of 0 olds) c.2 in
            let both = and_parts _ _ (subst (λ (z : Work). ((z.child.tree == n) && hit z r) ≡ true) is w.2) in
            some_from (λ (c : Child C more). (c.table.tree == n) && texts_are more q (texts_at more c.places r)) children c.0 c.1
            (and_from _ _ both.0 (hits c.0 (all_has (IsChild schema contents) children c.0 has.each c.1) (child_link c.0 c.1) r (at_tree c.0 n r both.0 h) both.1))

    pub leaves : AllByRecursion (IsLeaf schema) (works schema Enforced 0 table.tree olds [])
    leaves = all_from _ _ (λ w h.
        let l = work_links schema table.tree olds 0 w h in
        let c = has_mapped (link_of table) children l.0 (subst (λ ls. Has ls l.0) has.linked l.1) in
        let is : w ≡ work_of 0 olds (link_of table c.0) = l.3 ∙ ap (work_of 0 olds) c.2 in
        let it = all_has (IsChild schema contents) children c.0 has.each c.1 in
        subst (IsLeaf schema) (sym is) (record {
          listed = has_got schema.tables it.place c.0.table it.found;
          deed = refl;
          quiet = λ depth gone_rows. no_link schema c.0.table.tree gone_rows it.quiet depth;
        }))
