-- What a step and the actions that it sets off leave of each table, where nothing cascades any
-- further.
use Rattle.std.proofs.Common.{◌≡◌, ◌≢◌, ◌==◌, ◌+◌, inl, inr, ℕ, zero, suc, ℤ, List, [], ◌∷◌, ◌++◌, filter, Bool, true, false, not, ◌&&◌, ◌||◌, Some, Ok, Err, refl, sym, ap, subst, ◌∙◌, true≢false, append-nil, nat_lt}
use Rattle.std.specs.List.{AllByRecursion, list_any}
use Rattle.std.specs.Bool.{MatchBool}
use Rattle.std.proofs.lemmas.Bool.{cases_Bool, false_from_ne_true, eqb-true, eqb-false}
use Rattle.sqlite.specs.declared.types.Value.TheVariants.{Int}
use Rattle.sqlite_value.specs.Order.{Row}
use Rattle.sqlite_trees.specs.Tree.{Trees, rowid, has_rowid}
use Rattle.sqlite_trees.specs.declared.store.Shape.TheVariants as shape
use Rattle.sqlite_trees.proofs.TreeLemmas.{IsShaped-filter}
use Rattle.sqlite_schema.specs.declared.schema.Schema.{Schema}
use Rattle.sqlite_schema.specs.declared.schema.Table.{Table}
use Rattle.sqlite_schema.specs.declared.schema.Keys.TheVariants.{Enforced}
use Rattle.sqlite_rules.specs.declared.error.Rowids.TheVariants.{Given}
use Rattle.sqlite_rules.specs.declared.error.Refusal.TheVariants.{TooDeep}
use Rattle.sqlite_rules.specs.declared.action.Deed.TheVariants.{Delete}
use Rattle.sqlite_rules.specs.Edit.{Edit, edit_of, id_in, without_all, taken_by, Applies}
use Rattle.sqlite_rules.specs.Action.{Work, End, works, is_child_of, AreChildren, Goes, ActsOn, Acts, Leads, Writes, max_depth}
use Rattle.sqlite_rules.specs.Lists.{Has}
use Rattle.sqlite_rules.proofs.TableLemmas.{int_is}
use Rattle.sqlite_rules.proofs.PlaceLemmas.{row_at_is}
use Rattle.sqlite_rules.proofs.ListLemmas.{all_has, all_from, some_has, some_from, has_last, has_left}
use Rattle.registry_rows.specs.Rows.{HasRowids}
use Rattle.registry_rows.proofs.ListFacts.{filter_same, filter_twice, not-or}
use Rattle.registry_rows.proofs.DeleteFacts.{without_is, own_id}
use Rattle.registry_rows.proofs.LookUpFacts.{all_pass}

abbrev pub hit : Work → Row → Bool
hit w r = list_any (is_child_of w r) w.moves

-- a row of this tree is a child that some work deletes
abbrev pub gone : List Work → ℕ → Row → Bool
gone stack tree r = list_any (λ w. (w.child.tree == tree) && hit w r) stack

-- the work deletes rows of a table that nothing cascades from
pub record IsLeaf (schema : Schema) (w : Work) : Type 0 where
  pub listed : Has schema.tables w.child
  pub deed : w.deed ≡ Delete
  pub quiet : (depth : ℕ) (olds : List Row) → works schema Enforced depth w.child.tree olds [] ≡ []

left_test : (p : Row → Bool) (table : List Row) (ids : List ℤ) → HasRowids table → ((id : ℤ) → Has ids id → (r : Row) × Has table r × (p r ≡ true) × (rowid r ≡ Int id))
    → ((r : Row) (id : ℤ) → Has table r → p r ≡ true → rowid r ≡ Int id → Has ids id) → without_all table ids ≡ filter (λ r. not (p r)) table
left_test p table ids up sound complete = without_is ids table ∙ filter_same _ _ table same
  where
    stays : (r : Row) → Has table r → p r ≡ false → list_any (λ id. has_rowid id r) ids ≡ true → ⊥
    stays r h out any =
        let it = some_has (λ id. has_rowid id r) ids any in
        let s = sound it.0 it.1 in
        let keyed : has_rowid it.0 s.0 ≡ true = subst (λ i. has_rowid i s.0 ≡ true) (ap id_in s.3) (own_id s.0 (all_has _ table s.0 up.1 s.1)) in
        let same : r ≡ s.0 = sym (row_at_is table it.0 r up.0 h it.2) ∙ row_at_is table it.0 s.0 up.0 s.1 keyed in
        absurd (true≢false (sym s.2 ∙ subst (λ z. p z ≡ false) same out))

    same : (r : Row) → Has table r → not (list_any (λ id. has_rowid id r) ids) ≡ not (p r)
    same r h = elim (cases_Bool (p r)) [
      | inl pass ↦ rw (pass, some_from (λ id. has_rowid id r) ids (id_in (rowid r)) (complete r (id_in (rowid r)) h pass (int_is (rowid r) (all_has _ table r up.1 h))) (own_id r (all_has _ table r up.1 h)))
      | inr out ↦ rw (out, false_from_ne_true _ (stays r h out))
    ]

not_deep : (b : Bool) (P : Type 0) (x : Trees) → MatchBool b P (◌≡◌ {A = End} (Ok x) (Err (Some TooDeep))) → P
not_deep true P x h = h
not_deep false P x h = absurd cc

module _ (schema : Schema) (Next : Trees → List Work → End → Type 0) (db : Trees) (w : Work) (below : List Work) (out : Trees) (leaf : IsLeaf schema w) (ids_db : HasRowids (db w.child.tree)) where
  abbrev After : Trees → Type 0
  After next = (next w.child.tree ≡ filter (λ r. not (hit w r)) (db w.child.tree)) × AllByRecursion (λ (t : Table). t.tree ≢ w.child.tree → next t.tree ≡ db t.tree) schema.tables

  children : (ids : List ℤ) → AreChildren db w ids → without_all (db w.child.tree) ids ≡ filter (λ r. not (hit w r)) (db w.child.tree)
  children ids are = left_test (hit w) (db w.child.tree) ids ids_db are.sound are.complete

  acted : (ids : List ℤ) → AreChildren db w ids → ActsOn schema Enforced Next db w below (Ok out) ids → (next : Trees) × After next × Next next below (Ok out)
  acted [] are h = (db, (children [] are, all_from _ schema.tables (λ t _ _. refl)), h)
  acted (id ∷ ids) are h = go (rw leaf.deed at h)
    where
      go : Goes schema Enforced Next db (edit_of db w.child (id ∷ ids) Given 0 []) (w.depth + 1) below (Ok out) → (next : Trees) × After next × Next next below (Ok out)
      go (inl refused) = absurd (let e = refused.2 in cc)
      go (inr (inl big)) = absurd (let e = big.3 in cc)
      go (inr (inr it)) = (
        it.0,
        (it.1.rows ∙ children (id ∷ ids) are, it.1.tables),
        subst (λ s. Next it.0 s (Ok out)) (append-nil below) (subst (λ s. Next it.0 (below ++ s) (Ok out)) (leaf.quiet (w.depth + 1) (taken_by db (edit_of db w.child (id ∷ ids) Given 0 []))) it.2),
      )

  pub step : Acts schema Enforced Next db w below (Ok out) → (next : Trees) × After next × Next next below (Ok out)
  step h = let it = not_deep (nat_lt w.depth max_depth) _ out h in acted it.0 it.1 it.2

list_any-last : {A : Type 0} (f : A → Bool) (xs : List A) (x : A) → list_any f (xs ++ x ∷ []) ≡ (f x || list_any f xs)
list_any-last f [] x = refl
list_any-last f (y ∷ xs) x = elim (f y) as (λ b. (b || list_any f (xs ++ x ∷ [])) ≡ (f x || (b || list_any f xs))) [ true ↦ or_true (f x) | false ↦ list_any-last f xs x ]
  where
    or_true : (b : Bool) → true ≡ (b || true)
    or_true true = refl
    or_true false = refl

next_is : (schema : Schema) (db : Trees) (w : Work) (next : Trees)
    → (next w.child.tree ≡ filter (λ r. not (hit w r)) (db w.child.tree)) × AllByRecursion (λ (t : Table). t.tree ≢ w.child.tree → next t.tree ≡ db t.tree) schema.tables
    → (t : Table) → Has schema.tables t → next t.tree ≡ filter (λ r. not ((w.child.tree == t.tree) && hit w r)) (db t.tree)
next_is schema db w next after t listed = elim (cases_Bool (w.child.tree == t.tree)) [
  | inl here ↦ rw here (subst (λ n. next n ≡ filter (λ r. not (hit w r)) (db n)) (eqb-true w.child.tree t.tree here) after.0)
  | inr other ↦ rw other (all_has _ schema.tables t after.1 listed (λ same. eqb-false w.child.tree t.tree other (sym same)) ∙ sym (all_pass (db t.tree)))
]

-- each table, once all works are done
pub settles : (schema : Schema) (n : ℕ) (db : Trees) (stack : List Work) (out : Trees) → AllByRecursion (IsLeaf schema) stack → ((t : Table) → Has schema.tables t → HasRowids (db t.tree))
    → Leads schema Enforced n db stack (Ok out) → (t : Table) → Has schema.tables t → out t.tree ≡ filter (λ r. not (gone stack t.tree r)) (db t.tree)
settles schema zero db stack out leaves up h t listed =
    let end = h.1 in
    let same : out ≡ db = cc in
    subst (λ s. out t.tree ≡ filter (λ r. not (gone s t.tree r)) (db t.tree)) (sym h.0) (ap (λ (d : Trees). d t.tree) same ∙ sym (all_pass (db t.tree)))
settles schema (suc n) db stack out leaves up h t listed =
    let below = h.0 in
    let w = h.1 in
    let each = subst (AllByRecursion (IsLeaf schema)) h.2 leaves in
    let leaf = all_has (IsLeaf schema) (below ++ w ∷ []) w each (has_last (below ++ w ∷ []) below w refl) in
    let it = step schema (Leads schema Enforced n) db w below out leaf (up w.child leaf.listed) h.3 in
    let now = next_is schema db w it.0 it.1 in
    let later = settles schema n it.0 below out (all_from (IsLeaf schema) below (λ x k. all_has (IsLeaf schema) (below ++ w ∷ []) x each (has_left below (w ∷ []) x k)))
    (λ u k. subst HasRowids (sym (now u k)) (IsShaped-filter shape.Table (λ r. not ((w.child.tree == u.tree) && hit w r)) (db u.tree) (up u k))) it.2 t listed in
    later ∙ ap (filter (λ r. not (gone below t.tree r))) (now t listed) ∙ filter_twice (λ r. not ((w.child.tree == t.tree) && hit w r)) (λ r. not (gone below t.tree r)) (db t.tree)
    ∙ filter_same _ (λ r. not (gone stack t.tree r)) (db t.tree) (λ r _. not-or ((w.child.tree == t.tree) && hit w r) (gone below t.tree r)
    ∙ ap not (sym (subst (λ s. gone s t.tree r ≡ (((w.child.tree == t.tree) && hit w r) || gone below t.tree r)) (sym h.2) (list_any-last (λ v. (v.child.tree == t.tree) && hit v r) below w))))

-- an edit that ends well, with the works that it sets off
pub cascades : (schema : Schema) (db : Trees) (edit : Edit) (out : Trees) → AllByRecursion (IsLeaf schema) (works schema Enforced 0 edit.table.tree (taken_by db edit) edit.news)
    → ((mid : Trees) → Applies schema Enforced db edit mid → (t : Table) → Has schema.tables t → HasRowids (mid t.tree)) → Writes schema Enforced db edit (Ok out)
    → (mid : Trees) × Applies schema Enforced db edit mid
    × ((t : Table) → Has schema.tables t → out t.tree ≡ filter (λ r. not (gone (works schema Enforced 0 edit.table.tree (taken_by db edit) edit.news) t.tree r)) (mid t.tree))
cascades schema db edit out leaves up (inl refused) = absurd (let e = refused.2 in cc)
cascades schema db edit out leaves up (inr (inl big)) = absurd (let e = big.3 in cc)
cascades schema db edit out leaves up (inr (inr went)) = (went.0, went.1, settles schema went.2.0 went.0 _ out leaves (up went.0 went.1) went.2.1)
