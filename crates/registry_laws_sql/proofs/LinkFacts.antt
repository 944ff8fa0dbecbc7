-- The actions that a step sets off are those of the schema's links.
use Rattle.std.proofs.Common.{◌≡◌, ◌⊎◌, ◌==◌, inl, inr, ℕ, List, [], ◌∷◌, Bool, true, false, cond, ◌&&◌, Some, None, Option, refl, sym, ap, subst, ◌∙◌}
use Rattle.std.specs.List.{list_any, flat_map, filter_map, cons_option}
use Rattle.sqlite_value.specs.Order.{Row}
use Rattle.sqlite_schema.specs.declared.schema.Schema.{Schema}
use Rattle.sqlite_schema.specs.declared.schema.Table.{Table}
use Rattle.sqlite_schema.specs.declared.schema.Keys.TheVariants.{Enforced}
use Rattle.sqlite_schema.specs.declared.schema.Reference.{Reference}
use Rattle.sqlite_schema.specs.Rules.{ParentKey, parent_key}
use Rattle.sqlite_rules.specs.declared.action.Deed.{Deed}
use Rattle.sqlite_rules.specs.Action.{Work, pairs, loses, work_by, work_for, works, deed_for}
use Rattle.sqlite_rules.specs.Lists.{Has}
use Rattle.sqlite_rules.proofs.ListLemmas.{has_left, has_right, has_either}
use Rattle.registry_rows.specs.Statements.{IsUncascaded}
use Rattle.registry_laws_sql.specs.Cascades.{Link, link_by, link_for, links}

-- ---- members of lists of lists

pub flat_has : {A B : Type 0} (f : A → List B) (xs : List A) (y : B) → Has (flat_map f xs) y → (x : A) × Has xs x × Has (f x) y
flat_has f [] y h = absurd h
flat_has f (x ∷ xs) y h = elim (has_either (f x) (flat_map f xs) y h) [
  | inl here ↦ (x, inl refl, here)
  | inr later ↦ let it = flat_has f xs y later in (it.0, inr it.1, it.2)
]

pub has_flat : {A B : Type 0} (f : A → List B) (xs : List A) (x : A) (y : B) → Has xs x → Has (f x) y → Has (flat_map f xs) y
has_flat f [] x y h k = absurd h
has_flat f (z ∷ xs) x y (inl same) k = has_left (f z) (flat_map f xs) y (subst (λ (w : _). Has (f w) y) same k)
has_flat f (z ∷ xs) x y (inr later) k = has_right (f z) (flat_map f xs) y (has_flat f xs x y later k)

given_has : {B : Type 0} (o : Option B) (ys : List B) (y : B) → Has (cons_option o ys) y → (o ≡ Some y) ⊎ Has ys y
given_has None ys y h = inr h
given_has (Some z) ys y (inl same) = inl (ap (λ (w : _). Some w) (sym same))
given_has (Some z) ys y (inr later) = inr later

has_given : {B : Type 0} (o : Option B) (ys : List B) (y : B) → (o ≡ Some y) ⊎ Has ys y → Has (cons_option o ys) y
has_given None ys y (inl e) = absurd cc
has_given None ys y (inr h) = h
has_given (Some z) ys y (inl e) = let same : y ≡ z = cc in inl same
has_given (Some z) ys y (inr h) = inr h

pub picked_has : {A B : Type 0} (f : A → Option B) (xs : List A) (y : B) → Has (filter_map f xs) y → (x : A) × Has xs x × (f x ≡ Some y)
picked_has f [] y h = absurd h
picked_has f (x ∷ xs) y h = elim (given_has (f x) (filter_map f xs) y h) [
  | inl here ↦ (x, inl refl, here)
  | inr later ↦ let it = picked_has f xs y later in (it.0, inr it.1, it.2)
]

pub has_picked : {A B : Type 0} (f : A → Option B) (xs : List A) (x : A) (y : B) → Has xs x → f x ≡ Some y → Has (filter_map f xs) y
has_picked f [] x y h e = absurd h
has_picked f (z ∷ xs) x y (inl same) e = has_given (f z) (filter_map f xs) y (inl (ap f (sym same) ∙ e))
has_picked f (z ∷ xs) x y (inr later) e = has_given (f z) (filter_map f xs) y (inr (has_picked f xs x y later e))

-- ---- a link and its work

abbrev pub work_of : ℕ → List Row → Link → Work
work_of depth olds l = record { depth = depth; child = l.child; ref = l.ref; places = l.key.1; order = l.key.2; deed = l.deed; moves = pairs olds [] }

-- some row lost the key that the link points to
abbrev pub is_due : List Row → Link → Bool
is_due olds l = list_any (loses l.key.2 l.key.1) (pairs olds [])

module _ (tree depth : ℕ) (olds : List Row) (child : Table) (ref : Reference) where
  linked : (deed : Option Deed) (key : Option ParentKey) (w : Work) → work_by depth tree (pairs olds []) child ref deed key ≡ Some w
      → (l : Link) × (link_by tree child ref deed key ≡ Some l) × (is_due olds l ≡ true) × (w ≡ work_of depth olds l)
  linked None key w e = absurd cc
  linked (Some deed) None w e = absurd cc
  linked (Some deed) (Some key) w e = go (key.0 == tree) (list_any (loses key.2 key.1) (pairs olds [])) refl refl e
    where
      l : Link
      l = record { child = child; ref = ref; deed = deed; key = key }

      go : (a b : Bool) → (key.0 == tree) ≡ a → list_any (loses key.2 key.1) (pairs olds []) ≡ b → cond (a && b) (Some (work_of depth olds (record { child = child; ref = ref; deed = deed; key = key }))) None ≡ Some w
          → (l : Link) × (link_by tree child ref (Some deed) (Some key) ≡ Some l) × (is_due olds l ≡ true) × (w ≡ work_of depth olds l)
      go true true here lost e = (record { child = child; ref = ref; deed = deed; key = key }, rw here refl, lost, let same : work_of depth olds (record { child = child; ref = ref; deed = deed; key = key }) ≡ w = cc in sym same)
      go true false here lost e = absurd cc
      go false b here lost e = absurd cc

  worked : (deed : Option Deed) (key : Option ParentKey) (l : Link) → link_by tree child ref deed key ≡ Some l → is_due olds l ≡ true → work_by depth tree (pairs olds []) child ref deed key ≡ Some (work_of depth olds l)
  worked None key l e due = absurd cc
  worked (Some deed) None l e due = absurd cc
  worked (Some deed) (Some key) l e due = go (key.0 == tree) refl e
    where
      go : (a : Bool) → (key.0 == tree) ≡ a → ◌≡◌ {A = Option Link} (cond a (Some (record { child = child; ref = ref; deed = deed; key = key })) None) (Some l) → work_by depth tree (pairs olds []) child ref (Some deed) (Some key) ≡ Some (work_of depth olds l)
      go true here e =
          let same : ◌≡◌ {A = Link} (record { child = child; ref = ref; deed = deed; key = key }) l = cc in
          let lost : list_any (loses key.2 key.1) (pairs olds []) ≡ true = ap (is_due olds) same ∙ due in
          rw (here, lost) (ap (λ (x : Link). Some (work_of depth olds x)) same)
      go false here e = absurd cc

  -- the parts of a link
  pub link_parts : (deed : Option Deed) (key : Option ParentKey) (l : Link) → link_by tree child ref deed key ≡ Some l → (l.child ≡ child) × (l.ref ≡ ref) × (key ≡ Some l.key)
  link_parts None key l e = absurd cc
  link_parts (Some deed) None l e = absurd cc
  link_parts (Some deed) (Some key) l e = go (key.0 == tree) e
    where
      go : (a : Bool) → ◌≡◌ {A = Option Link} (cond a (Some (record { child = child; ref = ref; deed = deed; key = key })) None) (Some l) → (l.child ≡ child) × (l.ref ≡ ref) × (Some key ≡ Some l.key)
      go true e =
          let same : ◌≡◌ {A = Link} l (record { child = child; ref = ref; deed = deed; key = key }) = cc in
          (ap (λ (x : Link). x.child) same, ap (λ (x : Link). x.ref) same, ap (λ (x : Link). Some x.key) (sym same))
      go false e = absurd cc

module _ (schema : Schema) (tree : ℕ) (olds : List Row) where
  pub work_links : (depth : ℕ) (w : Work) → Has (works schema Enforced depth tree olds []) w → (l : Link) × Has (links schema tree) l × (is_due olds l ≡ true) × (w ≡ work_of depth olds l)
  work_links depth w h =
      let c = flat_has (λ child. filter_map (work_for schema Enforced depth tree olds [] child) child.references) schema.tables w h in
      let r = picked_has (work_for schema Enforced depth tree olds [] c.0) c.0.references w c.2 in
      let l = linked tree depth olds c.0 r.0 (deed_for Enforced true r.0) (parent_key schema.tables r.0) w r.2 in
      (l.0, has_flat (λ child. filter_map (link_for schema tree child) child.references) schema.tables c.0 l.0 c.1 (has_picked (link_for schema tree c.0) c.0.references r.0 l.0 r.1 l.1), l.2, l.3)

  pub link_works : (depth : ℕ) (l : Link) → Has (links schema tree) l → is_due olds l ≡ true → Has (works schema Enforced depth tree olds []) (work_of depth olds l)
  link_works depth l h due =
      let c = flat_has (λ child. filter_map (link_for schema tree child) child.references) schema.tables l h in
      let r = picked_has (link_for schema tree c.0) c.0.references l c.2 in
      has_flat (λ child. filter_map (work_for schema Enforced depth tree olds [] child) child.references) schema.tables c.0 (work_of depth olds l) c.1
      (has_picked (work_for schema Enforced depth tree olds [] c.0) c.0.references r.0 (work_of depth olds l) r.1 (worked tree depth olds c.0 r.0 (deed_for Enforced true r.0) (parent_key schema.tables r.0) l r.2 due))

  -- whose link it is
  pub link_is : (l : Link) → Has (links schema tree) l → Has schema.tables l.child × Has l.child.references l.ref × (parent_key schema.tables l.ref ≡ Some l.key)
  link_is l h =
      let c = flat_has (λ child. filter_map (link_for schema tree child) child.references) schema.tables l h in
      let r = picked_has (link_for schema tree c.0) c.0.references l c.2 in
      let p = link_parts tree 0 olds c.0 r.0 (deed_for Enforced true r.0) (parent_key schema.tables r.0) l r.2 in
      (subst (Has schema.tables) (sym p.0) c.1, subst (λ (t : Table). Has t.references l.ref) (sym p.0) (subst (Has c.0.references) (sym p.1) r.1), ap (parent_key schema.tables) p.1 ∙ p.2)

  -- where there is no link there is no work
  pub no_link : links schema tree ≡ [] → (depth : ℕ) → works schema Enforced depth tree olds [] ≡ []
  no_link none depth = go (works schema Enforced depth tree olds []) (λ w h. let l = work_links depth w h in subst (λ ls. Has ls l.0) none l.1)
    where
      go : (ws : List Work) → ((w : Work) → Has ws w → ⊥) → ws ≡ []
      go [] out = refl
      go (w ∷ ws) out = absurd (out w (inl refl))

-- nothing goes with the rows of a table that no link points to
pub unlinked : (schema : Schema) (table : Table) → links schema table.tree ≡ [] → IsUncascaded schema table
unlinked schema table none olds = no_link schema table.tree olds none 0
