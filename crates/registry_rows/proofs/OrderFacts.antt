-- The rows that a query shows, one for each key and in the order of the keys, are the entries of a
-- map.
use Rattle.std.proofs.Common.{◌≡◌, ◌+◌, suc, Bool, true, false, cond, List, [], ◌∷◌, map, filter, refl, sym, ◌∙◌, ap, ap₂, subst, true≢false, Some, None, Option, option_map, inl, inr, arith, Ordering, Less, Equal, Greater, get_or}
use Rattle.std.specs.Ordering.{is_lt, on, ordering_reverse}
use Rattle.std.specs.List.{IsDistinct, AllByRecursion}
use Rattle.std.specs.List.Sorted.{IsSorted}
use Rattle.std.specs.Cmp.{tied_itself}
use Rattle.std.proofs.lemmas.Bool.{false_from_ne_true}
use Rattle.std.proofs.lemmas.Map.Keys.{IsDistinct-IsPermutation}
use Rattle.sqlite_value.specs.Order.{Row, value_cmp}
use Rattle.sqlite_value.specs.declared.keys.Key.{Key}
use Rattle.sqlite_value.proofs.OrderLemmas.{value_cmp_total}
use Rattle.sqlite_trees.specs.Tree.{IsTable, rowid}
use Rattle.sqlite_sql.specs.Term.{Term}
use Rattle.sqlite_sql.specs.Query.{key_cmp}
use Rattle.sqlite_rules.specs.Lists.{Has}
use Rattle.sqlite_rules.proofs.ListLemmas.{all_has, all_from, has_filtered}
use Rattle.registry_names.specs.Keys.{IsKey}
use Rattle.registry_names.specs.Maps.{first_at, rises, seen}
use Rattle.registry_names.proofs.KeyFacts.{same_true, same_self, same_sym}
use Rattle.registry_names.proofs.EntryFacts.{rises_more, rises_seen, first_at-seen, same_rows}
use Rattle.registry_rows.specs.Statements.{Selects, is_wanted, shown_by}
use Rattle.registry_rows.proofs.ListFacts.{has_mapped, map_has, has_back}
use Rattle.registry_rows.proofs.SelectFacts.{finds}
use Rattle.registry_rows.proofs.RowFacts.{some_same, never_some}

module _ {R : Type 0} {cmp : R → R → Ordering} {same : R → R → Bool} (rest : IsKey cmp same) where
  -- not above, and not the same
  below : (a b : R) → is_lt (cmp b a) ≡ false → same a b ≡ false → is_lt (cmp a b) ≡ true
  below a b low differ = go (cmp a b) refl
    where
      go : (o : Ordering) → cmp a b ≡ o → is_lt o ≡ true
      go Less e = refl
      go Equal e = absurd (true≢false (sym (same_self rest a) ∙ ap (same a) (rest.exact a b e) ∙ differ))
      go Greater e = absurd (true≢false (sym (ap is_lt (rest.total.antisymm b a ∙ ap ordering_reverse e)) ∙ low))

-- ---- look-ups in a list of entries

module _ {R Y : Type 0} {cmp : R → R → Ordering} {same : R → R → Bool} (rest : IsKey cmp same) where
  found_here : (k : R) (y : Y) (e : R × Y) (es : List (R × Y)) → (first_at same es k ≡ Some y → Has es (k, y)) → (b : Bool) → same e.0 k ≡ b → cond b (Some e.1) (first_at same es k) ≡ Some y → Has (e ∷ es) (k, y)
  found_here k y e es later true t h = inl (ap₂ (λ (a : R) (b : Y). (a, b)) (sym (same_true rest e.0 k t)) (sym (some_same h)))
  found_here k y e es later false t h = inr (later h)

  pub found_has : (k : R) (y : Y) (es : List (R × Y)) → first_at same es k ≡ Some y → Has es (k, y)
  found_has k y [] h = absurd (never_some h)
  found_has k y (e ∷ es) h = found_here k y e es (found_has k y es) (same e.0 k) refl h

  here_found : (k : R) (y : Y) (e : R × Y) (es : List (R × Y)) → (Has es (k, y) → (z : Y) × (first_at same es k ≡ Some z)) → (b : Bool) → same e.0 k ≡ b → Has (e ∷ es) (k, y) → (z : Y) × (cond b (Some e.1) (first_at same es k) ≡ Some z)
  here_found k y e es later true t h = (e.1, refl)
  here_found k y e es later false t (inl is) = absurd (true≢false (sym (same_self rest k) ∙ ap (λ (x : R × Y). same x.0 k) is ∙ t))
  here_found k y e es later false t (inr more) = later more

  has_found : (k : R) (y : Y) (es : List (R × Y)) → Has es (k, y) → (z : Y) × (first_at same es k ≡ Some z)
  has_found k y [] h = absurd h
  has_found k y (e ∷ es) h = here_found k y e es (has_found k y es) (same e.0 k) refl h

module _ {R X Y : Type 0} {cmp : R → R → Ordering} {same : R → R → Bool} (rest : IsKey cmp same) (table : List Row) (wanted project : List Term) (order : List (Term × Key)) (params : Row)
    (key : Row → R) (value : Row → X) (g : X → Y) (entry : Row → R × Y) (up : IsTable table)
    (shows : (r : Row) → Has table r → is_wanted wanted params r ≡ true → entry (shown_by project params r) ≡ (key r, g (value r)))
    (apart : (a b : Row) → Has table a → Has table b → is_wanted wanted params a ≡ true → is_wanted wanted params b ≡ true → key a ≡ key b → a ≡ b)
    (sorts : (a b : Row) → Has table a → Has table b → is_wanted wanted params a ≡ true → is_wanted wanted params b ≡ true
    → key_cmp 0 (map (λ k. k.1) order) (shown_by (map (λ k. k.0) order) params a) (shown_by (map (λ k. k.0) order) params b) ≡ cmp (key a) (key b)) where
  abbrev w : Row → Bool
  w = is_wanted wanted params

  abbrev f : Row → Row × Row
  f r = (shown_by (map (λ k. k.0) order) params r, shown_by project params r)

  abbrev k : Row × Row → R
  k o = (entry o.1).0

  abbrev same_key : Row × Row → Row × Row → Bool
  same_key a b = same (k a) (k b)

  key_is : (r : Row) → Has table r → w r ≡ true → k (f r) ≡ key r
  key_is r h pass = ap (λ (e : R × Y). e.0) (shows r h pass)

  -- no two rows that pass have one key
  differ : (r x : Row) → Has table r → Has table x → w r ≡ true → w x ≡ true → value_cmp (rowid r) (rowid x) ≡ Less → same_key (f r) (f x) ≡ true → ⊥
  differ r x hr hx wr wx less is =
      let one = apart r x hr hx wr wx (sym (key_is r hr wr) ∙ same_true rest _ _ is ∙ key_is x hx wx) in
      absurd (let t = sym (tied_itself value_cmp_total (rowid r)) ∙ ap (λ (z : Row). value_cmp (rowid r) (rowid z)) one ∙ less in cc)

  distinct_one : (r : Row) (rs : List Row) → AllByRecursion (λ x. value_cmp (rowid r) (rowid x) ≡ Less) rs → Has table r → ((x : Row) → Has rs x → Has table x) → IsDistinct same_key (map f (filter w rs))
      → (b : Bool) → w r ≡ b → IsDistinct same_key (map f (cond b (r ∷ filter w rs) (filter w rs)))
  unfolding IsDistinct
  distinct_one r rs low hr sub more true pass = (
    all_from _ (map f (filter w rs)) (λ o h.
        let x = has_mapped f (filter w rs) o h in
        let t = has_filtered w rs x.0 x.1 in
        false_from_ne_true _ (λ is. differ r x.0 hr (sub x.0 t.0) pass t.1 (all_has _ rs x.0 low t.0) (subst (λ (z : Row × Row). same_key (f r) z ≡ true) x.2 is))),
    more,
  )
  distinct_one r rs low hr sub more false pass = more

  distinct : (rs : List Row) → IsTable rs → ((r : Row) → Has rs r → Has table r) → IsDistinct same_key (map f (filter w rs))
  unfolding IsDistinct
  distinct [] rise sub = tt
  distinct (r ∷ rs) rise sub = distinct_one r rs rise.0 (sub r (inl refl)) (λ x h. sub x (inr h)) (distinct rs rise.1 (λ x h. sub x (inr h))) (w r) refl

  -- each is the image of a row that passes
  abbrev AreImages : List (Row × Row) → Type 0
  AreImages os = (o : Row × Row) → Has os o → (r : Row) × Has table r × (w r ≡ true) × (o ≡ f r)

  abbrev sort : Row → Row → Ordering
  sort = key_cmp 0 (map (λ k. k.1) order)

  sort_is : (os : List (Row × Row)) → AreImages os → (o q : Row × Row) → Has os o → Has os q → sort q.0 o.0 ≡ cmp (k q) (k o)
  sort_is os images o q ho hq =
      let r = images o ho in
      let s = images q hq in
      ap₂ (λ (a b : Row × Row). sort a.0 b.0) s.3 r.3 ∙ sorts s.0 r.0 s.1 r.1 s.2 r.2
      ∙ ap₂ cmp (sym (ap k s.3 ∙ key_is s.0 s.1 s.2)) (sym (ap k r.3 ∙ key_is r.0 r.1 r.2))

  strict : (os : List (Row × Row)) → AreImages os → IsSorted (on (λ (o : Row × Row). o.0) sort) os → IsDistinct same_key os → rises cmp (map (λ (o : Row × Row). entry o.1) os) ≡ true
  unfolding IsDistinct
  strict [] images rise apart = refl
  strict (o ∷ []) images rise apart = refl
  strict (o ∷ q ∷ os) images rise apart =
      let tail = strict (q ∷ os) (λ x h. images x (inr h)) (λ i d low high. let e : suc i + 1 ≡ suc (i + 1) = omega arith in
      subst (λ j. is_lt (on (λ (z : Row × Row). z.0) sort (get_or (o ∷ q ∷ os) j d) (get_or (q ∷ os) i d)) ≡ false) e (rise (suc i) d (omega (arith, low)) (omega (arith, high)))) apart.1 in
      let low : is_lt (cmp (k q) (k o)) ≡ false = ap is_lt (sym (sort_is (o ∷ q ∷ os) images o q (inl refl) (inr (inl refl)))) ∙ rise 0 o (omega arith) (omega arith) in
      rises_more rest (entry o.1) (entry q.1) (map (λ (o : Row × Row). entry o.1) os) (below rest (k o) (k q) low apart.0.0) tail

  twice : (os : List (Row × Row)) → map entry (map (λ (o : Row × Row). o.1) os) ≡ map (λ (o : Row × Row). entry o.1) os
  twice [] = refl
  twice (o ∷ os) = ap (λ l. entry o.1 ∷ l) (twice os)

  shown_rise : (rows : List Row) → Selects wanted project order params table rows → rises cmp (map entry rows) ≡ true
  shown_rise rows s =
      let images : AreImages s.ordered = λ o h.
      let x = has_mapped f (filter w table) o (has_back (map f (filter w table)) s.ordered o s.same h) in
      let t = has_filtered w table x.0 x.1 in
      (x.0, t.0, t.1, x.2) in
      ap (rises cmp) (ap (map entry) s.shown ∙ twice s.ordered)
      ∙ strict s.ordered images s.sorted (IsDistinct-IsPermutation same_key (λ a b. same_sym rest (k a) (k b)) (map f (filter w table)) s.ordered s.same (distinct table up (λ r h. h)))

  module _ (look_up : R → Option X) (hits : (r : Row) → Has table r → w r ≡ true → look_up (key r) ≡ Some (value r))
      (stands : (j : R) (x : X) → look_up j ≡ Some x → (r : Row) × Has table r × (w r ≡ true) × (key r ≡ j) × (value r ≡ x)) (rows : List Row) (s : Selects wanted project order params table rows) where
    -- an entry that is shown is of a row with this key
    of_row : (j : R) (y : Y) → Has (map entry rows) (j, y) → (r : Row) × Has table r × (w r ≡ true) × (key r ≡ j) × (g (value r) ≡ y)
    of_row j y h =
        let x = has_mapped entry rows (j, y) h in
        let r = (finds wanted project order params table rows s).sound x.0 x.1 in
        let e : ◌≡◌ {A = R × Y} (j, y) (key r.0, g (value r.0)) = x.2 ∙ ap entry r.3 ∙ shows r.0 r.1 r.2 in
        (r.0, r.1, r.2, sym (ap (λ (z : R × Y). z.0) e), sym (ap (λ (z : R × Y). z.1) e))

    nothing : (j : R) (o : Option Y) → look_up j ≡ None → first_at same (map entry rows) j ≡ o → o ≡ None
    nothing j None e h = refl
    nothing j (Some y) e h = let r = of_row j y (found_has rest j y (map entry rows) h) in absurd (never_some (sym e ∙ ap look_up (sym r.3) ∙ hits r.0 r.1 r.2))

    found : (j : R) (o : Option X) → look_up j ≡ o → first_at same (map entry rows) j ≡ option_map g o
    found j None e = nothing j _ e refl
    found j (Some x) e =
        let r = stands j x e in
        let there = subst (Has (map entry rows)) (shows r.0 r.1 r.2 ∙ ap₂ (λ (a : R) (b : Y). (a, b)) r.3 (ap g r.4)) (map_has entry rows (shown_by project params r.0) ((finds wanted project order params table rows s).complete r.0 r.1 r.2)) in
        let z = has_found rest j (g x) (map entry rows) there in
        let back = of_row j z.0 (found_has rest j z.0 (map entry rows) z.1) in
        let same_value : value back.0 ≡ x = some_same (sym (hits back.0 back.1 back.2) ∙ ap look_up back.3 ∙ e) in
        z.1 ∙ ap (λ (y : Y). Some y) (sym back.4 ∙ ap g same_value)

    -- the rows are shown as the entries that rise and are looked up as they are
    pub lists : (es : List (R × X)) → rises cmp es ≡ true → ((j : R) → first_at same es j ≡ look_up j) → map entry rows ≡ map (seen g) es
    lists es rise looked = same_rows rest (map entry rows) (map (seen g) es) (shown_rise rows s) (rises_seen cmp g es ∙ rise)
        (λ j. found j (look_up j) refl ∙ sym (first_at-seen rest g es j ∙ ap (option_map g) (looked j)))
