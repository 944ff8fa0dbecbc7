-- The laws of bars and spaces, of the prereleases that a text names, and of selectors.
use Rattle.std.proofs.Common.{◌≡◌, ◌++◌, ◌==◌, ◌<◌, ℕ, suc, List, [], ◌∷◌, Some, true, refl, sym, ap, ◌∙◌, inl, inr, arith, length, nat_cmp}
use Rattle.std.proofs.lemmas.Bool.{and_from, or_cases, or_left, or_right}
use Rattle.std.proofs.lemmas.Bool.Decides.{nat_tests}
use Rattle.std.proofs.lemmas.Grind.{flat_map-append}
use Rattle.std.proofs.lemmas.List.Folds.{list_all-append, list_any-append}
use Rattle.std.specs.List.{list_all, list_any}
use Rattle.std.specs.Ordering.{is_eq, ordering_then}
use Rattle.std.specs.Prelude.{◌⊎◌, ◌↔◌, ◌&&◌, ◌||◌, codes, Any}
use Rattle.semver.proofs.Segments.{and-left, and-right}
use Rattle.registry_names.specs.Versions.{VersionParts}
use Rattle.registry_ranges.specs.declared.relation.Relation.{Relation}
use Rattle.registry_ranges.specs.declared.relation.Relation.TheVariants as relation
use Rattle.registry_ranges.specs.declared.simple.Operator.{Operator}
use Rattle.registry_ranges.specs.declared.simple.Operator.TheVariants as op
use Rattle.registry_ranges.specs.Comparators.{Comparator, comparator, lower, same, high_end, comparators_of_simple, comparators_of_part, comparators_of_range, comparators_of_others, comparators_of, holds, is_near, range_allows, set_allows, Allows}
use Rattle.registry_ranges.specs.Laws.{IsInForm, IsRelease, BarsAreUnions, EndsAreSpaced, AreSimplesText, ReleasesMeet, PrereleasesMeet, NamesInPart, PrereleasesAreNamed, SelectorsAgree}
use Rattle.registry_ranges.specs.Prefixes.{Prefix, any, major, minor, full}
use Rattle.registry_ranges.specs.Selectors.{Condition, compared, agreement, comparison, condition_of, conditions_of_range, conditions_of_others, meets_condition, set_selects}
use Rattle.registry_ranges.specs.Values.{Part, simple, hyphen, nothing, Ranges, IsRangeOf, parts_of}
use Rattle.registry_ranges.proofs.FormFacts.{allowed-hold, allowed-near, release-allowed, near-allowed, simple-named, low-named, high-named, same-compares, and-true}
use Rattle.registry_ranges.proofs.LawFacts.{range-of}
use Rattle.registry_ranges.proofs.PartialFacts.{bind_some, some-value}
use Rattle.registry_ranges.proofs.SpellingFacts.{value-allows, simples-value, spaced-value, parts_in, bars-value, padded-value}

-- ---- bars

comparators-append : (xs ys : List (List Part)) (r : List Part) → comparators_of_others (xs ++ r ∷ ys) ≡ comparators_of_others xs ++ comparators_of_range r ∷ comparators_of_others ys
comparators-append [] ys r = refl
comparators-append (x ∷ xs) ys r = ap (λ cs. comparators_of_range x ∷ cs) (comparators-append xs ys r)

joined-allows : (v : VersionParts) (p q : Ranges) → set_allows v (comparators_of (p.0, p.1 ++ q.0 ∷ q.1)) ≡ (set_allows v (comparators_of p) || set_allows v (comparators_of q))
joined-allows v p q =
    ap (λ cs. set_allows v (comparators_of_range p.0 ∷ cs)) (comparators-append p.1 q.1 q.0) ∙ list_any-append (range_allows v) (comparators_of p) (comparators_of q)

pub bars : BarsAreUnions
bars x y v s t =
    let p = parts_of s.0 in
    let q = parts_of t.0 in
    let of_x : IsRangeOf x p = (s.0, s.1, s.2, refl) in
    let of_y : IsRangeOf y q = (t.0, t.1, t.2, refl) in
    let all = value-allows (x ++ (codes "||" ++ y)) (p.0, p.1 ++ q.0 ∷ q.1) v (bars-value x y p q of_x of_y) in
    let left = value-allows x p v of_x in
    let right = value-allows y q v of_y in (
      λ a. elim (or_cases (set_allows v (comparators_of p)) (set_allows v (comparators_of q)) (sym (joined-allows v p q) ∙ all.0 a)) [
        | inl e ↦ inl (left.1 e)
        | inr e ↦ inr (right.1 e)
      ],
      λ a. all.1 (joined-allows v p q ∙ elim a [
        | inl e ↦ or_left (set_allows v (comparators_of p)) (set_allows v (comparators_of q)) (left.0 e)
        | inr e ↦ or_right (set_allows v (comparators_of p)) (set_allows v (comparators_of q)) (right.0 e)
      ]),
    )

-- ---- spaces

pub padded : EndsAreSpaced
padded before after x v s =
    let p = parts_of s.0 in
    let of_x : IsRangeOf x p = (s.0, s.1, s.2, refl) in
    let inner = value-allows x p v of_x in
    let outer = value-allows _ p v (padded-value before after x p of_x) in
    (λ a. inner.1 (outer.0 a), λ a. outer.1 (inner.0 a))

module _ (v : VersionParts) (cs ds : List Comparator) where
  both-hold : list_all (holds v) cs ≡ true → list_all (holds v) ds ≡ true → list_all (holds v) (cs ++ ds) ≡ true
  both-hold x y = list_all-append (holds v) cs ds ∙ and_from (list_all (holds v) cs) (list_all (holds v) ds) x y

  first-holds : range_allows v (cs ++ ds) ≡ true → list_all (holds v) cs ≡ true
  first-holds e = and-left (list_all (holds v) cs) (list_all (holds v) ds) (sym (list_all-append (holds v) cs ds) ∙ allowed-hold v (cs ++ ds) e)

  second-holds : range_allows v (cs ++ ds) ≡ true → list_all (holds v) ds ≡ true
  second-holds e = and-right (list_all (holds v) cs) (list_all (holds v) ds) (sym (list_all-append (holds v) cs ds) ∙ allowed-hold v (cs ++ ds) e)

  both-allow : range_allows v cs ≡ true → range_allows v ds ≡ true → range_allows v (cs ++ ds) ≡ true
  both-allow x y =
      let all = both-hold (allowed-hold v cs x) (allowed-hold v ds y) in
      elim (allowed-near v cs x) [
        | inl r ↦ release-allowed v (cs ++ ds) all r
        | inr n ↦ near-allowed v (cs ++ ds) all (list_any-append (is_near v) cs ds ∙ or_left (list_any (is_near v) cs) (list_any (is_near v) ds) n)
      ]

  one-allows : range_allows v (cs ++ ds) ≡ true → (range_allows v cs ≡ true) ⊎ (range_allows v ds ≡ true)
  one-allows e = elim (allowed-near v (cs ++ ds) e) [
    | inl r ↦ inl (release-allowed v cs (first-holds e) r)
    | inr n ↦ elim (or_cases (list_any (is_near v) cs) (list_any (is_near v) ds) (sym (list_any-append (is_near v) cs ds) ∙ n)) [
      | inl m ↦ inl (near-allowed v cs (first-holds e) m)
      | inr m ↦ inr (near-allowed v ds (second-holds e) m)
    ]
  ]

parts-allow : (text : List ℕ) (ps : List Part) (v : VersionParts) → IsRangeOf text (ps, []) → Allows text v ↔ (range_allows v (comparators_of_range ps) ≡ true)
parts-allow text ps v value =
    let w = value-allows text (ps, []) v value in
    (λ a. sym (range-of ps v) ∙ w.0 a, λ e. w.1 (range-of ps v ∙ e))

-- two texts of simples with a space between, by the comparators of each
spaced-allows : (x y : List ℕ) (v : VersionParts) (s : AreSimplesText x) (t : AreSimplesText y)
    → Allows (x ++ (codes " " ++ y)) v ↔ (range_allows v (comparators_of_range (parts_in {text = x} s) ++ comparators_of_range (parts_in {text = y} t)) ≡ true)
spaced-allows x y v s t =
    let w = parts-allow (x ++ (codes " " ++ y)) (parts_in {text = x} s ++ parts_in {text = y} t) v (spaced-value x y s t) in
    let parted = ap (range_allows v) (flat_map-append comparators_of_part (parts_in {text = x} s) (parts_in {text = y} t)) in
    (λ a. sym parted ∙ w.0 a, λ e. w.1 (parted ∙ e))

pub releases-meet : (x y : List ℕ) (v : VersionParts) → AreSimplesText x → AreSimplesText y → ReleasesMeet x y (x ++ (codes " " ++ y)) v
releases-meet x y v s t r =
    let cs = comparators_of_range (parts_in {text = x} s) in
    let ds = comparators_of_range (parts_in {text = y} t) in
    let all = spaced-allows x y v s t in
    let left = parts-allow x (parts_in {text = x} s) v (simples-value x s) in
    let right = parts-allow y (parts_in {text = y} t) v (simples-value y t) in (
      λ a. let e = all.0 a in (left.1 (release-allowed v cs (first-holds v cs ds e) r), right.1 (release-allowed v ds (second-holds v cs ds e) r)),
      λ a. all.1 (both-allow v cs ds (left.0 a.0) (right.0 a.1)),
    )

pub prereleases-meet : (x y : List ℕ) (v : VersionParts) → AreSimplesText x → AreSimplesText y → PrereleasesMeet x y (x ++ (codes " " ++ y)) v
prereleases-meet x y v s t =
    let cs = comparators_of_range (parts_in {text = x} s) in
    let ds = comparators_of_range (parts_in {text = y} t) in
    let all = spaced-allows x y v s t in
    let left = parts-allow x (parts_in {text = x} s) v (simples-value x s) in
    let right = parts-allow y (parts_in {text = y} t) v (simples-value y t) in (
      λ a. all.1 (both-allow v cs ds (left.0 a.0) (right.0 a.1)),
      λ a. elim (one-allows v cs ds (all.0 a)) [ inl e ↦ inl (left.1 e) | inr e ↦ inr (right.1 e) ],
    )

-- ---- prereleases

any-first : {X : Type 0} (P : X → Type 0) (x : X) (xs : List X) → P x → Any P (x ∷ xs)
any-first P x xs h = (0, x, omega arith, refl, h)

any-later : {X : Type 0} (P : X → Type 0) (x : X) (xs : List X) → Any P xs → Any P (x ∷ xs)
any-later P x xs h = let lt : h.0 < length xs = h.2 in (suc h.0, h.1, omega arith, h.3, h.4)

module _ (v : VersionParts) (f : IsInForm v) where
  part-named : (p : Part) → list_all (holds v) (comparators_of_part p) ≡ true → list_any (is_near v) (comparators_of_part p) ≡ true → NamesInPart v p
  part-named (simple o p) e n = simple-named v f o p e n
  part-named (hyphen l h) e n = elim (or_cases (is_near v (lower l)) (list_any (is_near v) (high_end h)) n) [
    | inl m ↦ inl (low-named v f l m)
    | inr m ↦ inr (high-named v f h (and-right (holds v (lower l)) (list_all (holds v) (high_end h)) e) m)
  ]
  part-named nothing e n = cc n

  parts-named : (ps : List Part) → list_all (holds v) (comparators_of_range ps) ≡ true → list_any (is_near v) (comparators_of_range ps) ≡ true → Any (NamesInPart v) ps
  parts-named [] e n = cc n
  parts-named (p ∷ ps) e n =
      let cs = comparators_of_part p in
      let ds = comparators_of_range ps in
      let all = sym (list_all-append (holds v) cs ds) ∙ e in
      elim (or_cases (list_any (is_near v) cs) (list_any (is_near v) ds) (sym (list_any-append (is_near v) cs ds) ∙ n)) [
        | inl m ↦ any-first (NamesInPart v) p ps (part-named p (and-left (list_all (holds v) cs) (list_all (holds v) ds) all) m)
        | inr m ↦ any-later (NamesInPart v) p ps (parts-named ps (and-right (list_all (holds v) cs) (list_all (holds v) ds) all) m)
      ]

  range-named : (ps : List Part) → range_allows v (comparators_of_range ps) ≡ true → IsRelease v ⊎ Any (NamesInPart v) ps
  range-named ps e = elim (allowed-near v (comparators_of_range ps) e) [
    | inl r ↦ inl r
    | inr n ↦ inr (parts-named ps (allowed-hold v (comparators_of_range ps) e) n)
  ]

  others-named : (rs : List (List Part)) → set_allows v (comparators_of_others rs) ≡ true → IsRelease v ⊎ Any (Any (NamesInPart v)) rs
  others-named [] e = cc e
  others-named (ps ∷ rs) e = elim (or_cases (range_allows v (comparators_of_range ps)) (set_allows v (comparators_of_others rs)) e) [
    | inl a ↦ elim (range-named ps a) [ inl r ↦ inl r | inr n ↦ inr (any-first (Any (NamesInPart v)) ps rs n) ]
    | inr a ↦ elim (others-named rs a) [ inl r ↦ inl r | inr n ↦ inr (any-later (Any (NamesInPart v)) ps rs n) ]
  ]

pub named : PrereleasesAreNamed
named text ranges v value f a = others-named v f (ranges.0 ∷ ranges.1) ((value-allows text ranges v value).0 a)

-- ---- selectors

major-tested : (x a : ℕ) → (x == a) ≡ is_eq (nat_cmp x a)
major-tested x a = grind (arith, nat_tests)

minor-tested : (x y a b : ℕ) → ((x == a) && (y == b)) ≡ is_eq (ordering_then (nat_cmp x a) (nat_cmp y b))
minor-tested x y a b = grind (arith, nat_tests)

module _ (v : VersionParts) (f : IsInForm v) (r : IsRelease v) where
  comparison-agrees : (o : Operator) (relation : Relation) (p : Prefix) (c : Condition)
      → ((m n k : ℕ) (pre : List ℕ) → comparators_of_simple o (full m n k pre) ≡ comparator relation m n k pre ∷ [])
      → comparison relation p ≡ Some c → meets_condition v c ≡ list_all (holds v) (comparators_of_simple o p)
  comparison-agrees o relation any c one e = cc e
  comparison-agrees o relation (major a) c one e = cc e
  comparison-agrees o relation (minor a b) c one e = cc e
  comparison-agrees o relation (full m n k pre) c one e =
      let it = comparator relation m n k pre in
      rw (← some-value (compared it) c e, one m n k pre) (sym (and-true (holds v it)))

  bare-agrees : (p : Prefix) (c : Condition) → Some (agreement p) ≡ Some c → meets_condition v c ≡ list_all (holds v) (same p)
  bare-agrees any c e = rw (← some-value (agreement any) c e) (sym (same-compares v f any (inl r)))
  bare-agrees (major a) c e = rw (← some-value (agreement (major a)) c e) (major-tested v.major a ∙ sym (same-compares v f (major a) (inl r)))
  bare-agrees (minor a b) c e = rw (← some-value (agreement (minor a b)) c e) (minor-tested v.major v.minor a b ∙ sym (same-compares v f (minor a b) (inl r)))
  bare-agrees (full m n k pre) c e = rw (← some-value (agreement (full m n k pre)) c e) (sym (same-compares v f (full m n k pre) (inl r)))

  part-agrees : (p : Part) (c : Condition) → condition_of p ≡ Some c → meets_condition v c ≡ list_all (holds v) (comparators_of_part p)
  part-agrees nothing c e = bare-agrees any c e
  part-agrees (hyphen l h) c e = cc e
  part-agrees (simple op.Bare p) c e = bare-agrees p c e
  part-agrees (simple op.Less p) c e = comparison-agrees op.Less relation.Less p c (λ m n k pre. refl) e
  part-agrees (simple op.Greater p) c e = comparison-agrees op.Greater relation.Greater p c (λ m n k pre. refl) e
  part-agrees (simple op.LessEq p) c e = comparison-agrees op.LessEq relation.LessEq p c (λ m n k pre. refl) e
  part-agrees (simple op.GreaterEq p) c e = comparison-agrees op.GreaterEq relation.GreaterEq p c (λ m n k pre. refl) e
  part-agrees (simple op.Equal p) c e = comparison-agrees op.Equal relation.Equal p c (λ m n k pre. refl) e
  part-agrees (simple op.Tilde p) c e = cc e
  part-agrees (simple op.TildeGreater p) c e = cc e
  part-agrees (simple op.Caret p) c e = cc e

  range-agrees : (ps : List Part) (cs : List Condition) → conditions_of_range ps ≡ Some cs → list_all (meets_condition v) cs ≡ list_all (holds v) (comparators_of_range ps)
  range-agrees [] cs e = rw (← some-value [] cs e) refl
  range-agrees (p ∷ ps) cs e =
      let first = bind_some (condition_of p) _ cs e in
      let rest = bind_some (conditions_of_range ps) _ cs first.2 in
      rw (← some-value (first.0 ∷ rest.0) cs rest.2, list_all-append (holds v) (comparators_of_part p) (comparators_of_range ps), part-agrees p first.0 first.1, range-agrees ps rest.0 rest.1) refl

  release-range : (cs : List Comparator) → range_allows v cs ≡ list_all (holds v) cs
  release-range cs = ap (λ n. list_all (holds v) cs && (n || list_any (is_near v) cs)) (ap (λ (pre : List ℕ). length pre == 0) r) ∙ and-true (list_all (holds v) cs)

  set-agrees : (rs : List (List Part)) (ranges : List (List Condition)) → conditions_of_others rs ≡ Some ranges → set_selects v ranges ≡ set_allows v (comparators_of_others rs)
  set-agrees [] ranges e = rw (← some-value [] ranges e) refl
  set-agrees (ps ∷ rs) ranges e =
      let first = bind_some (conditions_of_range ps) _ ranges e in
      let rest = bind_some (conditions_of_others rs) _ ranges first.2 in
      rw (← some-value (first.0 ∷ rest.0) ranges rest.2, range-agrees ps first.0 first.1, release-range (comparators_of_range ps), set-agrees rs rest.0 rest.1) refl

pub selectors-agree : SelectorsAgree
selectors-agree text v s f r = (
  λ a.
      let ranges = a.1.0 in
      (value-allows text ranges v a.1.1).1 (sym (set-agrees v f r (ranges.0 ∷ ranges.1) a.0 a.1.2) ∙ a.2),
  λ a.
      let ranges = s.1.0 in
      (s.0, s.1, set-agrees v f r (ranges.0 ∷ ranges.1) s.0 s.1.2 ∙ (value-allows text ranges v s.1.1).0 a),
)
