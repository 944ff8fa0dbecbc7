-- What the comparators of each form ask of a version: which numbers hold, and which prereleases
-- are near.
use Rattle.std.proofs.Common.{◌≡◌, ◌+◌, ◌==◌, ℕ, zero, suc, List, [], ◌∷◌, Bool, true, false, refl, sym, ap, ◌∙◌, inl, inr, arith, length, take, nat_cmp}
use Rattle.std.proofs.lemmas.Bool.{and_from, cases_Bool, eqb-true, or_cases}
use Rattle.std.proofs.lemmas.Bool.Decides.{nat_tests}
use Rattle.std.proofs.lemmas.List.{nil_from_length}
use Rattle.std.specs.List.{list_all, list_any}
use Rattle.std.specs.Prelude.{◌⊎◌, ◌↔◌, ◌&&◌}
use Rattle.std.specs.Ordering.{is_eq, is_lt, is_le, is_gt, is_ge, ordering_then}
use Rattle.semver.proofs.Segments.{and-left, and-right}
use Rattle.registry_names.specs.Versions.{VersionParts, precedence}
use Rattle.registry_ranges.specs.declared.relation.Relation.{Relation}
use Rattle.registry_ranges.specs.declared.relation.Relation.TheVariants as relation
use Rattle.registry_ranges.specs.declared.simple.Operator.{Operator}
use Rattle.registry_ranges.specs.declared.simple.Operator.TheVariants.{Bare, Less as LessSign, Greater as GreaterSign, LessEq, GreaterEq, Equal as EqualSign, Tilde, TildeGreater, Caret}
use Rattle.registry_ranges.specs.Comparators.{Comparator, comparator, below, lower, same, tilde, caret_end, caret, greater, less, at_most, high_end, comparators_of_simple, holds, is_near, range_allows}
use Rattle.registry_ranges.specs.Laws.{IsInForm, IsRelease, IsFrom, three_numbers, numbers_of, start_of, compared, NamesPrerelease, IsOpenTo, BeginWith, KeepLeftmost}
use Rattle.registry_ranges.specs.Prefixes.{Prefix, any, major, minor, full}
use Rattle.registry_ranges.proofs.BelowFacts.{numbers-decide}
use Rattle.registry_ranges.proofs.OrderFacts.{release-cmp, ge-none, ge-major, ge-minor, gt-major, gt-minor, lt-none, lt-major, lt-minor, le-major, le-minor, eq-both, AreFrom, AreBelow, from-numbers, below-numbers, numbers-below, below-differ, same-numbers, keeps-major, keeps-minor, keeps-patch}

-- ---- a range of comparators

pub empty-pre : (pre : List ℕ) → (length pre == 0) ≡ true → pre ≡ []
empty-pre pre e = nil_from_length pre (eqb-true (length pre) 0 e)

pub allowed-hold : (v : VersionParts) (cs : List Comparator) → range_allows v cs ≡ true → list_all (holds v) cs ≡ true
allowed-hold v cs e = and-left (list_all (holds v) cs) _ e

pub allowed-near : (v : VersionParts) (cs : List Comparator) → range_allows v cs ≡ true → IsRelease v ⊎ (list_any (is_near v) cs ≡ true)
allowed-near v cs e = elim (or_cases (length v.pre == 0) (list_any (is_near v) cs) (and-right (list_all (holds v) cs) _ e)) [
  | inl h ↦ inl (empty-pre v.pre h)
  | inr h ↦ inr h
]

pub release-allowed : (v : VersionParts) (cs : List Comparator) → list_all (holds v) cs ≡ true → IsRelease v → range_allows v cs ≡ true
release-allowed v cs e r = rw (e, r) refl

pub near-allowed : (v : VersionParts) (cs : List Comparator) → list_all (holds v) cs ≡ true → list_any (is_near v) cs ≡ true → range_allows v cs ≡ true
near-allowed v cs e n = elim (cases_Bool (length v.pre == 0)) [ inl h ↦ rw (e, h) refl | inr h ↦ rw (e, h) n ]

pub and-true : (b : Bool) → (b && true) ≡ b
and-true true = refl
and-true false = refl

-- ---- comparators that no prerelease is near of whom they hold

abbrev pub IsFar : VersionParts → Comparator → Type 0
IsFar v c = holds v c ≡ true → is_near v c ≡ false

abbrev pub AreFar : VersionParts → List Comparator → Type 0
AreFar v [] = Unit {0}
AreFar v (c ∷ cs) = IsFar v c × AreFar v cs

far-below : (v : VersionParts) (a b c : ℕ) → IsInForm v → IsFar v (below a b c)
far-below v a b c f e = below-differ v.major v.minor v.patch a b c (numbers-decide v a b c f ∙ e)

pub none-near : (v : VersionParts) (cs : List Comparator) → AreFar v cs → list_all (holds v) cs ≡ true → list_any (is_near v) cs ≡ false
none-near v [] far e = refl
none-near v (c ∷ cs) far e = rw (far.0 (and-left (holds v c) (list_all (holds v) cs) e)) (none-near v cs far.1 (and-right (holds v c) (list_all (holds v) cs) e))

-- near of these is near of the first
first-near : (v : VersionParts) (c : Comparator) (cs : List Comparator) → AreFar v cs → list_all (holds v) (c ∷ cs) ≡ true → list_any (is_near v) (c ∷ cs) ≡ true → is_near v c ≡ true
first-near v c cs far e n = elim (or_cases (is_near v c) (list_any (is_near v) cs) n) [
  | inl h ↦ h
  | inr h ↦ absurd (let none = none-near v cs far (and-right (holds v c) (list_all (holds v) cs) e) in cc)
]

near-named : (v : VersionParts) (r : Relation) (a b c : ℕ) (pre : List ℕ) → is_near v (comparator r a b c pre) ≡ true → NamesPrerelease v (full a b c pre)
near-named v r a b c [] e = cc e
near-named v r a b c (x ∷ pre) e =
    let some : (length (x ∷ pre) == 0) ≡ false = grind (arith, nat_tests) in
    let numbers : ((a == v.major) && (b == v.minor) && (c == v.patch)) ≡ true = rw some at e in
    let same = same-numbers v.major v.minor v.patch a b c numbers in
    (λ n. cc n, same.0, same.1, same.2)

pub named-near : (v : VersionParts) (r : Relation) (a b c : ℕ) (pre : List ℕ) → NamesPrerelease v (full a b c pre) → is_near v (comparator r a b c pre) ≡ true
named-near v r a b c [] n = absurd (n.0 refl)
named-near v r a b c (x ∷ pre) n = let some : (length (x ∷ pre) == 0) ≡ false = grind (arith, nat_tests) in rw (some, n.1, n.2, n.3) (grind (arith, nat_tests))

-- ---- the comparators of a partial version without a prerelease

-- a partial version that doesn't say three numbers
abbrev pub IsShort : Prefix → Type 0
IsShort any = Unit {0}
IsShort (major a) = Unit {0}
IsShort (minor a b) = Unit {0}
IsShort (full a b c pre) = ⊥

module _ (v : VersionParts) (f : IsInForm v) where
  far-lower : (p : Prefix) → IsShort p → IsFar v (lower p)
  far-lower any s e = refl
  far-lower (major a) s e = refl
  far-lower (minor a b) s e = refl
  far-lower (full a b c pre) s e = absurd s

  far-same : (p : Prefix) → IsShort p → AreFar v (same p)
  far-same any s = (far-lower any s, tt)
  far-same (major a) s = (far-lower (major a) s, (far-below v (a + 1) 0 0 f, tt))
  far-same (minor a b) s = (far-lower (minor a b) s, (far-below v a (b + 1) 0 f, tt))
  far-same (full a b c pre) s = absurd s

  far-tilde : (p : Prefix) → IsShort p → AreFar v (tilde p)
  far-tilde any s = (far-lower any s, tt)
  far-tilde (major a) s = (far-lower (major a) s, (far-below v (a + 1) 0 0 f, tt))
  far-tilde (minor a b) s = (far-lower (minor a b) s, (far-below v a (b + 1) 0 f, tt))
  far-tilde (full a b c pre) s = absurd s

  far-caret_end : (a b : ℕ) (last : Comparator) → IsFar v last → IsFar v (caret_end a b last)
  far-caret_end (suc a) b last far = far-below v (suc a + 1) 0 0 f
  far-caret_end zero (suc b) last far = far-below v 0 (suc b + 1) 0 f
  far-caret_end zero zero last far = far

  far-caret : (p : Prefix) → IsShort p → AreFar v (caret p)
  far-caret any s = (far-lower any s, tt)
  far-caret (major a) s = (far-lower (major a) s, (far-below v (a + 1) 0 0 f, tt))
  far-caret (minor a b) s = (far-lower (minor a b) s, (far-caret_end a b (below 0 1 0) (far-below v 0 1 0 f), tt))
  far-caret (full a b c pre) s = absurd s

  far-greater : (p : Prefix) → IsShort p → IsFar v (greater p)
  far-greater any s = far-below v 0 0 0 f
  far-greater (major a) s = λ e. refl
  far-greater (minor a b) s = λ e. refl
  far-greater (full a b c pre) s = absurd s

  far-less : (p : Prefix) → IsShort p → IsFar v (less p)
  far-less any s = far-below v 0 0 0 f
  far-less (major a) s = far-below v a 0 0 f
  far-less (minor a b) s = far-below v a b 0 f
  far-less (full a b c pre) s = absurd s

  far-at_most : (p : Prefix) → IsShort p → IsFar v (at_most p)
  far-at_most any s = far-lower any s
  far-at_most (major a) s = far-below v (a + 1) 0 0 f
  far-at_most (minor a b) s = far-below v a (b + 1) 0 f
  far-at_most (full a b c pre) s = absurd s

  far-simple : (o : Operator) (p : Prefix) → IsShort p → AreFar v (comparators_of_simple o p)
  far-simple Bare p s = far-same p s
  far-simple EqualSign p s = far-same p s
  far-simple Tilde p s = far-tilde p s
  far-simple TildeGreater p s = far-tilde p s
  far-simple Caret p s = far-caret p s
  far-simple LessSign p s = (far-less p s, tt)
  far-simple GreaterSign p s = (far-greater p s, tt)
  far-simple LessEq p s = (far-at_most p s, tt)
  far-simple GreaterEq p s = (far-lower p s, tt)

  -- three numbers give one comparator with their prerelease, and after it only far ones
  first-full : (o : Operator) (a b c : ℕ) (pre : List ℕ) → (r : Relation) × (rest : List Comparator) × AreFar v rest × (comparators_of_simple o (full a b c pre) ≡ comparator r a b c pre ∷ rest)
  first-full Bare a b c pre = (relation.Equal, [], tt, refl)
  first-full EqualSign a b c pre = (relation.Equal, [], tt, refl)
  first-full Tilde a b c pre = (relation.GreaterEq, below a (b + 1) 0 ∷ [], (far-below v a (b + 1) 0 f, tt), refl)
  first-full TildeGreater a b c pre = (relation.GreaterEq, below a (b + 1) 0 ∷ [], (far-below v a (b + 1) 0 f, tt), refl)
  first-full Caret a b c pre = (relation.GreaterEq, caret_end a b (below 0 0 (c + 1)) ∷ [], (far-caret_end a b (below 0 0 (c + 1)) (far-below v 0 0 (c + 1) f), tt), refl)
  first-full LessSign a b c pre = (relation.Less, [], tt, refl)
  first-full GreaterSign a b c pre = (relation.Greater, [], tt, refl)
  first-full LessEq a b c pre = (relation.LessEq, [], tt, refl)
  first-full GreaterEq a b c pre = (relation.GreaterEq, [], tt, refl)

  short-near : (o : Operator) (p : Prefix) {G : Type 0} → IsShort p → list_all (holds v) (comparators_of_simple o p) ≡ true → list_any (is_near v) (comparators_of_simple o p) ≡ true → G
  short-near o p s e n = let none = none-near v (comparators_of_simple o p) (far-simple o p s) e in cc

  -- near is what is named
  pub simple-named : (o : Operator) (p : Prefix) → list_all (holds v) (comparators_of_simple o p) ≡ true → list_any (is_near v) (comparators_of_simple o p) ≡ true → NamesPrerelease v p
  simple-named o any e n = short-near o any tt e n
  simple-named o (major a) e n = short-near o (major a) tt e n
  simple-named o (minor a b) e n = short-near o (minor a b) tt e n
  simple-named o (full a b c pre) e n =
      let s = first-full o a b c pre in
      near-named v s.0 a b c pre (first-near v (comparator s.0 a b c pre) s.1 s.2 (rw s.3 at e) (rw s.3 at n))

  pub simple-near : (o : Operator) (p : Prefix) → NamesPrerelease v p → list_any (is_near v) (comparators_of_simple o p) ≡ true
  simple-near o any n = absurd n
  simple-near o (major a) n = absurd n
  simple-near o (minor a b) n = absurd n
  simple-near o (full a b c pre) n = let s = first-full o a b c pre in rw (s.3, named-near v s.0 a b c pre n) refl

  -- ---- the ends of a hyphen range

  pub low-named : (p : Prefix) → is_near v (lower p) ≡ true → NamesPrerelease v p
  low-named any n = cc n
  low-named (major a) n = cc n
  low-named (minor a b) n = cc n
  low-named (full a b c pre) n = near-named v relation.GreaterEq a b c pre n

  pub low-near : (p : Prefix) → NamesPrerelease v p → is_near v (lower p) ≡ true
  low-near any n = absurd n
  low-near (major a) n = absurd n
  low-near (minor a b) n = absurd n
  low-near (full a b c pre) n = named-near v relation.GreaterEq a b c pre n

  pub high-named : (p : Prefix) → list_all (holds v) (high_end p) ≡ true → list_any (is_near v) (high_end p) ≡ true → NamesPrerelease v p
  high-named any e n = cc n
  high-named (major a) e n = simple-named LessEq (major a) e n
  high-named (minor a b) e n = simple-named LessEq (minor a b) e n
  high-named (full a b c pre) e n = simple-named LessEq (full a b c pre) e n

  pub high-near : (p : Prefix) → NamesPrerelease v p → list_any (is_near v) (high_end p) ≡ true
  high-near any n = absurd n
  high-near (major a) n = absurd n
  high-near (minor a b) n = absurd n
  high-near (full a b c pre) n = simple-near LessEq (full a b c pre) n

  -- ---- what holds, as an order to what is said

  holds-below : (a b c : ℕ) → holds v (below a b c) ≡ is_lt (ordering_then (ordering_then (nat_cmp v.major a) (nat_cmp v.minor b)) (nat_cmp v.patch c))
  holds-below a b c = sym (numbers-decide v a b c f)

  from-release : (r : IsRelease v) (a b c : ℕ) → holds v (comparator relation.GreaterEq a b c []) ≡ is_ge (ordering_then (nat_cmp v.major a) (ordering_then (nat_cmp v.minor b) (nat_cmp v.patch c)))
  from-release r a b c = ap is_ge (release-cmp v a b c r)

  short-release : (p : Prefix) → IsShort p → IsOpenTo v p → IsRelease v
  short-release any s (inl r) = r
  short-release any s (inr n) = absurd n
  short-release (major a) s (inl r) = r
  short-release (major a) s (inr n) = absurd n
  short-release (minor a b) s (inl r) = r
  short-release (minor a b) s (inr n) = absurd n
  short-release (full a b c pre) s o = absurd s

  pub lower-compares : (p : Prefix) → IsOpenTo v p → holds v (lower p) ≡ is_ge (compared v p)
  lower-compares any o = from-release (short-release any tt o) 0 0 0 ∙ ge-none v.major v.minor v.patch
  lower-compares (major a) o = from-release (short-release (major a) tt o) a 0 0 ∙ ge-major v.major v.minor v.patch a
  lower-compares (minor a b) o = from-release (short-release (minor a b) tt o) a b 0 ∙ ge-minor v.major v.minor v.patch a b
  lower-compares (full a b c pre) o = refl

  pub greater-compares : (p : Prefix) → IsOpenTo v p → holds v (greater p) ≡ is_gt (compared v p)
  greater-compares any o = holds-below 0 0 0 ∙ lt-none v.major v.minor v.patch
  greater-compares (major a) o = from-release (short-release (major a) tt o) (a + 1) 0 0 ∙ gt-major v.major v.minor v.patch a
  greater-compares (minor a b) o = from-release (short-release (minor a b) tt o) a (b + 1) 0 ∙ gt-minor v.major v.minor v.patch a b
  greater-compares (full a b c pre) o = refl

  pub less-compares : (p : Prefix) → holds v (less p) ≡ is_lt (compared v p)
  less-compares any = holds-below 0 0 0 ∙ lt-none v.major v.minor v.patch
  less-compares (major a) = holds-below a 0 0 ∙ lt-major v.major v.minor v.patch a
  less-compares (minor a b) = holds-below a b 0 ∙ lt-minor v.major v.minor v.patch a b
  less-compares (full a b c pre) = refl

  pub at_most-compares : (p : Prefix) → IsOpenTo v p → holds v (at_most p) ≡ is_le (compared v p)
  at_most-compares any o = lower-compares any o
  at_most-compares (major a) o = holds-below (a + 1) 0 0 ∙ le-major v.major v.minor v.patch a
  at_most-compares (minor a b) o = holds-below a (b + 1) 0 ∙ le-minor v.major v.minor v.patch a b
  at_most-compares (full a b c pre) o = refl

  pub same-compares : (p : Prefix) → IsOpenTo v p → list_all (holds v) (same p) ≡ is_eq (compared v p)
  same-compares any o = rw (lower-compares any o) refl
  same-compares (major a) o = rw (lower-compares (major a) o, holds-below (a + 1) 0 0, le-major v.major v.minor v.patch a) (eq-both (nat_cmp v.major a))
  same-compares (minor a b) o =
      rw (lower-compares (minor a b) o, holds-below a (b + 1) 0, le-minor v.major v.minor v.patch a b) (eq-both (ordering_then (nat_cmp v.major a) (nat_cmp v.minor b)))
  same-compares (full a b c pre) o = and-true (is_eq (precedence v (start_of (full a b c pre))))

  -- a high end is compared as it is, and a wildcard not at all
  pub high-compares : (p : Prefix) → list_all (holds v) (high_end p) ≡ is_le (compared v p)
  high-compares any = refl
  high-compares (major a) = rw (holds-below (a + 1) 0 0, le-major v.major v.minor v.patch a) (and-true (is_le (nat_cmp v.major a)))
  high-compares (minor a b) = rw (holds-below a (b + 1) 0, le-minor v.major v.minor v.patch a b) (and-true (is_le (ordering_then (nat_cmp v.major a) (nat_cmp v.minor b))))
  high-compares (full a b c pre) = and-true (is_le (precedence v (start_of (full a b c pre))))

  -- ---- carets and tildes

  pub lower-from : (p : Prefix) → holds v (lower p) ≡ is_ge (precedence v (start_of p))
  lower-from any = refl
  lower-from (major a) = refl
  lower-from (minor a b) = refl
  lower-from (full a b c pre) = refl

  -- the start's numbers are in the start's order
  start-numbers : (p : Prefix) → IsFrom (start_of p) v → AreFrom v.major v.minor v.patch (start_of p).major (start_of p).minor (start_of p).patch
  start-numbers p e = from-numbers v.major v.minor v.patch (start_of p).major (start_of p).minor (start_of p).patch _ e

  bounded : (p : Prefix) (a b c : ℕ) (Keep : Type 0)
      → (AreFrom v.major v.minor v.patch (start_of p).major (start_of p).minor (start_of p).patch → AreBelow v.major v.minor v.patch a b c → Keep)
      → (Keep → AreBelow v.major v.minor v.patch a b c)
      → (list_all (holds v) (lower p ∷ below a b c ∷ []) ≡ true) ↔ (IsFrom (start_of p) v × Keep)
  bounded p a b c Keep keep back = (
    λ e.
        let from : IsFrom (start_of p) v = sym (lower-from p) ∙ and-left (holds v (lower p)) _ e in
        let under = and-left (holds v (below a b c)) true (and-right (holds v (lower p)) _ e) in
        (from, keep (start-numbers p from) (below-numbers v.major v.minor v.patch a b c (sym (holds-below a b c) ∙ under))),
    λ k.
        let under = holds-below a b c ∙ numbers-below v.major v.minor v.patch a b c (back k.1) in
        and_from _ _ (lower-from p ∙ k.0) (and_from _ _ under refl),
  )

  open_above : (p : Prefix) → (list_all (holds v) (lower p ∷ []) ≡ true) ↔ (IsFrom (start_of p) v × Unit {0})
  open_above p = (λ e. (sym (lower-from p) ∙ and-left (holds v (lower p)) true e, tt), λ k. and_from _ _ (lower-from p ∙ k.0) refl)

  pub tilde-keeps : (p : Prefix) → (list_all (holds v) (tilde p) ≡ true) ↔ (IsFrom (start_of p) v × BeginWith (take 2 (numbers_of p)) (three_numbers v))
  tilde-keeps any = open_above any
  tilde-keeps (major a) =
      bounded (major a) (a + 1) 0 0 _ (λ from under. (keeps-major _ _ _ _ _ _ from under, tt)) (λ k. let x : v.major ≡ a = k.0 in inl (omega arith))
  tilde-keeps (minor a b) =
      bounded (minor a b) a (b + 1) 0 _ (λ from under. let k = keeps-minor _ _ _ _ _ _ from under in (k.0, (k.1, tt))) (λ k. let y : v.minor ≡ b = k.1.0 in inr (k.0, inl (omega arith)))
  tilde-keeps (full a b c pre) =
      bounded (full a b c pre) a (b + 1) 0 _ (λ from under. let k = keeps-minor _ _ _ _ _ _ from under in (k.0, (k.1, tt))) (λ k. let y : v.minor ≡ b = k.1.0 in inr (k.0, inl (omega arith)))

  -- the first two numbers, as a caret keeps them, and what it says of the third
  abbrev Kept : ℕ → ℕ → Type 0 → Type 0
  Kept a b last = (v.major ≡ a) × (a ≡ 0 → (v.minor ≡ b) × (b ≡ 0 → last))

  pub caret-keeps : (p : Prefix) → (list_all (holds v) (caret p) ≡ true) ↔ (IsFrom (start_of p) v × KeepLeftmost (numbers_of p) (three_numbers v))
  caret-keeps any = open_above any
  caret-keeps (major a) =
      bounded (major a) (a + 1) 0 0 _ (λ from under. (keeps-major _ _ _ _ _ _ from under, λ n. tt)) (λ k. let x : v.major ≡ a = k.0 in inl (omega arith))
  caret-keeps (minor (suc a) b) =
      bounded (minor (suc a) b) (suc a + 1) 0 0 (Kept (suc a) b (Unit {0}))
      (λ from under. (keeps-major _ _ _ _ _ _ from under, λ n. absurd (omega arith)))
      (λ k. let x : v.major ≡ suc a = k.0 in inl (omega arith))
  caret-keeps (minor zero (suc b)) =
      bounded (minor zero (suc b)) zero (suc b + 1) 0 (Kept zero (suc b) (Unit {0}))
      (λ from under. let k = keeps-minor _ _ _ _ _ _ from under in (k.0, λ n. (k.1, λ m. tt)))
      (λ k. let y : v.minor ≡ suc b = (k.1 refl).0 in inr (k.0, inl (omega arith)))
  caret-keeps (minor zero zero) =
      bounded (minor zero zero) 0 1 0 (Kept zero zero (Unit {0}))
      (λ from under. let k = keeps-minor _ _ _ _ _ _ from under in (k.0, λ n. (k.1, λ m. tt)))
      (λ k. let y : v.minor ≡ 0 = (k.1 refl).0 in inr (k.0, inl (omega arith)))
  caret-keeps (full (suc a) b c pre) =
      bounded (full (suc a) b c pre) (suc a + 1) 0 0 (Kept (suc a) b ((v.patch ≡ c) × (c ≡ 0 → Unit {0})))
      (λ from under. (keeps-major _ _ _ _ _ _ from under, λ n. absurd (omega arith)))
      (λ k. let x : v.major ≡ suc a = k.0 in inl (omega arith))
  caret-keeps (full zero (suc b) c pre) =
      bounded (full zero (suc b) c pre) zero (suc b + 1) 0 (Kept zero (suc b) ((v.patch ≡ c) × (c ≡ 0 → Unit {0})))
      (λ from under. let k = keeps-minor _ _ _ _ _ _ from under in (k.0, λ n. (k.1, λ m. absurd (omega arith))))
      (λ k. let y : v.minor ≡ suc b = (k.1 refl).0 in inr (k.0, inl (omega arith)))
  caret-keeps (full zero zero c pre) =
      bounded (full zero zero c pre) 0 0 (c + 1) (Kept zero zero ((v.patch ≡ c) × (c ≡ 0 → Unit {0})))
      (λ from under. let k = keeps-patch _ _ _ _ from under in (k.0, λ n. (k.1, λ m. (k.2, λ l. tt))))
      (λ k. let z : v.patch ≡ c = ((k.1 refl).1 refl).0 in inr (k.0, inr ((k.1 refl).0, omega arith)))
