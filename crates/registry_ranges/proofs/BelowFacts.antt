-- No prerelease is below `0`, so a version is below `<1.2.3-0` by its numbers alone.
use Rattle.std.proofs.Common.{◌≡◌, ◌==◌, ℕ, List, [], ◌∷◌, true, false, refl, sym, ◌∙◌, inl, inr, Ordering, Less, Equal, Greater, nat_cmp, arith, length}
use Rattle.std.proofs.lemmas.Bool.{cases_Bool}
use Rattle.std.proofs.lemmas.Bool.Decides.{nat_tests}
use Rattle.std.specs.Char.{is_ascii_digit}
use Rattle.std.specs.Cmp.{nat_cmp_is}
use Rattle.std.specs.Cmp.Lexicographic.{slice_cmp}
use Rattle.std.specs.List.{list_all}
use Rattle.std.specs.Prelude.{◌&&◌, not}
use Rattle.std.specs.Ordering.{is_lt, ordering_then}
use Rattle.semver.specs.Grammar.{is_pre_release, is_pre_identifier, is_build_identifier, has_leading_zero}
use Rattle.semver.specs.Order.{is_numeric, pre_cmp, pre_part_cmp}
use Rattle.semver.specs.OrderLaws.{parts-shape, pre_cmp-both}
use Rattle.semver.proofs.Segments.{and-left}
use Rattle.registry_names.specs.Versions.{VersionParts}
use Rattle.registry_ranges.specs.Comparators.{holds, below}

-- what comes after a comparison that isn't below
last-not-below : (o q : Ordering) → is_lt q ≡ false → is_lt (ordering_then o q) ≡ is_lt o
last-not-below Less q e = refl
last-not-below Equal q e = e
last-not-below Greater q e = refl

digit-not-below : (d : ℕ) → is_ascii_digit d ≡ true → is_lt (nat_cmp d 48) ≡ false
digit-not-below d h = grind (arith, nat_tests)

-- no identifier is below `0`
part-not-below : (p : List ℕ) → is_build_identifier p ≡ true → is_lt (pre_part_cmp p (48 ∷ [])) ≡ false
part-not-below [] h = cc h
part-not-below (d ∷ []) h = elim (cases_Bool (is_ascii_digit d)) [
  | inl digit ↦ rw digit (last-not-below (nat_cmp d 48) Equal refl ∙ digit-not-below d digit)
  | inr other ↦ rw other refl
]
part-not-below (d ∷ e ∷ rest) h = elim (cases_Bool (is_numeric (d ∷ e ∷ rest))) [
  | inl number ↦ rw (number, ← nat_cmp_is (length (d ∷ e ∷ rest)) 1 Greater (omega arith)) refl
  | inr other ↦ rw other refl
]

end-not-below : (ps : List (List ℕ)) → is_lt (slice_cmp pre_part_cmp ps []) ≡ false
end-not-below [] = refl
end-not-below (p ∷ ps) = refl

parts-not-below : (p : List ℕ) (ps : List (List ℕ)) → is_build_identifier p ≡ true → is_lt (slice_cmp pre_part_cmp (p ∷ ps) ((48 ∷ []) ∷ [])) ≡ false
parts-not-below p ps h = last-not-below (pre_part_cmp p (48 ∷ [])) (slice_cmp pre_part_cmp ps []) (end-not-below ps) ∙ part-not-below p h

-- no prerelease is below `0`
pre-not-below : (t : List ℕ) → is_pre_release t ≡ true → is_lt (pre_cmp t (48 ∷ [])) ≡ false
pre-not-below [] h = refl
pre-not-below (b ∷ rest) h =
    let s = parts-shape (b ∷ rest) in
    let all : list_all is_pre_identifier (s.0 ∷ s.1) ≡ true = rw s.2 at h in
    let first = and-left (is_pre_identifier s.0) (list_all is_pre_identifier s.1) all in
    let build = and-left (is_build_identifier s.0) (not (is_numeric s.0 && has_leading_zero s.0)) first in
    let some : (length (b ∷ rest) == 0) ≡ false = grind (arith, nat_tests) in
    rw (pre_cmp-both (b ∷ rest) (48 ∷ []) some refl, s.2) (parts-not-below s.0 s.1 build)

-- where the last of four comparisons isn't below, the other three decide
three-decide : (o p q r : Ordering) → is_lt r ≡ false → is_lt (ordering_then (ordering_then o p) q) ≡ is_lt (ordering_then o (ordering_then p (ordering_then q r)))
three-decide Less p q r e = refl
three-decide Greater p q r e = refl
three-decide Equal Less q r e = refl
three-decide Equal Greater q r e = refl
three-decide Equal Equal q r e = sym (last-not-below q r e)

pub numbers-decide : (v : VersionParts) (a b c : ℕ) → is_pre_release v.pre ≡ true
    → is_lt (ordering_then (ordering_then (nat_cmp v.major a) (nat_cmp v.minor b)) (nat_cmp v.patch c)) ≡ holds v (below a b c)
numbers-decide v a b c h = three-decide (nat_cmp v.major a) (nat_cmp v.minor b) (nat_cmp v.patch c) (pre_cmp v.pre (48 ∷ [])) (pre-not-below v.pre h)

pub ruleset below_facts = (numbers-decide)
