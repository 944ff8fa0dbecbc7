-- Versions are compared by their numbers in turn.
use Rattle.std.proofs.Common.{◌≡◌, ◌<◌, ◌≤◌, ◌+◌, ℕ, [], true, false, refl, ap, ◌∙◌, arith, Ordering, Less, Equal, Greater, nat_cmp}
use Rattle.std.proofs.lemmas.Bool.Decides.{nat_tests}
use Rattle.std.specs.Prelude.{◌⊎◌, ◌&&◌, ◌==◌}
use Rattle.std.specs.Ordering.{is_eq, is_lt, is_le, is_gt, is_ge, ordering_then}
use Rattle.semver.specs.Order.{pre_cmp}
use Rattle.registry_names.specs.Versions.{VersionParts, precedence}
use Rattle.registry_ranges.specs.Laws.{IsRelease, release}

-- three numbers against three others, one after another
abbrev pub in_turn : ℕ → ℕ → ℕ → ℕ → ℕ → ℕ → Ordering
in_turn x y z a b c = ordering_then (nat_cmp x a) (ordering_then (nat_cmp y b) (nat_cmp z c))

then-equal : (o : Ordering) → ordering_then o Equal ≡ o
then-equal Less = refl
then-equal Equal = refl
then-equal Greater = refl

-- releases are compared by their numbers alone
pub release-cmp : (v : VersionParts) (a b c : ℕ) → IsRelease v → precedence v (release a b c) ≡ in_turn v.major v.minor v.patch a b c
release-cmp v a b c e =
    ap (λ pre. ordering_then (nat_cmp v.major a) (ordering_then (nat_cmp v.minor b) (ordering_then (nat_cmp v.patch c) (pre_cmp pre [])))) e
    ∙ ap (λ o. ordering_then (nat_cmp v.major a) (ordering_then (nat_cmp v.minor b) o)) (then-equal (nat_cmp v.patch c))

-- ---- three numbers against those of a partial version, with zeros for the rest

pub ge-none : (x y z : ℕ) → is_ge (in_turn x y z 0 0 0) ≡ true
ge-none x y z = grind (arith, nat_tests)

pub ge-major : (x y z a : ℕ) → is_ge (in_turn x y z a 0 0) ≡ is_ge (nat_cmp x a)
ge-major x y z a = grind (arith, nat_tests)

pub ge-minor : (x y z a b : ℕ) → is_ge (in_turn x y z a b 0) ≡ is_ge (ordering_then (nat_cmp x a) (nat_cmp y b))
ge-minor x y z a b = grind (arith, nat_tests)

pub gt-major : (x y z a : ℕ) → is_ge (in_turn x y z (a + 1) 0 0) ≡ is_gt (nat_cmp x a)
gt-major x y z a = grind (arith, nat_tests)

pub gt-minor : (x y z a b : ℕ) → is_ge (in_turn x y z a (b + 1) 0) ≡ is_gt (ordering_then (nat_cmp x a) (nat_cmp y b))
gt-minor x y z a b = grind (arith, nat_tests)

-- the same comparison, in the order in which `numbers-decide` has it
abbrev pub left_in_turn : ℕ → ℕ → ℕ → ℕ → ℕ → ℕ → Ordering
left_in_turn x y z a b c = ordering_then (ordering_then (nat_cmp x a) (nat_cmp y b)) (nat_cmp z c)

pub lt-none : (x y z : ℕ) → is_lt (left_in_turn x y z 0 0 0) ≡ false
lt-none x y z = grind (arith, nat_tests)

pub lt-major : (x y z a : ℕ) → is_lt (left_in_turn x y z a 0 0) ≡ is_lt (nat_cmp x a)
lt-major x y z a = grind (arith, nat_tests)

pub lt-minor : (x y z a b : ℕ) → is_lt (left_in_turn x y z a b 0) ≡ is_lt (ordering_then (nat_cmp x a) (nat_cmp y b))
lt-minor x y z a b = grind (arith, nat_tests)

pub le-major : (x y z a : ℕ) → is_lt (left_in_turn x y z (a + 1) 0 0) ≡ is_le (nat_cmp x a)
le-major x y z a = grind (arith, nat_tests)

pub le-minor : (x y z a b : ℕ) → is_lt (left_in_turn x y z a (b + 1) 0) ≡ is_le (ordering_then (nat_cmp x a) (nat_cmp y b))
le-minor x y z a b = grind (arith, nat_tests)

pub eq-both : (o : Ordering) → (is_ge o && (is_le o && true)) ≡ is_eq o
eq-both Less = refl
eq-both Equal = refl
eq-both Greater = refl

-- ---- as orders of numbers

abbrev pub AreFrom : ℕ → ℕ → ℕ → ℕ → ℕ → ℕ → Type 0
AreFrom x y z a b c = (a < x) ⊎ ((x ≡ a) × ((b < y) ⊎ ((y ≡ b) × (c ≤ z))))

abbrev pub AreBelow : ℕ → ℕ → ℕ → ℕ → ℕ → ℕ → Type 0
AreBelow x y z a b c = (x < a) ⊎ ((x ≡ a) × ((y < b) ⊎ ((y ≡ b) × (z < c))))

pub from-numbers : (x y z a b c : ℕ) (r : Ordering) → is_ge (ordering_then (nat_cmp x a) (ordering_then (nat_cmp y b) (ordering_then (nat_cmp z c) r))) ≡ true → AreFrom x y z a b c
from-numbers x y z a b c r h = grind (arith, nat_tests)

pub below-numbers : (x y z a b c : ℕ) → is_lt (left_in_turn x y z a b c) ≡ true → AreBelow x y z a b c
below-numbers x y z a b c h = grind (arith, nat_tests)

pub numbers-below : (x y z a b c : ℕ) → AreBelow x y z a b c → is_lt (left_in_turn x y z a b c) ≡ true
numbers-below x y z a b c h = grind (arith, nat_tests)

-- numbers that are below others aren't these
pub below-differ : (x y z a b c : ℕ) → is_lt (left_in_turn x y z a b c) ≡ true → ((a == x) && (b == y) && (c == z)) ≡ false
below-differ x y z a b c h = grind (arith, nat_tests)

pub same-numbers : (x y z a b c : ℕ) → ((a == x) && (b == y) && (c == z)) ≡ true → (a ≡ x) × (b ≡ y) × (c ≡ z)
same-numbers x y z a b c h = grind (arith, nat_tests)

-- numbers that aren't all zero are above zeros, whatever follows
pub above-zeros : (x y z : ℕ) (r : Ordering) → is_ge (ordering_then (nat_cmp x 0) (ordering_then (nat_cmp y 0) (ordering_then (nat_cmp z 0) Less))) ≡ true
    → is_ge (ordering_then (nat_cmp x 0) (ordering_then (nat_cmp y 0) (ordering_then (nat_cmp z 0) r))) ≡ true
above-zeros x y z r h = grind (arith, nat_tests)

-- ---- numbers between a start and an end

pub keeps-major : (x y z a b c : ℕ) → AreFrom x y z a b c → AreBelow x y z (a + 1) 0 0 → x ≡ a
keeps-major x y z a b c from under = omega arith

pub keeps-minor : (x y z a b c : ℕ) → AreFrom x y z a b c → AreBelow x y z a (b + 1) 0 → (x ≡ a) × (y ≡ b)
keeps-minor x y z a b c from under = omega arith

pub keeps-patch : (x y z c : ℕ) → AreFrom x y z 0 0 c → AreBelow x y z 0 0 (c + 1) → (x ≡ 0) × (y ≡ 0) × (z ≡ c)
keeps-patch x y z c from under = omega arith
