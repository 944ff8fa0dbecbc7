-- The comparators of a valid part have numbers in bounds, and prereleases of the grammar.
use Rattle.std.proofs.Common.{◌≡◌, ℕ, zero, suc, ◌+◌, List, Bool, true, refl, Option, Some, None, subst}
use Rattle.std.specs.List.{list_all}
use Rattle.std.specs.Prelude.{◌&&◌}
use Rattle.semver.proofs.Segments.{and-left, and-right}
use Rattle.registry_ranges.specs.declared.bound.Bound.{Bound}
use Rattle.registry_ranges.specs.declared.component.Component.TheVariants.{Wildcard, Number}
use Rattle.registry_ranges.specs.declared.simple.Operator.{Operator}
use Rattle.registry_ranges.specs.declared.simple.Operator.TheVariants.{Bare, Less, Greater, LessEq, GreaterEq, Equal, Tilde, TildeGreater, Caret}
use Rattle.registry_ranges.specs.Bounds.{bound_view, second_view, has_pre, IsPart}
use Rattle.registry_ranges.specs.Comparators.{Comparator, below, lower, same, tilde, caret_end, caret, greater, less, at_most, high_end, comparators_of_simple, comparators_of_part}
use Rattle.registry_ranges.specs.Grammar.{Partial, one, two, three, IsPartial}
use Rattle.registry_ranges.specs.Values.{Part, simple, hyphen, nothing}
use Rattle.registry_ranges.specs.Prefixes.{Prefix, any, major, minor, full, prefix_of, IsPrefix}

pub prefix-valid : (p : Partial) → IsPartial p → IsPrefix (prefix_of p)
prefix-valid (one (Number a)) v = v
prefix-valid (one (Wildcard b)) v = tt
prefix-valid (two (Number a) (Number b)) v = v
prefix-valid (two (Number a) (Wildcard b)) v = v.0
prefix-valid (two (Wildcard a) b) v = tt
prefix-valid (three (Number a) (Number b) (Number c) pre build) v = (v.0, v.1, v.2, v.3)
prefix-valid (three (Number a) (Number b) (Wildcard c) pre build) v = (v.0, v.1)
prefix-valid (three (Number a) (Wildcard b) c pre build) v = v.0
prefix-valid (three (Wildcard a) b c pre build) v = tt

lower-pre : (p : Prefix) → IsPrefix p → has_pre (lower p) ≡ true
lower-pre any v = refl
lower-pre (major a) v = refl
lower-pre (minor a b) v = refl
lower-pre (full a b c pre) v = v.3

same-pre : (p : Prefix) → IsPrefix p → list_all has_pre (same p) ≡ true
same-pre any v = refl
same-pre (major a) v = refl
same-pre (minor a b) v = refl
same-pre (full a b c pre) v = rw v.3 refl

tilde-pre : (p : Prefix) → IsPrefix p → list_all has_pre (tilde p) ≡ true
tilde-pre any v = refl
tilde-pre (major a) v = refl
tilde-pre (minor a b) v = refl
tilde-pre (full a b c pre) v = rw v.3 refl

caret_end-pre : (a b : ℕ) (last : Comparator) → has_pre last ≡ true → has_pre (caret_end a b last) ≡ true
caret_end-pre (suc a) b last e = refl
caret_end-pre zero (suc b) last e = refl
caret_end-pre zero zero last e = e

caret-pre : (p : Prefix) → IsPrefix p → list_all has_pre (caret p) ≡ true
caret-pre any v = refl
caret-pre (major a) v = refl
caret-pre (minor a b) v = rw (caret_end-pre a b (below 0 1 0) refl) refl
caret-pre (full a b c pre) v = rw (v.3, caret_end-pre a b (below 0 0 (c + 1)) refl) refl

greater-pre : (p : Prefix) → IsPrefix p → has_pre (greater p) ≡ true
greater-pre any v = refl
greater-pre (major a) v = refl
greater-pre (minor a b) v = refl
greater-pre (full a b c pre) v = v.3

less-pre : (p : Prefix) → IsPrefix p → has_pre (less p) ≡ true
less-pre any v = refl
less-pre (major a) v = refl
less-pre (minor a b) v = refl
less-pre (full a b c pre) v = v.3

at_most-pre : (p : Prefix) → IsPrefix p → has_pre (at_most p) ≡ true
at_most-pre any v = refl
at_most-pre (major a) v = refl
at_most-pre (minor a b) v = refl
at_most-pre (full a b c pre) v = v.3

high_end-pre : (p : Prefix) → IsPrefix p → list_all has_pre (high_end p) ≡ true
high_end-pre any v = refl
high_end-pre (major a) v = refl
high_end-pre (minor a b) v = refl
high_end-pre (full a b c pre) v = rw v.3 refl

simple-pre : (o : Operator) (p : Prefix) → IsPrefix p → list_all has_pre (comparators_of_simple o p) ≡ true
simple-pre Bare p v = same-pre p v
simple-pre Equal p v = same-pre p v
simple-pre Tilde p v = tilde-pre p v
simple-pre TildeGreater p v = tilde-pre p v
simple-pre Caret p v = caret-pre p v
simple-pre Less p v = rw (less-pre p v) refl
simple-pre Greater p v = rw (greater-pre p v) refl
simple-pre LessEq p v = rw (at_most-pre p v) refl
simple-pre GreaterEq p v = rw (lower-pre p v) refl

pub part-pre : (p : Part) → IsPart p → list_all has_pre (comparators_of_part p) ≡ true
part-pre nothing v = refl
part-pre (hyphen low high) v = rw (lower-pre low v.0) (high_end-pre high v.1)
part-pre (simple o p) v = simple-pre o p v

pub ruleset bound_facts = (prefix-valid)

-- the same of a list that is the part's
pub pre-of_part : (p : Part) (cs : List Comparator) → IsPart p → cs ≡ comparators_of_part p → list_all has_pre cs ≡ true
pre-of_part p cs v e = rw e (part-pre p v)

-- the second of two comparators
pub second-pre : (first : Bool) (o : Option Bound) (b : Bound) → o ≡ Some b → (first && list_all has_pre (second_view o)) ≡ true → has_pre (bound_view b) ≡ true
second-pre first None b e h = cc e
second-pre first (Some d) b e h =
    let s = and-left (has_pre (bound_view d)) true (and-right first (has_pre (bound_view d) && true) h) in
    let same : d ≡ b = cc e in
    subst (λ (x : Bound). has_pre (bound_view x) ≡ true) same s

pub ruleset pre_facts = (pre-of_part)
