-- What a step is read from, and the step that each form of a range set makes.
use Rattle.std.proofs.Common.{◌≡◌, ℕ, zero, suc, ◌+◌, ◌==◌, ◌++◌, List, [], ◌∷◌, length, Some, None, Option, Bool, true, false, refl, sym, ap, ◌∙◌, arith, inl, inr, subst, append_assoc, length-append, ◌⊎◌, ◌≢◌, true≢false, add-one}
use Rattle.std.proofs.lemmas.Bool.{cases_Bool, eq-eqb, eqb-true, ne_eqb}
use Rattle.std.proofs.lemmas.List.{length-replicate}
use Rattle.std.proofs.lemmas.Bool.Decides.{nat_tests}
use Rattle.semver.proofs.Segments.{and-left}
use Rattle.registry_ranges.specs.declared.simple.Operator.{Operator}
use Rattle.registry_ranges.specs.declared.simple.Operator.TheVariants.{Bare, Less, Greater, LessEq, GreaterEq, Equal, Tilde, TildeGreater, Caret}
use Rattle.registry_ranges.specs.declared.reader.Place.{Place}
use Rattle.registry_ranges.specs.declared.reader.Place.TheVariants.{Open, Closed}
use Rattle.registry_ranges.specs.Grammar.{Partial, IsPartial, print_partial, print_v, spaces, Simple, print_simple, IsSimple, AreSimples, Hyphen, between, print_range, print_more}
use Rattle.registry_ranges.specs.Values.{Part, simple, hyphen, part_of}
use Rattle.registry_ranges.specs.Prefixes.{Prefix, prefix_of}
use Rattle.registry_ranges.specs.Reading.{partial_at, simple_at, strip_spaces, strip_v}
use Rattle.registry_ranges.specs.Steps.{begins_with, is_range_end, behind_spaces, hyphen_at, PartRead, hyphen_to, bare_or_hyphen, first_of, first_at, more_at}
use Rattle.registry_ranges.proofs.PartialFacts.{bind_some, some-value, partial-sound, partial-complete, ends}
use Rattle.registry_ranges.proofs.SimpleFacts.{starts, is_simple_start, starts_space, simple-no-space, strip-spaces, strip-split, v-sound, strip-v, versioned-start, simple-sound, simple-complete, simple-start}

-- ---- what ranges end at

-- what follows a range's spaces is no space
pub end-no-space : (xs : List ℕ) → is_range_end xs ≡ true → starts_space xs ≡ false
end-no-space [] h = refl
end-no-space (b ∷ xs) h =
    let bar : (b == 124) ≡ true = and-left (b == 124) (begins_with 124 xs) h in
    grind (arith, nat_tests)

end-ends : (xs : List ℕ) → is_range_end xs ≡ true → ends xs ≡ true
end-ends [] h = refl
end-ends (b ∷ xs) h =
    let bar : (b == 124) ≡ true = and-left (b == 124) (begins_with 124 xs) h in
    grind (arith, nat_tests)

end-no-hyphen : (xs : List ℕ) → is_range_end xs ≡ true → begins_with 45 xs ≡ false
end-no-hyphen [] h = refl
end-no-hyphen (b ∷ xs) h =
    let bar : (b == 124) ≡ true = and-left (b == 124) (begins_with 124 xs) h in
    grind (arith, nat_tests)

-- a simple ends where spaces and the end of its range follow
pub spaced-ends : (n : ℕ) (xs : List ℕ) → is_range_end xs ≡ true → ends (spaces n ++ xs) ≡ true
spaced-ends zero xs h = end-ends xs h
spaced-ends (suc n) xs h = refl

pub more-ends : (more : List (ℕ × Simple)) (xs : List ℕ) → ends xs ≡ true → ends (print_more more ++ xs) ≡ true
more-ends [] xs h = h
more-ends ((gap, s) ∷ more) xs h = rw (add-one gap) refl

simple-no_bar : (b : ℕ) → is_simple_start b ≡ true → (b == 124) ≡ false
simple-no_bar b h = grind (arith, nat_tests)

simple-no_hyphen : (b : ℕ) → is_simple_start b ≡ true → (b == 45) ≡ false
simple-no_hyphen b h = grind (arith, nat_tests)

pub simple-no-end : (xs : List ℕ) → starts is_simple_start xs ≡ true → is_range_end xs ≡ false
simple-no-end [] h = cc h
simple-no-end (b ∷ xs) h = rw (simple-no_bar b h) refl

simple-no-hyphen : (xs : List ℕ) → starts is_simple_start xs ≡ true → begins_with 45 xs ≡ false
simple-no-hyphen [] h = refl
simple-no-hyphen (b ∷ xs) h = simple-no_hyphen b h

-- ---- hyphens

hyphen-behind_none : (xs : List ℕ) → begins_with 45 xs ≡ false → behind_spaces xs ≡ None
hyphen-behind_none [] h = refl
hyphen-behind_none (b ∷ xs) h = rw h refl

hyphen-none : (xs : List ℕ) → begins_with 45 (strip_spaces xs) ≡ false → hyphen_at xs ≡ None
unfolding hyphen_at
hyphen-none xs h = elim (cases_Bool (length (strip_spaces xs) == length xs)) [
  | inl same ↦ rw same refl
  | inr less ↦ rw less (hyphen-behind_none (strip_spaces xs) h)
]

-- no simple and no end of a range is a hyphen
pub more-no-hyphen : (more : List (ℕ × Simple)) (n : ℕ) (xs : List ℕ) → AreSimples more → is_range_end xs ≡ true → hyphen_at (print_more more ++ (spaces n ++ xs)) ≡ None
more-no-hyphen [] n xs i h =
    let e = strip-spaces n xs (end-no-space xs h) in
    hyphen-none (spaces n ++ xs) (rw e (end-no-hyphen xs h))
more-no-hyphen ((gap, s) ∷ more) n xs i h =
    let rest = print_more more ++ (spaces n ++ xs) in
    let start = simple-start s rest i.0 in
    let text : print_more ((gap, s) ∷ more) ++ (spaces n ++ xs) ≡ spaces (gap + 1) ++ (print_simple s ++ rest) = simp append_assoc in
    let e = strip-spaces (gap + 1) (print_simple s ++ rest) (simple-no-space (print_simple s ++ rest) start) in
    rw text (hyphen-none (spaces (gap + 1) ++ (print_simple s ++ rest)) (rw e (simple-no-hyphen (print_simple s ++ rest) start)))

-- spaces at the front make a text longer
pub spaces-longer : (n : ℕ) (xs : List ℕ) → (length xs == length (spaces (n + 1) ++ xs)) ≡ false
spaces-longer n xs =
    let e : length (spaces (n + 1) ++ xs) ≡ n + 1 + length xs = simp (length-append, length-replicate) in
    let d : length xs ≢ length (spaces (n + 1) ++ xs) = λ q. absurd (omega arith) in
    ne_eqb (length xs) (length (spaces (n + 1) ++ xs)) d

pub hyphen-complete : (n m : ℕ) (xs : List ℕ) → starts_space xs ≡ false → hyphen_at (spaces (n + 1) ++ 45 ∷ (spaces (m + 1) ++ xs)) ≡ Some xs
unfolding hyphen_at
hyphen-complete n m xs h =
    let high = 45 ∷ (spaces (m + 1) ++ xs) in
    let e = strip-spaces (n + 1) high refl in
    let f = strip-spaces m xs h in
    rw (e, spaces-longer n high, add-one m) (ap Some f)

behind-sound : (xs high : List ℕ) → behind_spaces xs ≡ Some high → (m : ℕ) × (xs ≡ 45 ∷ (spaces (m + 1) ++ high))
behind-sound [] high h = cc h
behind-sound (a ∷ []) high h = elim (cases_Bool (a == 45)) [
  | inl hit ↦ cc (rw hit at h)
  | inr miss ↦ cc (rw miss at h)
]
behind-sound (a ∷ b ∷ xs) high h = elim (cases_Bool (a == 45)) [
  | inl hit ↦
      let h2 = rw hit at h in
      elim (cases_Bool (b == 32)) [
        | inl space ↦
            let h3 = rw space at h2 in
            let s = strip-split xs in
            let e : strip_spaces xs ≡ high = some-value _ _ h3 in
            let text = rw e at s.1 in
            (s.0, rw (eqb-true a 45 hit, eqb-true b 32 space, add-one s.0) (ap (λ (l : List ℕ). 45 ∷ 32 ∷ l) text))
        | inr other ↦ cc (rw other at h2)
      ]
  | inr miss ↦ cc (rw miss at h)
]

some-spaces : (xs : List ℕ) (n : ℕ) → xs ≡ spaces n ++ strip_spaces xs → (length (strip_spaces xs) == length xs) ≡ false → (n : ℕ) × (xs ≡ spaces (n + 1) ++ strip_spaces xs)
some-spaces xs zero e less = absurd (true≢false (sym (eq-eqb (length (strip_spaces xs)) (length xs) (sym (ap length e))) ∙ less))
some-spaces xs (suc n) e less = (n, rw (add-one n) e)

-- a strip that leaves less has stripped a space
pub stripped : (xs : List ℕ) → (length (strip_spaces xs) == length xs) ≡ false → (n : ℕ) × (xs ≡ spaces (n + 1) ++ strip_spaces xs)
stripped xs less = let s = strip-split xs in some-spaces xs s.0 s.1 less

pub hyphen-sound : (xs high : List ℕ) → hyphen_at xs ≡ Some high → (n : ℕ) × (m : ℕ) × (xs ≡ spaces (n + 1) ++ 45 ∷ (spaces (m + 1) ++ high))
unfolding hyphen_at
hyphen-sound xs high h = elim (cases_Bool (length (strip_spaces xs) == length xs)) [
  | inl same ↦ cc (rw same at h)
  | inr less ↦
      let s = stripped xs less in
      let b = behind-sound (strip_spaces xs) high (rw less at h) in
      (s.0, b.0, rw b.1 at s.1)
]

-- ---- the first part of a range

-- what the first part of a range is read from
abbrev pub FromFirst : List ℕ → Part × Place × List ℕ → Type 0
FromFirst xs q = ((s : Simple) × IsSimple s × (q.0 ≡ part_of s) × (q.1 ≡ Open) × (xs ≡ print_simple s ++ q.2))
    ⊎ ((h : Hyphen) × (IsPartial h.low × IsPartial h.high) × (q.0 ≡ hyphen (prefix_of h.low) (prefix_of h.high)) × (q.1 ≡ Closed) × (xs ≡ print_range (between h) ++ q.2))

from-simple : (xs r : List ℕ) (s : Simple) (q : Part × Place × List ℕ) → IsSimple s → xs ≡ print_simple s ++ r
    → ◌≡◌ {A = PartRead} (Some (part_of s, Open, r)) (Some q) → FromFirst xs q
from-simple xs r s q i t h =
    let e : (part_of s, Open, r) ≡ q = some-value _ _ h in
    subst (λ (q : Part × Place × List ℕ). FromFirst xs q) e (inl (s, i, refl, refl, t))

hyphen-glue : (xs r high stripped rest : List ℕ) (v w : Bool) (p u : Partial) (n m : ℕ) → xs ≡ (print_v v ++ print_partial p) ++ r
    → r ≡ spaces (n + 1) ++ 45 ∷ (spaces (m + 1) ++ high) → high ≡ print_v w ++ stripped → stripped ≡ print_partial u ++ rest
    → xs ≡ print_range (between (record { low_v = v; low = p; before = n; after = m; high_v = w; high = u })) ++ rest
hyphen-glue xs r high stripped rest v w p u n m e1 e2 e3 e4 = rw (e1, e2, e3, e4) (simp append_assoc)

bare-text : (s : Simple) → IsSimple s → s.operator ≡ Bare → print_simple s ≡ print_v s.v ++ print_partial s.partial
bare-text s i e = rw (e, i.1 e) refl

from-hyphen : (xs r high : List ℕ) (s : Simple) (q : Part × Place × List ℕ) → IsSimple s → s.operator ≡ Bare → xs ≡ print_simple s ++ r
    → hyphen_at r ≡ Some high → hyphen_to (prefix_of s.partial) high ≡ Some q → FromFirst xs q
from-hyphen xs r high s q i bare t at h =
    let b = bind_some (partial_at (strip_v high)) _ q h in
    let p = partial-sound (strip_v high) b.0.0 b.0.1 b.1 in
    let w = v-sound high in
    let f = hyphen-sound r high at in
    let e : (hyphen (prefix_of s.partial) (prefix_of b.0.0), Closed, b.0.1) ≡ q = some-value _ _ b.2 in
    let hy : Hyphen = record { low_v = s.v; low = s.partial; before = f.0; after = f.1; high_v = w.0; high = b.0.0 } in
    let text = hyphen-glue xs r high (strip_v high) b.0.1 s.v w.0 s.partial b.0.0 f.0 f.1 (rw (bare-text s i bare) at t) f.2 w.1 p.1 in
    subst (λ (q : Part × Place × List ℕ). FromFirst xs q) e (inr (hy, (i.0, p.0), refl, refl, text))

from-bare : (xs r : List ℕ) (s : Simple) (q : Part × Place × List ℕ) (m : Option (List ℕ)) → IsSimple s → s.operator ≡ Bare → xs ≡ print_simple s ++ r
    → hyphen_at r ≡ m → bare_or_hyphen (prefix_of s.partial) r m ≡ Some q → FromFirst xs q
from-bare xs r s q None i bare t at h = from-simple xs r s q i t (rw bare h)
from-bare xs r s q (Some high) i bare t at h = from-hyphen xs r high s q i bare t at h

from-first : (o : Operator) (xs r : List ℕ) (s : Simple) (q : Part × Place × List ℕ) → IsSimple s → s.operator ≡ o → xs ≡ print_simple s ++ r
    → first_of o (prefix_of s.partial) r ≡ Some q → FromFirst xs q
from-first Bare xs r s q i e t h = from-bare xs r s q (hyphen_at r) i e t refl h
from-first Less xs r s q i e t h = from-simple xs r s q i t (rw e h)
from-first Greater xs r s q i e t h = from-simple xs r s q i t (rw e h)
from-first LessEq xs r s q i e t h = from-simple xs r s q i t (rw e h)
from-first GreaterEq xs r s q i e t h = from-simple xs r s q i t (rw e h)
from-first Equal xs r s q i e t h = from-simple xs r s q i t (rw e h)
from-first Tilde xs r s q i e t h = from-simple xs r s q i t (rw e h)
from-first TildeGreater xs r s q i e t h = from-simple xs r s q i t (rw e h)
from-first Caret xs r s q i e t h = from-simple xs r s q i t (rw e h)

pub first-sound : (xs : List ℕ) (q : Part × Place × List ℕ) → first_at xs ≡ Some q → FromFirst xs q
unfolding first_at
first-sound xs q h =
    let b = bind_some (simple_at xs) _ q h in
    let s = simple-sound xs b.0.0.0 b.0.0.1 b.0.1 b.1 in
    let h2 : first_of s.0.operator (prefix_of s.0.partial) b.0.1 ≡ Some q = rw (s.2, s.3) b.2 in
    from-first s.0.operator xs b.0.1 s.0 q s.1 refl s.4 h2

pub more-sound : (xs : List ℕ) (q : Part × Place × List ℕ) → more_at xs ≡ Some q
    → (s : Simple) × IsSimple s × (q.0 ≡ part_of s) × (q.1 ≡ Open) × (xs ≡ print_simple s ++ q.2)
unfolding more_at
more-sound xs q h =
    let b = bind_some (simple_at xs) _ q h in
    let s = simple-sound xs b.0.0.0 b.0.0.1 b.0.1 b.1 in
    let e : (simple b.0.0.0 b.0.0.1, Open, b.0.1) ≡ q = some-value _ _ b.2 in
    subst (λ (q : Part × Place × List ℕ). (s : Simple) × IsSimple s × (q.0 ≡ part_of s) × (q.1 ≡ Open) × (xs ≡ print_simple s ++ q.2)) e
    (s.0, s.1, rw (s.2, s.3) refl, refl, s.4)

-- a first simple, where no hyphen follows
alone : (o : Operator) (p : Prefix) (r : List ℕ) → hyphen_at r ≡ None → first_of o p r ≡ Some (simple o p, Open, r)
alone Bare p r h = rw h refl
alone Less p r h = refl
alone Greater p r h = refl
alone LessEq p r h = refl
alone GreaterEq p r h = refl
alone Equal p r h = refl
alone Tilde p r h = refl
alone TildeGreater p r h = refl
alone Caret p r h = refl

pub first-simple : (s : Simple) (rest : List ℕ) → IsSimple s → ends rest ≡ true → hyphen_at rest ≡ None
    → first_at (print_simple s ++ rest) ≡ Some (part_of s, Open, rest)
unfolding first_at
first-simple s rest i e h = rw (simple-complete s rest i e) (alone s.operator (prefix_of s.partial) rest h)

-- the low end of a hyphen range, as a simple
abbrev low_of : Hyphen → Simple
low_of h = record { operator = Bare; gap = 0; v = h.low_v; partial = h.low }

hyphen-text : (h : Hyphen) (rest : List ℕ) → print_range (between h) ++ rest
    ≡ print_simple (low_of h) ++ (spaces (h.before + 1) ++ 45 ∷ (spaces (h.after + 1) ++ (print_v h.high_v ++ (print_partial h.high ++ rest))))
hyphen-text h rest = simp append_assoc

pub first-hyphen : (h : Hyphen) (rest : List ℕ) → IsPartial h.low → IsPartial h.high → ends rest ≡ true
    → first_at (print_range (between h) ++ rest) ≡ Some (hyphen (prefix_of h.low) (prefix_of h.high), Closed, rest)
unfolding first_at
first-hyphen h rest il ih e =
    let high = print_v h.high_v ++ (print_partial h.high ++ rest) in
    let behind = spaces (h.before + 1) ++ 45 ∷ (spaces (h.after + 1) ++ high) in
    let behind-ends : ends behind ≡ true = rw (add-one h.before) refl in
    let low = simple-complete (low_of h) behind (il, λ _. refl) behind-ends in
    let no = simple-no-space high (versioned-start h.high_v h.high rest ih) in
    let at = hyphen-complete h.before h.after high no in
    let v = strip-v h.high_v h.high rest ih in
    let p = partial-complete h.high rest ih e in
    rw (hyphen-text h rest, low, at, v, p) refl

pub hyphen-start : (h : Hyphen) (rest : List ℕ) → IsPartial h.low → starts is_simple_start (print_range (between h) ++ rest) ≡ true
hyphen-start h rest i =
    let behind = spaces (h.before + 1) ++ 45 ∷ (spaces (h.after + 1) ++ (print_v h.high_v ++ (print_partial h.high ++ rest))) in
    rw (hyphen-text h rest) (simple-start (low_of h) behind (i, λ _. refl))

pub more-simple : (s : Simple) (rest : List ℕ) → IsSimple s → ends rest ≡ true → more_at (print_simple s ++ rest) ≡ Some (part_of s, Open, rest)
unfolding more_at
more-simple s rest i e = rw (simple-complete s rest i e) refl
