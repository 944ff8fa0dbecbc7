-- What a reader reads is a range set of that value, and every range set is read; so a text has one
-- value at most.
use Rattle.std.proofs.Common.{◌≡◌, ◌<◌, ◌≤◌, ℕ, zero, suc, ◌+◌, ◌*◌, ◌==◌, ◌++◌, List, [], ◌∷◌, length, Some, None, Option, Bool, true, false, refl, sym, ap, ◌∙◌, arith, inl, inr, append_assoc, length-append}
use Rattle.std.proofs.lemmas.Bool.{cases_Bool, eqb-true}
use Rattle.std.proofs.lemmas.List.{length-replicate, replicate-append-replicate}
use Rattle.std.specs.Prelude.{◌||◌}
use Rattle.registry_ranges.specs.declared.reader.Place.{Place}
use Rattle.registry_ranges.specs.declared.reader.Place.TheVariants.{Before, Open, Closed}
use Rattle.registry_ranges.specs.Grammar.{spaces, Simple, print_simple, AreSimples, Range, empty, between, simples, IsRange, print_range, print_more, Spaced, print_spaced, print_others, AreRanges, RangeSet, IsSet, print_set}
use Rattle.registry_ranges.specs.Values.{Part, nothing, hyphen, part_of, parts_of_range, parts_of_more, parts_of_others, parts_of, Ranges, IsRangeOf, IsUnambiguous}
use Rattle.registry_ranges.specs.Bounds.{IsPart}
use Rattle.registry_ranges.specs.Prefixes.{prefix_of}
use Rattle.registry_ranges.specs.Reading.{strip_spaces}
use Rattle.registry_ranges.specs.Steps.{Step, part, or, end, wrong, end_at, is_range_end, PartRead, first_at, more_at, step_of, before_at, open_at, step, with_part, with_range, onward, reading_within, place_steps, steps, reading}
use Rattle.registry_ranges.proofs.BoundFacts.{prefix-valid}
use Rattle.registry_ranges.proofs.PartialFacts.{some-value}
use Rattle.registry_ranges.proofs.SimpleFacts.{strip-spaces, strip-split, simple-start, simple-no-space}
use Rattle.registry_ranges.proofs.StepFacts.{end-no-space, spaced-ends, more-ends, simple-no-end, more-no-hyphen, spaces-longer, stripped, FromFirst, first-sound, more-sound, first-simple, first-hyphen, hyphen-start, more-simple}

-- ---- each step leaves less to read

-- a step that leaves less to read
abbrev pub IsShorter : ℕ → Step → Type 0
IsShorter n (part p place rest) = steps place rest < n
IsShorter n (or rest) = steps Before rest < n
IsShorter n end = Unit {0}
IsShorter n wrong = Unit {0}

strip-shorter : (xs : List ℕ) → length (strip_spaces xs) ≤ length xs
strip-shorter xs =
    let s = strip-split xs in
    let e : length xs ≡ length (spaces s.0) + length (strip_spaces xs) = ap length s.1 ∙ length-append (spaces s.0) (strip_spaces xs) in
    omega arith

shorter-rest : (xs front rest : List ℕ) → xs ≡ front ++ rest → length rest ≤ length xs
shorter-rest xs front rest e =
    let n : length xs ≡ length front + length rest = ap length e ∙ length-append front rest in
    omega arith

end-shorter : (n : ℕ) (xs : List ℕ) → 2 * length xs ≤ n → IsShorter n (end_at xs)
unfolding end_at
end-shorter n [] h = tt
end-shorter n (a ∷ []) h = elim (cases_Bool (a == 124)) [ inl bar ↦ rw bar tt | inr other ↦ rw other tt ]
end-shorter n (a ∷ b ∷ xs) h = elim (cases_Bool (a == 124)) [
  | inl bar ↦ elim (cases_Bool (b == 124)) [
    | inl two ↦ rw (bar, two) (omega arith)
    | inr other ↦ rw (bar, other) tt
  ]
  | inr other ↦ rw other tt
]

-- what is read first ends no longer, and not before a range
first-shorter : (xs : List ℕ) (q : Part × Place × List ℕ) → FromFirst xs q → (place_steps q.1 ≡ 0) × (length q.2 ≤ length xs)
first-shorter xs q (inl s) = (ap place_steps s.3, shorter-rest xs (print_simple s.0) q.2 s.4)
first-shorter xs q (inr h) = (ap place_steps h.3, shorter-rest xs (print_range (between h.0)) q.2 h.4)

first-step-shorter : (n : ℕ) (xs : List ℕ) (o : PartRead) → first_at xs ≡ o → 2 * length xs < n → IsShorter n (step_of o)
first-step-shorter n xs None e h = tt
first-step-shorter n xs (Some q) e h = let s = first-shorter xs q (first-sound xs q e) in omega (arith, s.0, s.1)

more-step-shorter : (n : ℕ) (xs : List ℕ) (o : PartRead) → more_at xs ≡ o → 2 * length xs < n → IsShorter n (step_of o)
more-step-shorter n xs None e h = tt
more-step-shorter n xs (Some q) e h =
    let s = more-sound xs q e in
    let p : place_steps q.1 ≡ 0 = ap place_steps s.3 in
    let l = shorter-rest xs (print_simple s.0) q.2 s.4 in
    omega (arith, p, l)

pub step-shorter : (place : Place) (xs : List ℕ) → IsShorter (steps place xs) (step place xs)
unfolding step before_at open_at
step-shorter Closed xs = end-shorter (steps Closed xs) (strip_spaces xs) (omega (arith, strip-shorter xs))
step-shorter Before xs =
    let ys = strip_spaces xs in
    let l = strip-shorter xs in
    elim (cases_Bool (is_range_end ys)) [
      | inl here ↦ rw here (omega arith)
      | inr other ↦ rw other (first-step-shorter (steps Before xs) ys (first_at ys) refl (omega arith))
    ]
step-shorter Open xs =
    let ys = strip_spaces xs in
    let l = strip-shorter xs in
    elim (cases_Bool (length ys == length xs)) [
      | inl same ↦ rw same (end-shorter (steps Open xs) ys (omega arith))
      | inr less ↦ elim (cases_Bool (is_range_end ys)) [
        | inl here ↦ rw (less, here) (end-shorter (steps Open xs) ys (omega arith))
        | inr other ↦
            let s = stripped xs less in
            let n : length xs ≡ length (spaces (s.0 + 1)) + length ys = ap length s.1 ∙ length-append (spaces (s.0 + 1)) ys in
            let m : length (spaces (s.0 + 1)) ≡ s.0 + 1 = length-replicate (s.0 + 1) 32 in
            rw (less, other) (more-step-shorter (steps Open xs) ys (more_at ys) refl (omega arith))
      ]
    ]

-- ---- each part is valid

abbrev pub IsValidStep : Step → Type 0
IsValidStep (part p place rest) = IsPart p
IsValidStep (or rest) = Unit {0}
IsValidStep end = Unit {0}
IsValidStep wrong = Unit {0}

end-valid : (xs : List ℕ) → IsValidStep (end_at xs)
unfolding end_at
end-valid [] = tt
end-valid (a ∷ []) = elim (cases_Bool (a == 124)) [ inl bar ↦ rw bar tt | inr other ↦ rw other tt ]
end-valid (a ∷ b ∷ xs) = elim (cases_Bool (a == 124)) [
  | inl bar ↦ elim (cases_Bool (b == 124)) [ inl two ↦ rw (bar, two) tt | inr other ↦ rw (bar, other) tt ]
  | inr other ↦ rw other tt
]

first-valid : (xs : List ℕ) (q : Part × Place × List ℕ) → FromFirst xs q → IsPart q.0
first-valid xs q (inl s) = rw s.2 (prefix-valid s.0.partial s.1.0)
first-valid xs q (inr h) = rw h.2 (prefix-valid h.0.low h.1.0, prefix-valid h.0.high h.1.1)

first-step-valid : (xs : List ℕ) (o : PartRead) → first_at xs ≡ o → IsValidStep (step_of o)
first-step-valid xs None e = tt
first-step-valid xs (Some q) e = first-valid xs q (first-sound xs q e)

more-step-valid : (xs : List ℕ) (o : PartRead) → more_at xs ≡ o → IsValidStep (step_of o)
more-step-valid xs None e = tt
more-step-valid xs (Some q) e = let s = more-sound xs q e in rw s.2 (prefix-valid s.0.partial s.1.0)

pub step-valid : (place : Place) (xs : List ℕ) → IsValidStep (step place xs)
unfolding step before_at open_at
step-valid Closed xs = end-valid (strip_spaces xs)
step-valid Before xs =
    let ys = strip_spaces xs in
    elim (cases_Bool (is_range_end ys)) [
      | inl here ↦ rw here tt
      | inr other ↦ rw other (first-step-valid ys (first_at ys) refl)
    ]
step-valid Open xs =
    let ys = strip_spaces xs in
    elim (cases_Bool ((length ys == length xs) || is_range_end ys)) [
      | inl here ↦ rw here (end-valid ys)
      | inr other ↦ rw other (more-step-valid ys (more_at ys) refl)
    ]

-- ---- a reading goes on after its first step

-- two readers that agree on what is shorter go on alike
onward-same : (f g : Place → List ℕ → Option Ranges) (n : ℕ) (s : Step) → ((place : Place) (xs : List ℕ) → steps place xs < n → f place xs ≡ g place xs)
    → IsShorter n s → onward f s ≡ onward g s
onward-same f g n (part p place rest) same h = ap (with_part p) (same place rest h)
onward-same f g n (or rest) same h = ap with_range (same Before rest h)
onward-same f g n end same h = refl
onward-same f g n wrong same h = refl

within-same : (n m : ℕ) (place : Place) (xs : List ℕ) → steps place xs < n → steps place xs < m → reading_within n place xs ≡ reading_within m place xs
unfolding reading_within
within-same zero m place xs h k = absurd (omega arith)
within-same (suc n) zero place xs h k = absurd (omega arith)
within-same (suc n) (suc m) place xs h k =
    onward-same (reading_within n) (reading_within m) (steps place xs) (step place xs) (λ p ys l. within-same n m p ys (omega arith) (omega arith)) (step-shorter place xs)

pub reading-step : (place : Place) (xs : List ℕ) → reading place xs ≡ onward reading (step place xs)
unfolding reading reading_within
reading-step place xs =
    onward-same (reading_within (steps place xs)) reading (steps place xs) (step place xs)
    (λ p ys l. within-same (steps place xs) (suc (steps p ys)) p ys l (omega arith)) (step-shorter place xs)

-- ---- what is read is a range set of that value

abbrev ClosedTail : List ℕ → Ranges → Type 0
ClosedTail xs v = (n : ℕ) × (os : List Spaced) × AreRanges os × (xs ≡ spaces n ++ print_others os) × (v ≡ ([], parts_of_others os))

abbrev OpenTail : List ℕ → Ranges → Type 0
OpenTail xs v = (more : List (ℕ × Simple)) × (n : ℕ) × (os : List Spaced) × AreSimples more × AreRanges os
    × (xs ≡ print_more more ++ (spaces n ++ print_others os)) × (v ≡ (parts_of_more more, parts_of_others os))

-- what is left of a range set of this value
abbrev Tail : Place → List ℕ → Ranges → Type 0
Tail Before xs v = IsRangeOf xs v
Tail Open xs v = OpenTail xs v
Tail Closed xs v = ClosedTail xs v

-- a reader that reads nothing else
abbrev ReadsTails : (Place → List ℕ → Option Ranges) → Type 0
ReadsTails more = (place : Place) (xs : List ℕ) (v : Ranges) → more place xs ≡ Some v → Tail place xs v

with_part-some : (p : Part) (o : Option Ranges) (v : Ranges) → with_part p o ≡ Some v → (w : Ranges) × (o ≡ Some w) × (v ≡ (p ∷ w.0, w.1))
with_part-some p None v h = cc h
with_part-some p (Some w) v h = (w, refl, sym (some-value _ _ h))

with_range-some : (o : Option Ranges) (v : Ranges) → with_range o ≡ Some v → (w : Ranges) × (o ≡ Some w) × (v ≡ ([], w.0 ∷ w.1))
with_range-some None v h = cc h
with_range-some (Some w) v h = (w, refl, sym (some-value _ _ h))

or-glue : (n : ℕ) (xs ys set : List ℕ) (a b : ℕ) → xs ≡ spaces n ++ (a ∷ b ∷ ys) → a ≡ 124 → b ≡ 124 → ys ≡ set → xs ≡ spaces n ++ (124 ∷ 124 ∷ set)
or-glue n xs ys set a b e f g h = rw (e, f, g, h) refl

end-tail : (more : Place → List ℕ → Option Ranges) → ReadsTails more → (n : ℕ) (xs ys : List ℕ) (v : Ranges) → xs ≡ spaces n ++ ys → onward more (end_at ys) ≡ Some v → ClosedTail xs v
unfolding end_at
end-tail more ih n xs [] v e h = (n, [], tt, e, sym (some-value _ _ h))
end-tail more ih n xs (a ∷ []) v e h = elim (cases_Bool (a == 124)) [
  | inl bar ↦ cc (rw bar at h)
  | inr other ↦ cc (rw other at h)
]
end-tail more ih n xs (a ∷ b ∷ ys) v e h = elim (cases_Bool (a == 124)) [
  | inl bar ↦
      let h2 = rw bar at h in
      elim (cases_Bool (b == 124)) [
        | inl two ↦
            let h3 = rw two at h2 in
            let w = with_range-some (more Before ys) v h3 in
            let t = ih Before ys w.0 w.1 in
            let text = or-glue n xs ys (print_set t.0) a b e (eqb-true a 124 bar) (eqb-true b 124 two) t.2 in
            (n, t.0.first ∷ t.0.others, t.1, text, w.2 ∙ ap (λ (u : Ranges). ([], u.0 ∷ u.1)) t.3)
        | inr other ↦ cc (rw other at h2)
      ]
  | inr other ↦ cc (rw other at h)
]

-- the place of a reader, by what it is known to be
at-place : (more : Place → List ℕ → Option Ranges) (place known : Place) (xs : List ℕ) (w : Ranges) → place ≡ known → more place xs ≡ Some w → more known xs ≡ Some w
at-place more place known xs w e h = rw e at h

value-glue : (v w : Ranges) (p known : Part) (ps : List Part) (os : List (List Part)) → v ≡ (p ∷ w.0, w.1) → p ≡ known → w ≡ (ps, os) → v ≡ (known ∷ ps, os)
value-glue v w p known ps os e f g = rw (e, f, g) refl

more-glue : (xs ys rest one others tail : List ℕ) (n : ℕ) → xs ≡ spaces (n + 1) ++ ys → ys ≡ one ++ rest → rest ≡ others ++ tail
    → xs ≡ (spaces (n + 1) ++ (one ++ others)) ++ tail
more-glue xs ys rest one others tail n e f g = rw (e, f, g) (simp append_assoc)

-- the text of a range set, by the text of its first range
set-glue : (xs ys rest range others : List ℕ) (n m : ℕ) → xs ≡ spaces n ++ ys → ys ≡ range ++ rest → rest ≡ spaces m ++ others
    → xs ≡ (spaces n ++ (range ++ spaces m)) ++ others
set-glue xs ys rest range others n m e f g = rw (e, f, g) (simp append_assoc)

simples-glue : (xs ys rest one more others : List ℕ) (n m : ℕ) → xs ≡ spaces n ++ ys → ys ≡ one ++ rest → rest ≡ more ++ (spaces m ++ others)
    → xs ≡ (spaces n ++ ((one ++ more) ++ spaces m)) ++ others
simples-glue xs ys rest one more others n m e f g = rw (e, f, g) (simp append_assoc)

-- a text that a part is read from, and the value that it begins
more-tail : (more : Place → List ℕ → Option Ranges) → ReadsTails more → (n : ℕ) (xs ys : List ℕ) (v : Ranges) (o : PartRead) → xs ≡ spaces (n + 1) ++ ys
    → more_at ys ≡ o → onward more (step_of o) ≡ Some v → OpenTail xs v
more-tail more ih n xs ys v None e r h = cc h
more-tail more ih n xs ys v (Some q) e r h =
    let s = more-sound ys q r in
    let w = with_part-some q.0 (more q.1 q.2) v h in
    let t = ih Open q.2 w.0 (at-place more q.1 Open q.2 w.0 s.3 w.1) in
    let text = more-glue xs ys q.2 (print_simple s.0) (print_more t.0) (spaces t.1 ++ print_others t.2) n e s.4 t.5 in
    let value = value-glue v w.0 q.0 (part_of s.0) (parts_of_more t.0) (parts_of_others t.2) w.2 s.2 t.6 in
    ((n, s.0) ∷ t.0, t.1, t.2, (s.1, t.3), t.4, text, value)

open-of_closed : (xs : List ℕ) (v : Ranges) → ClosedTail xs v → OpenTail xs v
open-of_closed xs v t = ([], t.0, t.1, tt, t.2, t.3, t.4)

empty-tail : (more : Place → List ℕ → Option Ranges) → ReadsTails more → (n : ℕ) (xs ys : List ℕ) (v : Ranges) → xs ≡ spaces n ++ ys
    → with_part nothing (more Closed ys) ≡ Some v → IsRangeOf xs v
empty-tail more ih n xs ys v e h =
    let w = with_part-some nothing (more Closed ys) v h in
    let t = ih Closed ys w.0 w.1 in
    let set : RangeSet = record { first = record { before = n; range = empty; after = t.0 }; others = t.1 } in
    let text = set-glue xs ys ys [] (print_others t.1) n t.0 e refl t.3 in
    let value = value-glue v w.0 nothing nothing [] (parts_of_others t.1) w.2 refl t.4 in
    (set, (tt, t.2), text, value)

first-tail : (more : Place → List ℕ → Option Ranges) → ReadsTails more → (n : ℕ) (xs ys : List ℕ) (v : Ranges) (q : Part × Place × List ℕ) → xs ≡ spaces n ++ ys
    → FromFirst ys q → with_part q.0 (more q.1 q.2) ≡ Some v → IsRangeOf xs v
first-tail more ih n xs ys v q e (inl s) h =
    let w = with_part-some q.0 (more q.1 q.2) v h in
    let t = ih Open q.2 w.0 (at-place more q.1 Open q.2 w.0 s.3 w.1) in
    let set : RangeSet = record { first = record { before = n; range = simples s.0 t.0; after = t.1 }; others = t.2 } in
    let text = simples-glue xs ys q.2 (print_simple s.0) (print_more t.0) (print_others t.2) n t.1 e s.4 t.5 in
    let value = value-glue v w.0 q.0 (part_of s.0) (parts_of_more t.0) (parts_of_others t.2) w.2 s.2 t.6 in
    (set, ((s.1, t.3), t.4), text, value)
first-tail more ih n xs ys v q e (inr s) h =
    let w = with_part-some q.0 (more q.1 q.2) v h in
    let t = ih Closed q.2 w.0 (at-place more q.1 Closed q.2 w.0 s.3 w.1) in
    let set : RangeSet = record { first = record { before = n; range = between s.0; after = t.0 }; others = t.1 } in
    let text = set-glue xs ys q.2 (print_range (between s.0)) (print_others t.1) n t.0 e s.4 t.3 in
    let value = value-glue v w.0 q.0 (hyphen (prefix_of s.0.low) (prefix_of s.0.high)) [] (parts_of_others t.1) w.2 s.2 t.4 in
    (set, (s.1, t.2), text, value)

first-step-tail : (more : Place → List ℕ → Option Ranges) → ReadsTails more → (n : ℕ) (xs ys : List ℕ) (v : Ranges) (o : PartRead) → xs ≡ spaces n ++ ys
    → first_at ys ≡ o → onward more (step_of o) ≡ Some v → IsRangeOf xs v
first-step-tail more ih n xs ys v None e r h = cc h
first-step-tail more ih n xs ys v (Some q) e r h = first-tail more ih n xs ys v q e (first-sound ys q r) h

onward-tail : (more : Place → List ℕ → Option Ranges) → ReadsTails more → ReadsTails (λ place xs. onward more (step place xs))
unfolding step before_at open_at
onward-tail more ih Closed xs v h = let s = strip-split xs in end-tail more ih s.0 xs (strip_spaces xs) v s.1 h
onward-tail more ih Before xs v h =
    let ys = strip_spaces xs in
    let s = strip-split xs in
    elim (cases_Bool (is_range_end ys)) [
      | inl here ↦ empty-tail more ih s.0 xs ys v s.1 (rw here at h)
      | inr other ↦ first-step-tail more ih s.0 xs ys v (first_at ys) s.1 refl (rw other at h)
    ]
onward-tail more ih Open xs v h =
    let ys = strip_spaces xs in
    let s = strip-split xs in
    elim (cases_Bool (length ys == length xs)) [
      | inl same ↦ open-of_closed xs v (end-tail more ih s.0 xs ys v s.1 (rw same at h))
      | inr less ↦
          let h2 = rw less at h in
          elim (cases_Bool (is_range_end ys)) [
            | inl here ↦ open-of_closed xs v (end-tail more ih s.0 xs ys v s.1 (rw here at h2))
            | inr other ↦ let t = stripped xs less in more-tail more ih t.0 xs ys v (more_at ys) t.1 refl (rw other at h2)
          ]
    ]

within-sound : (n : ℕ) → ReadsTails (reading_within n)
unfolding reading_within
within-sound zero place xs v h = cc h
within-sound (suc n) place xs v h = onward-tail (reading_within n) (within-sound n) place xs v h

pub reading-sound : (text : List ℕ) (v : Ranges) → reading Before text ≡ Some v → IsRangeOf text v
unfolding reading
reading-sound text v h = within-sound (suc (steps Before text)) Before text v h

-- ---- every range set is read

-- the value of what follows a range
abbrev after : List ℕ → Option Ranges
after xs = onward reading (end_at xs)

abbrev with_parts : List Part → Option Ranges → Option Ranges
with_parts [] o = o
with_parts (p ∷ ps) o = with_part p (with_parts ps o)

with_parts-some : (ps : List Part) (os : List (List Part)) → with_parts ps (Some ([], os)) ≡ Some (ps, os)
with_parts-some [] os = refl
with_parts-some (p ∷ ps) os = rw (with_parts-some ps os) refl

reading-closed : (n : ℕ) (xs : List ℕ) → is_range_end xs ≡ true → reading Closed (spaces n ++ xs) ≡ after xs
unfolding step
reading-closed n xs h =
    let e = strip-spaces n xs (end-no-space xs h) in
    reading-step Closed (spaces n ++ xs) ∙ rw e refl

open-end : (b : Bool) (xs : List ℕ) → is_range_end xs ≡ true → open_at b xs ≡ end_at xs
unfolding open_at
open-end true xs h = refl
open-end false xs h = rw h refl

reading-more : (more : List (ℕ × Simple)) (n : ℕ) (xs : List ℕ) → AreSimples more → is_range_end xs ≡ true
    → reading Open (print_more more ++ (spaces n ++ xs)) ≡ with_parts (parts_of_more more) (after xs)
unfolding step open_at
reading-more [] n xs i h =
    let e = strip-spaces n xs (end-no-space xs h) in
    reading-step Open (spaces n ++ xs) ∙ rw e (ap (onward reading) (open-end (length xs == length (spaces n ++ xs)) xs h))
reading-more ((gap, s) ∷ more) n xs i h =
    let rest = print_more more ++ (spaces n ++ xs) in
    let start = simple-start s rest i.0 in
    let text : print_more ((gap, s) ∷ more) ++ (spaces n ++ xs) ≡ spaces (gap + 1) ++ (print_simple s ++ rest) = simp append_assoc in
    let strip = strip-spaces (gap + 1) (print_simple s ++ rest) (simple-no-space (print_simple s ++ rest) start) in
    let longer = spaces-longer gap (print_simple s ++ rest) in
    let no_end = simple-no-end (print_simple s ++ rest) start in
    let read = more-simple s rest i.0 (more-ends more (spaces n ++ xs) (spaced-ends n xs h)) in
    rw text (reading-step Open (spaces (gap + 1) ++ (print_simple s ++ rest))
    ∙ rw (strip, longer, no_end, read) (ap (with_part (part_of s)) (reading-more more n xs i.1 h)))

abbrev ReadsRange : Range → Type 0
ReadsRange r = (before n : ℕ) (xs : List ℕ) → is_range_end xs ≡ true
    → reading Before (spaces before ++ (print_range r ++ (spaces n ++ xs))) ≡ with_parts (parts_of_range r) (after xs)

range-complete : (r : Range) → IsRange r → ReadsRange r
unfolding step before_at
range-complete empty i before n xs h =
    let text : spaces before ++ (spaces n ++ xs) ≡ spaces (before + n) ++ xs = sym (append_assoc (spaces before) (spaces n) xs) ∙ ap (λ (l : List ℕ). l ++ xs) (replicate-append-replicate before n 32) in
    let e = strip-spaces (before + n) xs (end-no-space xs h) in
    rw text (reading-step Before (spaces (before + n) ++ xs) ∙ rw (e, h) (ap (with_part nothing) (reading-closed 0 xs h)))
range-complete (between hy) i before n xs h =
    let rest = spaces n ++ xs in
    let start = hyphen-start hy rest i.0 in
    let strip = strip-spaces before (print_range (between hy) ++ rest) (simple-no-space (print_range (between hy) ++ rest) start) in
    let no_end = simple-no-end (print_range (between hy) ++ rest) start in
    let read = first-hyphen hy rest i.0 i.1 (spaced-ends n xs h) in
    reading-step Before (spaces before ++ (print_range (between hy) ++ rest))
    ∙ rw (strip, no_end, read) (ap (with_part (hyphen (prefix_of hy.low) (prefix_of hy.high))) (reading-closed n xs h))
range-complete (simples s more) i before n xs h =
    let rest = print_more more ++ (spaces n ++ xs) in
    let start = simple-start s rest i.0 in
    let strip = strip-spaces before (print_simple s ++ rest) (simple-no-space (print_simple s ++ rest) start) in
    let no_end = simple-no-end (print_simple s ++ rest) start in
    let read = first-simple s rest i.0 (more-ends more (spaces n ++ xs) (spaced-ends n xs h)) (more-no-hyphen more n xs i.1 h) in
    let text : print_range (simples s more) ++ (spaces n ++ xs) ≡ print_simple s ++ rest = append_assoc (print_simple s) (print_more more) (spaces n ++ xs) in
    rw text (reading-step Before (spaces before ++ (print_simple s ++ rest))
    ∙ rw (strip, no_end, read) (ap (with_part (part_of s)) (reading-more more n xs i.1 h)))

others-end : (os : List Spaced) → is_range_end (print_others os) ≡ true
others-end [] = refl
others-end (s ∷ os) = refl

spaced-complete : (s : Spaced) (os : List Spaced) → IsRange s.range → after (print_others os) ≡ Some ([], parts_of_others os)
    → reading Before (print_spaced s ++ print_others os) ≡ Some (parts_of_range s.range, parts_of_others os)
spaced-complete s os i e =
    let text : print_spaced s ++ print_others os ≡ spaces s.before ++ (print_range s.range ++ (spaces s.after ++ print_others os)) = simp append_assoc in
    rw text (range-complete s.range i s.before s.after (print_others os) (others-end os) ∙ rw e (with_parts-some (parts_of_range s.range) (parts_of_others os)))

others-complete : (os : List Spaced) → AreRanges os → after (print_others os) ≡ Some ([], parts_of_others os)
unfolding end_at
others-complete [] i = refl
others-complete (s ∷ os) i = ap with_range (spaced-complete s os i.0 (others-complete os i.1))

pub reading-complete : (t : RangeSet) → IsSet t → reading Before (print_set t) ≡ Some (parts_of t)
reading-complete t i = spaced-complete t.first t.others i.0 (others-complete t.others i.1)

-- ---- a text has one value

pub reads-value : (text : List ℕ) (v : Ranges) → IsRangeOf text v → reading Before text ≡ Some v
reads-value text v t = rw (t.2, t.3) (reading-complete t.0 t.1)

pub unambiguous : (text : List ℕ) → IsUnambiguous text
unambiguous text a b x y = some-value a b (sym (reads-value text a x) ∙ reads-value text b y)
