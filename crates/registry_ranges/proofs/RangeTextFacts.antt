-- A text is a range set exactly where its reading has a value.
use Rattle.std.proofs.Common.{◌≡◌, ◌<◌, List, ℕ, Some, None, Option, Bool, true, false, refl, sym, ◌∙◌}
use Rattle.std.specs.Prelude.{IsTrue, ◌↔◌}
use Rattle.registry_ranges.specs.declared.reader.Place.{Place}
use Rattle.registry_ranges.specs.declared.reader.Place.TheVariants.{Before}
use Rattle.registry_ranges.specs.Bounds.{IsPart}
use Rattle.registry_ranges.specs.Grammar.{IsRangeText}
use Rattle.registry_ranges.specs.Values.{Part, Ranges, parts_of}
use Rattle.registry_ranges.specs.Steps.{part, or, end, wrong, reading, with_part, with_range, step, steps}
use Rattle.registry_ranges.proofs.ReadingFacts.{reading-sound, reading-complete, reading-step, step-shorter, step-valid}

-- whether there is a value
abbrev pub is_read : Option Ranges → Bool
is_read None = false
is_read (Some v) = true

pub range-read : (text : List ℕ) → IsRangeText text → is_read (reading Before text) ≡ true
range-read text t = let e : reading Before text ≡ Some (parts_of t.0) = rw t.2 (reading-complete t.0 t.1) in rw e refl

read-range : (text : List ℕ) (o : Option Ranges) → reading Before text ≡ o → is_read o ≡ true → IsRangeText text
read-range text None e h = cc h
read-range text (Some v) e h = let t = reading-sound text v e in (t.0, t.1, t.2)

pub range-is : (text : List ℕ) (b : Bool) → b ≡ is_read (reading Before text) → IsTrue b ↔ IsRangeText text
range-is text b e = (λ h. read-range text (reading Before text) refl (sym e ∙ h), λ t. e ∙ range-read text t)

-- what each step says of the rest

is_read-part : (p : Part) (o : Option Ranges) → is_read (with_part p o) ≡ is_read o
is_read-part p None = refl
is_read-part p (Some v) = refl

is_read-range : (o : Option Ranges) → is_read (with_range o) ≡ is_read o
is_read-range None = refl
is_read-range (Some v) = refl

pub read-part : (place then : Place) (xs rest : List ℕ) (p : Part) → part p then rest ≡ step place xs → is_read (reading place xs) ≡ is_read (reading then rest)
read-part place then xs rest p e = rw (reading-step place xs, ← e) (is_read-part p (reading then rest))

pub read-or : (place : Place) (xs rest : List ℕ) → or rest ≡ step place xs → is_read (reading place xs) ≡ is_read (reading Before rest)
read-or place xs rest e = rw (reading-step place xs, ← e) (is_read-range (reading Before rest))

pub read-end : (place : Place) (xs : List ℕ) → end ≡ step place xs → is_read (reading place xs) ≡ true
read-end place xs e = rw (reading-step place xs, ← e) refl

pub read-wrong : (place : Place) (xs : List ℕ) → wrong ≡ step place xs → is_read (reading place xs) ≡ false
read-wrong place xs e = rw (reading-step place xs, ← e) refl

pub part-shorter : (place then : Place) (xs rest : List ℕ) (p : Part) → part p then rest ≡ step place xs → steps then rest < steps place xs
part-shorter place then xs rest p e = rw (← e) at (step-shorter place xs)

pub or-shorter : (place : Place) (xs rest : List ℕ) → or rest ≡ step place xs → steps Before rest < steps place xs
or-shorter place xs rest e = rw (← e) at (step-shorter place xs)

-- the same where the reader begins anew
pub fresh-shorter : (place then : Place) (xs rest next : List ℕ) → or rest ≡ step place xs → then ≡ Before → next ≡ rest → steps then next < steps place xs
fresh-shorter place then xs rest next e p r = rw (p, r) (or-shorter place xs rest e)

pub part-valid : (place then : Place) (xs rest : List ℕ) (p : Part) → part p then rest ≡ step place xs → IsPart p
part-valid place then xs rest p e = rw (← e) at (step-valid place xs)

pub ruleset range_texts = (range-is, read-part, read-or, read-end, read-wrong, part-shorter, or-shorter)
