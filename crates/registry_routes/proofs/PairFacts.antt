-- Two segments at the prefix of a path.
use Rattle.std.proofs.Common.{◌≡◌, ℕ, ◌+◌, ◌-◌, ◌==◌, ◌++◌, List, [], ◌∷◌, length, Some, None, Option, refl, sym, ap, ◌∙◌, inl, inr, arith, append_assoc, length-append}
use Rattle.std.specs.Prelude.{drop, take, take_while, option_map, option_and_then}
use Rattle.std.proofs.Math.Seq.{take-append_seam, drop-append_seam, take-length}
use Rattle.std.proofs.lemmas.Bool.{cases_Bool, eqb-true}
use Rattle.registry_routes.specs.Routes.{joined}
use Rattle.registry_routes.specs.Readings.{is_within, segment_len, some_segment, segment_at, pair_at, with_next}
use Rattle.registry_routes.proofs.SegmentFacts.{within-slash, within-other}

front-whole : (text : List ℕ) → text ≡ take_while is_within text ++ drop (segment_len text) text
front-whole [] = refl
front-whole (b ∷ text) = elim (cases_Bool (b == 47)) [
  | inl hit ↦ rw (within-slash b text hit) refl
  | inr miss ↦ rw (within-other b text miss) (ap (λ (l : List ℕ). b ∷ l) (front-whole text))
]

some-whole : (front rest s r : List ℕ) → some_segment front rest ≡ Some (s, r) → front ++ rest ≡ s ++ r
some-whole [] rest s r e = cc e
some-whole (b ∷ front) rest s r e =
    let same : ◌≡◌ {A = List ℕ × List ℕ} (b ∷ front, rest) (s, r) = cc e in
    let first : b ∷ front ≡ s = ap (λ (p : List ℕ × List ℕ). p.0) same in
    let second : rest ≡ r = ap (λ (p : List ℕ × List ℕ). p.1) same in
    rw (← first, ← second) refl

-- a path begins with a slash and the segment at its front
pub segment-whole : (path s rest : List ℕ) → segment_at path ≡ Some (s, rest) → path ≡ 47 ∷ (s ++ rest)
segment-whole [] s rest e = cc e
segment-whole (b ∷ text) s rest e = elim (cases_Bool (b == 47)) [
  | inl hit ↦
      let some : some_segment (take_while is_within text) (drop (segment_len text) text) ≡ Some (s, rest) = rw hit at e in
      let whole : text ≡ s ++ rest = front-whole text ∙ some-whole _ _ s rest some in
      rw (eqb-true b 47 hit, whole) refl
  | inr miss ↦
      let none : ◌≡◌ {A = Option (List ℕ × List ℕ)} None (Some (s, rest)) = rw miss at e in
      cc none
]

-- the two segments with the slash between them are the prefix of what follows the first slash
pub pair-front : (b : ℕ) (text s t rest rest2 : List ℕ) (n : ℕ) → segment_at (b ∷ text) ≡ Some (s, rest) → segment_at rest ≡ Some (t, rest2)
    → n ≡ length s + 1 + length t → (take n text ≡ joined s t) × (drop n text ≡ rest2)
pair-front b text s t rest rest2 n e f len =
    let one : b ∷ text ≡ 47 ∷ (s ++ rest) = segment-whole (b ∷ text) s rest e in
    let two : rest ≡ 47 ∷ (t ++ rest2) = segment-whole rest t rest2 f in
    let tail : text ≡ s ++ rest = cc one in
    let whole : text ≡ joined s t ++ rest2 = tail ∙ rw two (sym (append_assoc s (47 ∷ t) rest2)) in
    let same : n ≡ length (joined s t) = omega (arith, length-append s (47 ∷ t)) in
    rw (same, whole) (take-append_seam (joined s t) rest2, drop-append_seam (joined s t) rest2)

tail-whole : (b : ℕ) (text : List ℕ) → take (length (b ∷ text) - 1) text ≡ text
tail-whole b text = let same : length (b ∷ text) - 1 ≡ length text = omega arith in rw same (take-length text)

-- what follows the first byte of a path
abbrev pub tail : List ℕ → List ℕ
tail path = take (length path - 1) (drop 1 path)

pub pair-view : (path s rest t rest2 front back : List ℕ) → segment_at path ≡ Some (s, rest) → segment_at rest ≡ Some (t, rest2)
    → front ≡ take (length s + 1 + length t) (tail path) → back ≡ drop (length s + 1 + length t) (tail path) → Some (front, back) ≡ pair_at path
pair-view [] s rest t rest2 front back e f whole behind = cc e
pair-view (b ∷ text) s rest t rest2 front back e f whole behind =
    let cut = pair-front b text s t rest rest2 (length s + 1 + length t) e f refl in
    let made : pair_at (b ∷ text) ≡ Some (joined s t, rest2) = ap (option_and_then with_next) e ∙ ap (option_map (λ (u : List ℕ × List ℕ). (joined s u.0, u.1))) f in
    let first : front ≡ joined s t = whole ∙ ap (take (length s + 1 + length t)) (tail-whole b text) ∙ cut.0 in
    let second : back ≡ rest2 = behind ∙ ap (drop (length s + 1 + length t)) (tail-whole b text) ∙ cut.1 in
    rw (made, first, second) refl
