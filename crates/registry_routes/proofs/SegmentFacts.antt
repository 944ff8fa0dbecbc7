-- The segments of a path, one after the other.
use Rattle.std.proofs.Common.{◌≡◌, ℕ, ◌==◌, List, [], ◌∷◌, Some, None, Option, Bool, true, false, refl, inl, inr}
use Rattle.std.specs.Prelude.{◌&&◌, drop, take_while, option_map, option_and_then, if◌then◌else◌}
use Rattle.std.specs.List.{list_all, slice_split}
use Rattle.std.proofs.lemmas.Bool.{cases_Bool}
use Rattle.std.proofs.lemmas.List.Sums.{take_while-cons}
use Rattle.registry_routes.specs.Paths.{is_slash, has_bytes, segments_of}
use Rattle.registry_routes.specs.Readings.{is_within, segment_len, some_segment, segment_at}

-- the parts after a first one, of which this follows
abbrev pub parts_after : List ℕ → List (List ℕ)
parts_after [] = []
parts_after (b ∷ rest) = slice_split is_slash rest

-- what follows a segment: nothing, or a slash
abbrev pub is_behind : List ℕ → Bool
is_behind [] = true
is_behind (b ∷ rest) = is_slash b

pub within-slash : (b : ℕ) (text : List ℕ) → is_slash b ≡ true → take_while is_within (b ∷ text) ≡ []
within-slash b text e = rw (take_while-cons is_within b text, e) refl

pub within-other : (b : ℕ) (text : List ℕ) → is_slash b ≡ false → take_while is_within (b ∷ text) ≡ b ∷ take_while is_within text
within-other b text e = rw (take_while-cons is_within b text, e) refl

-- the first part, and the others
split-front : (text : List ℕ) → slice_split is_slash text ≡ take_while is_within text ∷ parts_after (drop (segment_len text) text)
split-front [] = refl
split-front (b ∷ text) = elim (cases_Bool (b == 47)) [
  | inl hit ↦ rw (within-slash b text hit, hit) refl
  | inr miss ↦ rw (within-other b text miss, miss, split-front text) refl
]

behind-front : (text : List ℕ) → is_behind (drop (segment_len text) text) ≡ true
behind-front [] = refl
behind-front (b ∷ text) = elim (cases_Bool (b == 47)) [
  | inl hit ↦ rw (within-slash b text hit) hit
  | inr miss ↦ rw (within-other b text miss) (behind-front text)
]

-- a segment, in front of those of what follows it
abbrev pub with_segments : List ℕ × List ℕ → Option (List (List ℕ))
with_segments s = option_map (λ (ss : List (List ℕ)). s.0 ∷ ss) (segments_of s.1)

pub no-segments : segments_of [] ≡ Some []
unfolding segments_of
no-segments = refl

slash-segments : (b : ℕ) (rest : List ℕ) → is_slash b ≡ true → segments_of (b ∷ rest) ≡ (if list_all has_bytes (slice_split is_slash rest) then Some (slice_split is_slash rest) else None)
unfolding segments_of
slash-segments b rest e = rw e refl

other-segments : (b : ℕ) (text : List ℕ) → is_slash b ≡ false → segments_of (b ∷ text) ≡ None
unfolding segments_of
other-segments b text e = rw (e, split-front text) refl

parted : (s rest : List ℕ) → is_behind rest ≡ true
    → (if has_bytes s && list_all has_bytes (parts_after rest) then Some (s ∷ parts_after rest) else None) ≡ option_and_then with_segments (some_segment s rest)
parted [] rest e = refl
parted (b ∷ s) [] e = rw no-segments refl
parted (b ∷ s) (c ∷ rest) e = rw (slash-segments c rest e) (elim (cases_Bool (list_all has_bytes (slice_split is_slash rest))) [
  | inl y ↦ rw y refl
  | inr n ↦ rw n refl
])

-- a path that isn't empty has the segment at its front, and those of what follows it
pub more-segments : (b : ℕ) (text : List ℕ) → segments_of (b ∷ text) ≡ option_and_then with_segments (segment_at (b ∷ text))
more-segments b text = elim (cases_Bool (b == 47)) [
  | inl hit ↦
      let whole = slash-segments b text hit in
      let front = parted (take_while is_within text) (drop (segment_len text) text) (behind-front text) in
      rw (whole, hit) (rw (split-front text) front)
  | inr miss ↦ rw (other-segments b text miss, miss) refl
]
