-- The parts of an element of a list of media ranges.
use Rattle.std.proofs.Common.{◌≡◌, ◌==◌, ◌+◌, ◌-◌, ◌<◌, ◌≤◌, ◌&&◌, ◌∷◌, ◌∙◌, [], ℕ, Bool, true, false, cond, not, List, length, take, drop, refl, sym, ap, arith}
use Rattle.std.specs.List.{list_any, take_while}
use Rattle.std.proofs.lemmas.Bool.{false≢true}
use Rattle.std.proofs.lemmas.List.{take_rest}
use Rattle.std.proofs.lemmas.List.Sums.{take_while-cons}
use Rattle.registry_wire.specs.MediaRanges.{accepted_by, is_abbreviated, is_accepted, is_of_range, is_refusal, parts, semicolon}

-- the parts behind the first
abbrev pub parts_behind : List ℕ → List (List ℕ)
parts_behind [] = []
parts_behind (b ∷ bs) = parts bs

-- how many bytes are before the parameters
abbrev pub range_size : List ℕ → ℕ
range_size element = length (take_while is_of_range element)

parts-step : (u : Bool) (b : ℕ) (bs run : List ℕ) → run ≡ cond (not u) (b ∷ take_while is_of_range bs) [] → (b == semicolon) ≡ u
    → parts bs ≡ take (range_size bs) bs ∷ parts_behind (drop (range_size bs) bs) → parts (b ∷ bs) ≡ take (length run) (b ∷ bs) ∷ parts_behind (drop (length run) (b ∷ bs))
parts-step true b bs run e same later = rw (e, same) refl
parts-step false b bs run e same later = rw (e, same, later) refl

-- the first part is what comes before the first semicolon
pub parts-first : (element : List ℕ) → parts element ≡ take (range_size element) element ∷ parts_behind (drop (range_size element) element)
parts-first [] = refl
parts-first (b ∷ bs) = parts-step (b == semicolon) b bs (take_while is_of_range (b ∷ bs)) (take_while-cons is_of_range b bs) refl (parts-first bs)

-- an element is accepted by what comes before the first semicolon, and what comes behind it
pub accepted-so : (element range rest : List ℕ) (n : ℕ) → n ≡ range_size element → range ≡ take n element → rest ≡ drop n element → is_accepted element ≡ accepted_by (range ∷ parts_behind rest)
accepted-so element range rest n e f g =
    ap accepted_by (parts-first element ∙ ap (λ (m : ℕ). take m element ∷ parts_behind (drop m element)) (sym e))
    ∙ ap (λ (l : List ℕ). accepted_by (l ∷ parts_behind (drop n element))) (sym f)
    ∙ ap (λ (l : List ℕ). accepted_by (range ∷ parts_behind l)) (sym g)

and-true : (a : Bool) → a && true ≡ a
and-true true = refl
and-true false = refl

and-then : (a b : Bool) → a ≡ true → a && b ≡ b
and-then true b e = refl
and-then false b e = absurd (false≢true e)

and-else : (a b : Bool) → a ≡ false → a && b ≡ false
and-else true b e = absurd (false≢true (sym e))
and-else false b e = refl

-- with no parameters
pub accepted-alone : (element range rest : List ℕ) (n : ℕ) (a : Bool) → n ≡ range_size element → range ≡ take n element → rest ≡ drop n element → length rest < 1 → a ≡ is_abbreviated range → a ≡ is_accepted element
accepted-alone element range [] n a e f g few is = is ∙ sym (accepted-so element range [] n e f g ∙ and-true (is_abbreviated range))
accepted-alone element range (b ∷ bs) n a e f g few is = absurd (omega (arith, few))

-- with some
behind : (rest : List ℕ) → 1 ≤ length rest → parts_behind rest ≡ parts (take (length rest - 1) (drop 1 rest))
behind [] low = absurd (omega (arith, low))
behind (b ∷ bs) low = ap parts (sym (take_rest (b ∷ bs) 1))

module _ (element range rest : List ℕ) (n : ℕ) (e : n ≡ range_size element) (f : range ≡ take n element) (g : rest ≡ drop n element) (low : 1 ≤ length rest) where
  refused : Bool
  refused = list_any is_refusal (parts (take (length rest - 1) (drop 1 rest)))

  accepted-more : is_accepted element ≡ (is_abbreviated range && not refused)
  unfolding refused
  accepted-more = accepted-so element range rest n e f g ∙ ap (λ (ps : List (List ℕ)). is_abbreviated range && not (list_any is_refusal ps)) (behind rest low)

  pub accepted-then : (a r : Bool) → a ≡ is_abbreviated range → a ≡ true → r ≡ list_any is_refusal (parts (take (length rest - 1) (drop 1 rest))) → not r ≡ is_accepted element
  unfolding refused
  accepted-then a r is holds same = ap not same ∙ sym (accepted-more ∙ and-then (is_abbreviated range) (not refused) (sym is ∙ holds))

  pub accepted-else : (a : Bool) → a ≡ is_abbreviated range → a ≡ false → a ≡ is_accepted element
  accepted-else a is lacks = lacks ∙ sym (accepted-more ∙ and-else (is_abbreviated range) (not refused) (sym is ∙ lacks))
