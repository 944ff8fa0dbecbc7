-- The values of texts that are made of partial versions, operators, spaces, hyphens and bars.
use Rattle.std.proofs.Common.{◌≡◌, ℕ, ◌+◌, List, [], ◌∷◌, ◌++◌, true, refl, sym, ap, ◌∙◌, append_assoc, append-nil}
use Rattle.std.proofs.lemmas.List.{replicate-append-replicate}
use Rattle.std.specs.Prelude.{codes, ◌↔◌}
use Rattle.registry_names.specs.Versions.{VersionParts}
use Rattle.registry_ranges.specs.declared.simple.Operator.{Operator}
use Rattle.registry_ranges.specs.declared.simple.Operator.TheVariants.{LessEq, GreaterEq}
use Rattle.registry_ranges.specs.Comparators.{Allows, comparators_of, set_allows}
use Rattle.registry_ranges.specs.Grammar.{spaces, print_operator, Simple, print_simple, AreSimples, print_more, Hyphen, Range, empty, simples, between, IsRange, print_range, Spaced, print_spaced, AreRanges, print_others, RangeSet, print_set}
use Rattle.registry_ranges.specs.Laws.{Says, hyphened, AreSimplesText}
use Rattle.registry_ranges.specs.Prefixes.{Prefix, prefix_of}
use Rattle.registry_ranges.specs.Values.{Part, simple, hyphen, nothing, Ranges, IsRangeOf, part_of, parts_of_range, parts_of_more, parts_of_others}
use Rattle.registry_ranges.proofs.ReadingFacts.{unambiguous}

-- a text allows what its one value does
pub value-allows : (text : List ℕ) (r : Ranges) (v : VersionParts) → IsRangeOf text r → Allows text v ↔ (set_allows v (comparators_of r) ≡ true)
value-allows text r v value = (λ a. rw (unambiguous text r a.0 value a.1) a.2, λ e. (r, value, e))

-- ---- one range

range-value : (range : Range) → IsRange range → IsRangeOf (print_range range) (parts_of_range range, [])
range-value range valid =
    (record { first = record { before = 0; range = range; after = 0 }; others = [] }, (valid, tt), simp append-nil, refl)

pub empty-value : IsRangeOf [] (nothing ∷ [], [])
empty-value = range-value empty tt

pub simple-value : (o : Operator) (text : List ℕ) (prefix : Prefix) → Says text prefix → IsRangeOf (print_operator o ++ text) (simple o prefix ∷ [], [])
simple-value o text prefix s =
    let tree : Simple = record { operator = o; gap = 0; v = s.0; partial = s.1 } in
    let value = range-value (simples tree []) ((s.2, λ _. refl), tt) in
    let spelling : print_operator o ++ text ≡ print_range (simples tree []) = rw s.3 (simp append-nil) in
    (value.0, value.1, spelling ∙ value.2, rw s.4 value.3)

pub hyphen-value : (low : List ℕ) (l : Prefix) (high : List ℕ) (h : Prefix) → Says low l → Says high h → IsRangeOf (hyphened low high) (hyphen l h ∷ [], [])
hyphen-value low l high h s t =
    let tree : Hyphen = record { low_v = s.0; low = s.1; before = 0; after = 0; high_v = t.0; high = t.1 } in
    let value = range-value (between tree) (s.2, t.2) in
    let spelling : hyphened low high ≡ print_range (between tree) = rw (s.3, t.3) (simp append_assoc) in
    (value.0, value.1, spelling ∙ value.2, rw (s.4, t.4) value.3)

-- ---- simples with spaces between

-- the parts of simples
abbrev pub parts_in : {text : List ℕ} → AreSimplesText text → List Part
parts_in s = part_of s.0 ∷ parts_of_more s.1

pub simples-value : (text : List ℕ) (s : AreSimplesText text) → IsRangeOf text (parts_in {text = text} s, [])
simples-value text s = let value = range-value (simples s.0 s.1) s.2 in (value.0, value.1, s.3 ∙ value.2, value.3)

more-append : (more rest : List (ℕ × Simple)) (s : Simple) → print_more (more ++ (0, s) ∷ rest) ≡ print_more more ++ 32 ∷ (print_simple s ++ print_more rest)
more-append [] rest s = refl
more-append ((gap, t) ∷ more) rest s = rw (more-append more rest s) (simp append_assoc)

valid-append : (more rest : List (ℕ × Simple)) (s : Simple) → AreSimples more → AreSimples ((0, s) ∷ rest) → AreSimples (more ++ (0, s) ∷ rest)
valid-append [] rest s v w = w
valid-append ((gap, t) ∷ more) rest s v w = (v.0, valid-append more rest s v.1 w)

more-parts : (more rest : List (ℕ × Simple)) (s : Simple) → parts_of_more (more ++ (0, s) ∷ rest) ≡ parts_of_more more ++ part_of s ∷ parts_of_more rest
more-parts [] rest s = refl
more-parts ((gap, t) ∷ more) rest s = ap (λ ps. part_of t ∷ ps) (more-parts more rest s)

pub spaced-value : (x y : List ℕ) (s : AreSimplesText x) (t : AreSimplesText y) → IsRangeOf (x ++ (codes " " ++ y)) (parts_in {text = x} s ++ parts_in {text = y} t, [])
spaced-value x y s t =
    let all = simples s.0 (s.1 ++ (0, t.0) ∷ t.1) in
    let value = range-value all (s.2.0, valid-append s.1 t.1 t.0 s.2.1 t.2) in
    let spelling : x ++ (codes " " ++ y) ≡ print_range all = rw (s.3, t.3, more-append s.1 t.1 t.0) (simp append_assoc) in
    (value.0, value.1, spelling ∙ value.2, rw (← more-parts s.1 t.1 t.0) value.3)

simple-simples : (o : Operator) (text : List ℕ) (prefix : Prefix) → Says text prefix → AreSimplesText (print_operator o ++ text)
simple-simples o text prefix s = (record { operator = o; gap = 0; v = s.0; partial = s.1 }, [], ((s.2, λ _. refl), tt), rw s.3 (simp append-nil))

pub between-value : (low : List ℕ) (l : Prefix) (high : List ℕ) (h : Prefix) → Says low l → Says high h
    → IsRangeOf (codes ">=" ++ (low ++ (codes " <=" ++ high))) (simple GreaterEq l ∷ simple LessEq h ∷ [], [])
unfolding simple-simples
between-value low l high h s t =
    let value = spaced-value (codes ">=" ++ low) (codes "<=" ++ high) (simple-simples GreaterEq low l s) (simple-simples LessEq high h t) in
    let parts : Prefix → Prefix → Ranges = λ p q. (simple GreaterEq p ∷ simple LessEq q ∷ [], []) in
    (value.0, value.1, value.2, ap (λ p. parts p h) s.4 ∙ ap (parts (prefix_of s.1)) t.4 ∙ value.3)

-- ---- ranges with bars between

others-append : (xs ys : List Spaced) (s : Spaced) → print_others (xs ++ s ∷ ys) ≡ print_others xs ++ 124 ∷ 124 ∷ (print_spaced s ++ print_others ys)
others-append [] ys s = refl
others-append (x ∷ xs) ys s = rw (others-append xs ys s) (simp append_assoc)

ranges-append : (xs ys : List Spaced) (s : Spaced) → AreRanges xs → AreRanges (s ∷ ys) → AreRanges (xs ++ s ∷ ys)
ranges-append [] ys s v w = w
ranges-append (x ∷ xs) ys s v w = (v.0, ranges-append xs ys s v.1 w)

others-parts : (xs ys : List Spaced) (s : Spaced) → parts_of_others (xs ++ s ∷ ys) ≡ parts_of_others xs ++ parts_of_range s.range ∷ parts_of_others ys
others-parts [] ys s = refl
others-parts (x ∷ xs) ys s = ap (λ ps. parts_of_range x.range ∷ ps) (others-parts xs ys s)

pub bars-value : (x y : List ℕ) (p q : Ranges) → IsRangeOf x p → IsRangeOf y q → IsRangeOf (x ++ (codes "||" ++ y)) (p.0, p.1 ++ q.0 ∷ q.1)
bars-value x y p q s t =
    let tree : RangeSet = record { first = s.0.first; others = s.0.others ++ t.0.first ∷ t.0.others } in
    let spelling : x ++ (codes "||" ++ y) ≡ print_set tree = rw (s.2, t.2, others-append s.0.others t.0.others t.0.first) (simp append_assoc) in
    (tree, (s.1.0, ranges-append s.0.others t.0.others t.0.first s.1.1 t.1), spelling, rw (s.3, t.3, others-parts s.0.others t.0.others t.0.first) refl)

-- ---- spaces at the ends

spaces-append : (m n : ℕ) (xs : List ℕ) → spaces (m + n) ++ xs ≡ spaces m ++ (spaces n ++ xs)
spaces-append m n xs = rw (← replicate-append-replicate {A = ℕ} m n 32) (append_assoc (spaces m) (spaces n) xs)

spaced-more : (s : Spaced) (n : ℕ) → print_spaced s ++ spaces n ≡ print_spaced (record s { after = s.after + n })
spaced-more s n = rw (← replicate-append-replicate {A = ℕ} s.after n 32) (simp append_assoc)

-- ranges whose last one has more spaces after it
with_spaces : Spaced → List Spaced → ℕ → Spaced × List Spaced
with_spaces s [] n = (record s { after = s.after + n }, [])
with_spaces s (x ∷ xs) n = (s, (with_spaces x xs n).0 ∷ (with_spaces x xs n).1)

with-spaces-print : (s : Spaced) (xs : List Spaced) (n : ℕ)
    → (print_spaced s ++ print_others xs) ++ spaces n ≡ print_spaced (with_spaces s xs n).0 ++ print_others (with_spaces s xs n).1
unfolding with_spaces
with-spaces-print s [] n = rw (append-nil (print_spaced s)) (spaced-more s n ∙ sym (append-nil (print_spaced (record s { after = s.after + n }))))
with-spaces-print s (x ∷ xs) n = rw (← with-spaces-print x xs n) (simp append_assoc)

with-spaces-valid : (s : Spaced) (xs : List Spaced) (n : ℕ) → IsRange s.range → AreRanges xs → IsRange (with_spaces s xs n).0.range × AreRanges (with_spaces s xs n).1
unfolding with_spaces
with-spaces-valid s [] n v w = (v, tt)
with-spaces-valid s (x ∷ xs) n v w = (v, with-spaces-valid x xs n w.0 w.1)

with-spaces-parts : (s : Spaced) (xs : List Spaced) (n : ℕ)
    → (parts_of_range (with_spaces s xs n).0.range ≡ parts_of_range s.range) × (parts_of_others (with_spaces s xs n).1 ≡ parts_of_others xs)
unfolding with_spaces
with-spaces-parts s [] n = (refl, refl)
with-spaces-parts s (x ∷ xs) n = let more = with-spaces-parts x xs n in (refl, rw (more.0, more.1) refl)

pub padded-value : (before after : ℕ) (x : List ℕ) (r : Ranges) → IsRangeOf x r → IsRangeOf (spaces before ++ (x ++ spaces after)) r
padded-value before after x r s =
    let last = with_spaces s.0.first s.0.others after in
    let tree : RangeSet = record { first = record last.0 { before = before + last.0.before }; others = last.1 } in
    let print = with-spaces-print s.0.first s.0.others after in
    let spelling : spaces before ++ (x ++ spaces after) ≡ print_set tree = rw (s.2, print, spaces-append) (simp append_assoc) in
    let parts = with-spaces-parts s.0.first s.0.others after in
    (tree, with-spaces-valid s.0.first s.0.others after s.1.0 s.1.1, spelling, s.3 ∙ sym (rw (parts.0, parts.1) refl))
