-- The column of a target.
use Rattle.std.proofs.Common.{◌≡◌, ◌∙◌, ◌<◌, ◌≤◌, ◌+◌, ◌-◌, ◌*◌, ◌==◌, ℕ, suc, zero, Bool, true, false, List, [], ◌∷◌, ◌++◌, ap, append_assoc, arith, codes, drop, get_or, length, map, nat_le, refl, sym, take, if◌then◌else◌}
use Rattle.std.specs.Char.{digit_value, is_digit}
use Rattle.std.proofs.Math.Seq.{drop-append_seam, take-append_seam}
use Rattle.std.proofs.lemmas.Bool.{cond-false, cond-true, lt-leb}
use Rattle.std.proofs.lemmas.List.{length-map, map-append, take-map}
use Rattle.registry_log.specs.Lines.{column, seen_byte}
use Rattle.registry_log.specs.Targets.{Letter, begins, cut, hides_all, hides_part, is_escape, is_token_letter, letter, letters, mask, masked, masked_behind, masked_in, meaning, run, separates}

-- ---- letters

escape-read : (b high low : ℕ) (rest : List ℕ) → b ≡ 37 → is_digit high 16 ≡ true → is_digit low 16 ≡ true
    → letters (b ∷ high ∷ low ∷ rest) ≡ letter (16 * digit_value high + digit_value low) (b ∷ high ∷ low ∷ []) ∷ letters rest
escape-read b high low rest percent first second = rw (percent, first, second) refl

pub letters_at_escape : (t : List ℕ) (v : ℕ) → 3 ≤ length t → get_or t 0 0 ≡ 37 → is_digit (get_or t 1 0) 16 ≡ true → is_digit (get_or t 2 0) 16 ≡ true
    → v ≡ 16 * digit_value (get_or t 1 0) + digit_value (get_or t 2 0) → letters t ≡ letter v (take 3 t) ∷ letters (drop 3 t)
letters_at_escape [] v long percent first second is = absurd (omega arith)
letters_at_escape (b ∷ []) v long percent first second is = absurd (omega arith)
letters_at_escape (b ∷ c ∷ []) v long percent first second is = absurd (omega arith)
letters_at_escape (b ∷ high ∷ low ∷ rest) v long percent first second is = rw is (escape-read b high low rest percent first second)

-- ---- words and runs

pub begins_none : (t : List ℕ) (c : ℕ) (cs : List ℕ) → letters t ≡ [] → begins (meaning (letters t)) (c ∷ cs) ≡ false
begins_none t c cs is = ap (λ (ls : List Letter). begins (meaning ls) (c ∷ cs)) is

pub begins_other : (t s w : List ℕ) (m c : ℕ) (cs : List ℕ) → letters t ≡ letter m w ∷ letters s → (m == c) ≡ false → begins (meaning (letters t)) (c ∷ cs) ≡ false
begins_other t s w m c cs is other = ap (λ (ls : List Letter). begins (meaning ls) (c ∷ cs)) is ∙ rw other refl

pub begins_more : (t s w : List ℕ) (m c : ℕ) (cs : List ℕ) → letters t ≡ letter m w ∷ letters s → (m == c) ≡ true → begins (meaning (letters t)) (c ∷ cs) ≡ begins (meaning (letters s)) cs
begins_more t s w m c cs is same = ap (λ (ls : List Letter). begins (meaning ls) (c ∷ cs)) is ∙ rw same refl

pub run_none : (t : List ℕ) → letters t ≡ [] → run (meaning (letters t)) ≡ 0
run_none t is = ap (λ (ls : List Letter). run (meaning ls)) is

pub run_other : (t s w : List ℕ) (m : ℕ) → letters t ≡ letter m w ∷ letters s → is_token_letter m ≡ false → run (meaning (letters t)) ≡ 0
run_other t s w m is other = ap (λ (ls : List Letter). run (meaning ls)) is ∙ cond-false _ _ _ other

pub run_more : (t s w : List ℕ) (m : ℕ) → letters t ≡ letter m w ∷ letters s → is_token_letter m ≡ true → run (meaning (letters t)) ≡ suc (run (meaning (letters s)))
run_more t s w m is same = ap (λ (ls : List Letter). run (meaning ls)) is ∙ cond-true _ _ _ same

-- ---- what is put for a letter

-- two texts that are put one after the other
put-both : (line line2 x y z : List ℕ) → line2 ≡ line ++ map seen_byte x → z ≡ x ++ y → line2 ++ map seen_byte y ≡ line ++ map seen_byte z
put-both line line2 x y z put is =
    ap (λ (l : List ℕ). l ++ map seen_byte y) put ∙ append_assoc line (map seen_byte x) (map seen_byte y)
    ∙ ap (λ (l : List ℕ). line ++ l) (sym (map-append seen_byte x y)) ∙ ap (λ (l : List ℕ). line ++ map seen_byte l) (sym is)

pub mask_all : (line line2 : List ℕ) (ls : List Letter) → line2 ≡ line ++ codes "***" → hides_all (meaning ls) ≡ true
    → line2 ++ map seen_byte [] ≡ line ++ map seen_byte (masked_behind ls)
mask_all line line2 ls put all = put-both line line2 mask [] (masked_behind ls) put (cond-true _ _ _ all)

pub mask_part : (line line2 : List ℕ) (ls : List Letter) → line2 ≡ line ++ codes "***" → hides_all (meaning ls) ≡ false → hides_part (meaning ls) ≡ true
    → line2 ++ map seen_byte (masked_in true ls) ≡ line ++ map seen_byte (masked_behind ls)
mask_part line line2 ls put all part = put-both line line2 mask (masked_in true ls) (masked_behind ls) put (cond-false _ _ _ all ∙ cond-true _ _ _ part)

pub mask_none : (line : List ℕ) (ls : List Letter) → hides_all (meaning ls) ≡ false → hides_part (meaning ls) ≡ false
    → line ++ map seen_byte (masked_in false ls) ≡ line ++ map seen_byte (masked_behind ls)
mask_none line ls all part = ap (λ (l : List ℕ). line ++ map seen_byte l) (sym (cond-false _ _ _ all ∙ cond-false _ _ _ part))

pub put_separator : (line line2 line3 w x : List ℕ) (m : ℕ) (hidden : Bool) (ls : List Letter) → separates m ≡ true → line2 ≡ line ++ map seen_byte w
    → line3 ++ map seen_byte x ≡ line2 ++ map seen_byte (masked_behind ls) → line3 ++ map seen_byte x ≡ line ++ map seen_byte (masked_in hidden (letter m w ∷ ls))
put_separator line line2 line3 w x m hidden ls is put behind =
    behind ∙ put-both line line2 w (masked_behind ls) (masked_in hidden (letter m w ∷ ls)) put (cond-true _ _ _ is)

pub put_hidden : (line w : List ℕ) (m : ℕ) (hidden : Bool) (ls : List Letter) → separates m ≡ false → hidden ≡ true
    → line ++ map seen_byte (masked_in true ls) ≡ line ++ map seen_byte (masked_in hidden (letter m w ∷ ls))
put_hidden line w m hidden ls none is = ap (λ (l : List ℕ). line ++ map seen_byte l) (sym (cond-false _ _ _ none ∙ cond-true _ _ _ is))

pub put_seen : (line line2 w : List ℕ) (m : ℕ) (hidden : Bool) (ls : List Letter) → separates m ≡ false → hidden ≡ false → line2 ≡ line ++ map seen_byte w
    → line2 ++ map seen_byte (masked_in false ls) ≡ line ++ map seen_byte (masked_in hidden (letter m w ∷ ls))
put_seen line line2 w m hidden ls none is put =
    put-both line line2 w (masked_in false ls) (masked_in hidden (letter m w ∷ ls)) put (cond-false _ _ _ none ∙ cond-false _ _ _ is)

-- ---- columns

pub nothing_shown : (t : List ℕ) → length t ≡ 0 → column (masked t) ≡ codes "-"
nothing_shown [] is = refl
nothing_shown (b ∷ bs) is = absurd (omega arith)

either_shown : (s : Bool) (b : ℕ) (w x y : List ℕ) → column (if s then (b ∷ w) ++ x else (b ∷ w) ++ y) ≡ map seen_byte (if s then (b ∷ w) ++ x else (b ∷ w) ++ y)
either_shown true b w x y = refl
either_shown false b w x y = refl

letter_shown : (m b : ℕ) (w : List ℕ) (ls : List Letter) → column (masked_in false (letter m (b ∷ w) ∷ ls)) ≡ map seen_byte (masked_in false (letter m (b ∷ w) ∷ ls))
letter_shown m b w ls = either_shown (separates m) b w (masked_behind ls) (masked_in false ls)

first_shown : (e : Bool) (v b high low : ℕ) (rest others : List Letter)
    → column (masked_in false (if e then letter v (b ∷ high ∷ low ∷ []) ∷ rest else letter b (b ∷ []) ∷ others))
    ≡ map seen_byte (masked_in false (if e then letter v (b ∷ high ∷ low ∷ []) ∷ rest else letter b (b ∷ []) ∷ others))
first_shown true v b high low rest others = letter_shown v b (high ∷ low ∷ []) rest
first_shown false v b high low rest others = letter_shown b b [] others

pub something_shown : (t : List ℕ) → 0 < length t → column (masked t) ≡ map seen_byte (masked t)
something_shown [] some = absurd (omega arith)
something_shown (b ∷ []) some = letter_shown b b [] []
something_shown (b ∷ c ∷ []) some = letter_shown b b [] (letter c (c ∷ []) ∷ [])
something_shown (b ∷ high ∷ low ∷ rest) some =
    first_shown (is_escape b high low) (16 * digit_value high + digit_value low) b high low (letters rest) (letters (high ∷ low ∷ rest))

-- ---- a cut

cut_first : (xs : List ℕ) → 512 < length xs → take 512 xs ++ codes "..." ≡ cut xs
cut_first xs long = sym (cond-false _ _ _ (lt-leb (length xs) 512 long))

pub cut_long : (xs : List ℕ) (n : ℕ) → n ≤ length xs → 512 < length xs - n → take (n + 512) xs ++ codes "..." ≡ take n xs ++ cut (drop n xs)
cut_long xs zero within long = cut_first xs (omega (arith, long))
cut_long [] (suc n) within long = absurd (omega (arith, within))
cut_long (x ∷ xs) (suc n) within long =
    let count : suc n + 512 ≡ suc (n + 512) = omega arith in
    ap (λ (k : ℕ). take k (x ∷ xs) ++ codes "...") count
    ∙ ap (λ (l : List ℕ). x ∷ l) (cut_long xs n (omega (arith, within)) (omega (arith, long)))

-- a column is as long as what it shows
cut_map : (m : List ℕ) (short : Bool) → nat_le (length m) 512 ≡ short → cut (map seen_byte m) ≡ map seen_byte (cut m)
cut_map m true is = cond-true _ _ _ (ap (λ (n : ℕ). nat_le n 512) (length-map m seen_byte) ∙ is) ∙ ap (map seen_byte) (sym (cond-true _ _ _ is))
cut_map m false is =
    cond-false _ _ _ (ap (λ (n : ℕ). nat_le n 512) (length-map m seen_byte) ∙ is)
    ∙ ap (λ (l : List ℕ). l ++ codes "...") (take-map seen_byte 512 m) ∙ sym (map-append seen_byte (take 512 m) (codes "..."))
    ∙ ap (map seen_byte) (sym (cond-false _ _ _ is))

-- a cut of what shows something shows something
either_column : (short : Bool) (b : ℕ) (x y : List ℕ) → column (if short then b ∷ x else b ∷ y) ≡ map seen_byte (if short then b ∷ x else b ∷ y)
either_column true b x y = refl
either_column false b x y = refl

cut_shown : (m : List ℕ) → cut (column m) ≡ column (cut m)
cut_shown [] = refl
cut_shown (b ∷ bs) =
    cut_map (b ∷ bs) (nat_le (length (b ∷ bs)) 512) refl
    ∙ sym (either_column (nat_le (length (b ∷ bs)) 512) b bs (take 511 bs ++ codes "..."))

-- what was put behind a line and cut there is the column of what is shown
pub cut_column : (line line2 line3 t : List ℕ) (start : ℕ) → start ≡ length line → line2 ≡ line ++ column (masked t) → line3 ≡ take start line2 ++ cut (drop start line2)
    → line3 ≡ line ++ column (cut (masked t))
cut_column line line2 line3 t start at put is =
    is ∙ ap (λ (n : ℕ). take n line2 ++ cut (drop n line2)) at
    ∙ ap (λ (l : List ℕ). take (length line) l ++ cut (drop (length line) l)) put
    ∙ ap (λ (l : List ℕ). l ++ cut (drop (length line) (line ++ column (masked t)))) (take-append_seam line (column (masked t)))
    ∙ ap (λ (l : List ℕ). line ++ cut l) (drop-append_seam line (column (masked t)))
    ∙ ap (λ (l : List ℕ). line ++ l) (cut_shown (masked t))
