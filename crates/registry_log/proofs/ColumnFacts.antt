-- What a reader finds in a line.
use Rattle.std.proofs.Common.{◌≡◌, ◌∙◌, ◌+◌, ℕ, Bool, true, false, List, [], ◌∷◌, ◌++◌, ap, append_assoc, arith, codes, decimal, map, nat_eq, refl, sym, if◌then◌else◌}
use Rattle.std.proofs.lemmas.List.Sums.{sum_by-append}
use Rattle.std.specs.Char.{is_ascii_graphic}
use Rattle.std.specs.Prelude.{cond}
use Rattle.registry_packument.specs.Calendar.{utc_text}
use Rattle.registry_log.specs.Laws.{beginning, columns_in, columns_of, ends_column}
use Rattle.registry_log.specs.Lines.{cell, column, kind_text, last_cell, line_of, seen_byte, time_text}
use Rattle.registry_log.specs.Targets.{shown}
use Rattle.registry_log.specs.Waitings.{lines_in}
use Rattle.registry_log.specs.declared.entry.Entry.{Entry}

-- ---- a byte that is seen ends no column

graphic-ends_none : (b : ℕ) → is_ascii_graphic b ≡ true → ends_column b ≡ false
graphic-ends_none b is = grind arith

by_case : (is : Bool) (b : ℕ) → (is ≡ true → ends_column b ≡ false) → ends_column (if is then b else 63) ≡ false
by_case true b f = f refl
by_case false b f = refl

seen-ends_none : (b : ℕ) → ends_column (seen_byte b) ≡ false
seen-ends_none b = by_case (is_ascii_graphic b) b (graphic-ends_none b)

-- ---- columns

seen-read : (bs : List ℕ) (end : ℕ) (rest : List ℕ) → ends_column end ≡ true → columns_in (map seen_byte bs ++ end ∷ rest) ≡ map seen_byte bs ∷ columns_in rest
seen-read [] end rest is = (λ i. if is i then [] ∷ columns_in rest else beginning end (columns_in rest))
seen-read (b ∷ bs) end rest is =
    (λ i. if seen-ends_none b i then [] ∷ columns_in (map seen_byte bs ++ end ∷ rest) else beginning (seen_byte b) (seen-read bs end rest is i))

column-read : (text : List ℕ) (end : ℕ) (rest : List ℕ) → ends_column end ≡ true → columns_in (column text ++ end ∷ rest) ≡ column text ∷ columns_in rest
column-read [] end rest is = ap (beginning 45) (seen-read [] end rest is)
column-read (b ∷ bs) end rest is = seen-read (b ∷ bs) end rest is

-- these columns are found in a text, whatever is behind it
abbrev Reads : List ℕ → List (List ℕ) → Type 0
Reads text cs = (rest : List ℕ) → columns_in (text ++ rest) ≡ cs ++ columns_in rest

cell-read : (text : List ℕ) → Reads (cell text) (column text ∷ [])
cell-read text rest = ap columns_in (append_assoc (column text) (codes " ") rest) ∙ column-read text 32 rest refl

and_cell : (front : List ℕ) (cs : List (List ℕ)) (text : List ℕ) → Reads front cs → Reads (front ++ cell text) (cs ++ column text ∷ [])
and_cell front cs text read rest =
    ap columns_in (append_assoc front (cell text) rest) ∙ read (cell text ++ rest) ∙ ap (λ (ds : List (List ℕ)). cs ++ ds) (cell-read text rest)
    ∙ sym (append_assoc cs (column text ∷ []) (columns_in rest))

last-read : (text : List ℕ) → columns_in (last_cell text) ≡ column text ∷ [] ∷ []
last-read text = column-read text 10 [] refl

cells-read : (a b c d f g : List ℕ) → Reads (cell a ++ cell b ++ cell c ++ cell d ++ cell f ++ cell g) (column a ∷ column b ∷ column c ∷ column d ∷ column f ∷ column g ∷ [])
cells-read a b c d f g =
    (and_cell (cell a ++ cell b ++ cell c ++ cell d ++ cell f) (column a ∷ column b ∷ column c ∷ column d ∷ column f ∷ []) g
    (and_cell (cell a ++ cell b ++ cell c ++ cell d) (column a ∷ column b ∷ column c ∷ column d ∷ []) f
    (and_cell (cell a ++ cell b ++ cell c) (column a ∷ column b ∷ column c ∷ []) d
    (and_cell (cell a ++ cell b) (column a ∷ column b ∷ []) c
    (and_cell (cell a) (column a ∷ []) b
    (cell-read a))))))

pub line-columns : (e : Entry) → columns_in (line_of e) ≡ columns_of e ++ [] ∷ []
line-columns e =
    cells-read (utc_text e.at) e.user.now (kind_text e.kind) (shown e.target.now) (decimal e.status) (decimal e.length) (last_cell (time_text e.micros))
    ∙ ap (λ (ds : List (List ℕ)). (column (utc_text e.at) ∷ column e.user.now ∷ column (kind_text e.kind) ∷ column (shown e.target.now) ∷ column (decimal e.status) ∷ column (decimal e.length) ∷ []) ++ ds)
    (last-read (time_text e.micros))

-- ---- newlines

and_lines : (xs ys : List ℕ) → lines_in (xs ++ ys) ≡ lines_in xs + lines_in ys
and_lines xs ys = sum_by-append (λ (b : ℕ). cond (nat_eq b 10) 1 0) xs ys

graphic-is_no_newline : (b : ℕ) → is_ascii_graphic b ≡ true → nat_eq b 10 ≡ false
graphic-is_no_newline b is = grind arith

newline_case : (is : Bool) (b : ℕ) → (is ≡ true → nat_eq b 10 ≡ false) → nat_eq (if is then b else 63) 10 ≡ false
newline_case true b f = f refl
newline_case false b f = refl

one_seen : (b : ℕ) → lines_in (seen_byte b ∷ []) ≡ 0
one_seen b = (λ i. 0 + cond (newline_case (is_ascii_graphic b) b (graphic-is_no_newline b) i) 1 0)

seen_lines : (bs : List ℕ) → lines_in (map seen_byte bs) ≡ 0
seen_lines [] = refl
seen_lines (b ∷ bs) = and_lines (seen_byte b ∷ []) (map seen_byte bs) ∙ omega (arith, one_seen b, seen_lines bs)

column-lines : (text : List ℕ) → lines_in (column text) ≡ 0
column-lines [] = refl
column-lines (b ∷ bs) = seen_lines (b ∷ bs)

cell-lines : (front text : List ℕ) → lines_in front ≡ 0 → lines_in (front ++ cell text) ≡ 0
cell-lines front text none =
    let whole : lines_in (front ++ cell text) ≡ lines_in front + lines_in (cell text) = and_lines front (cell text) in
    let last : lines_in (cell text) ≡ lines_in (column text) + lines_in (codes " ") = and_lines (column text) (codes " ") in
    let zero : lines_in (codes " ") ≡ 0 = refl in
    omega (arith, whole, last, zero, none, column-lines text)

cells-lines : (a b c d f g : List ℕ) → lines_in (cell a ++ cell b ++ cell c ++ cell d ++ cell f ++ cell g) ≡ 0
cells-lines a b c d f g =
    (cell-lines (cell a ++ cell b ++ cell c ++ cell d ++ cell f) g
    (cell-lines (cell a ++ cell b ++ cell c ++ cell d) f
    (cell-lines (cell a ++ cell b ++ cell c) d
    (cell-lines (cell a ++ cell b) c
    (cell-lines (cell a) b
    (cell-lines [] a refl))))))

last-lines : (front text : List ℕ) → lines_in front ≡ 0 → lines_in (front ++ last_cell text) ≡ 1
last-lines front text none =
    let whole : lines_in (front ++ last_cell text) ≡ lines_in front + lines_in (last_cell text) = and_lines front (last_cell text) in
    let last : lines_in (last_cell text) ≡ lines_in (column text) + lines_in (codes "\n") = and_lines (column text) (codes "\n") in
    let one : lines_in (codes "\n") ≡ 1 = refl in
    omega (arith, whole, last, one, none, column-lines text)

pub line-single : (e : Entry) → lines_in (line_of e) ≡ 1
line-single e =
    last-lines (cell (utc_text e.at) ++ cell e.user.now ++ cell (kind_text e.kind) ++ cell (shown e.target.now) ++ cell (decimal e.status) ++ cell (decimal e.length)) (time_text e.micros)
    (cells-lines (utc_text e.at) e.user.now (kind_text e.kind) (shown e.target.now) (decimal e.status) (decimal e.length))
