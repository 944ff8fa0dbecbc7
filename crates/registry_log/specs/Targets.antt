-- The target of a request in its line: how it is read, what of it is hidden, and where it is cut.
use Rattle.std.specs.Prelude.{ℕ, suc, ◌+◌, ◌*◌, ◌==◌, ◌||◌, ◌&&◌, nat_le, Bool, true, false, List, [], ◌∷◌, ◌++◌, codes, length, map, take, Option, Some, None, if◌then◌else◌}
use Rattle.std.specs.Char.{digit_value, is_digit}
use Rattle.std.specs.List.{list_any}
use Rattle.registry_names.specs.Tags.{is_alphanumeric}

-- ---- how a target is read

-- what is read as one byte, and how it is written: as that byte, or as an escape of it
pub record Letter : Type 0 where
  pub means : ℕ
  pub written : List ℕ

abbrev pub letter : ℕ → List ℕ → Letter
letter means written = record { means = means; written = written }

-- `%` and two hexadecimal digits
abbrev pub is_escape : ℕ → ℕ → ℕ → Bool
is_escape p high low = p == 37 && is_digit high 16 && is_digit low 16

-- each escape is one letter, and so is any other byte
abbrev pub letters : List ℕ → List Letter
letters [] = []
letters (b ∷ []) = letter b (b ∷ []) ∷ []
letters (b ∷ c ∷ []) = letter b (b ∷ []) ∷ letter c (c ∷ []) ∷ []
letters (b ∷ high ∷ low ∷ rest) =
    if is_escape b high low
    then letter (16 * digit_value high + digit_value low) (b ∷ high ∷ low ∷ []) ∷ letters rest
    else letter b (b ∷ []) ∷ letters (high ∷ low ∷ rest)

-- what letters mean
abbrev pub meaning : List Letter → List ℕ
meaning ls = map (λ (l : Letter). l.means) ls

-- ---- where a token may stand

-- `/`, `?`, `&`, `=` and `#` stand between the parts of a target
abbrev pub separates : ℕ → Bool
separates c = list_any (λ m. m == c) (codes "/?&=#")

-- a character of a token that separates no parts: A-Z a-z 0-9 - _ . ~ +
abbrev pub is_token_letter : ℕ → Bool
is_token_letter c = is_alphanumeric c || list_any (λ m. m == c) (codes "-_.~+")

abbrev pub begins : List ℕ → List ℕ → Bool
begins text [] = true
begins [] (c ∷ cs) = false
begins (b ∷ bs) (c ∷ cs) = b == c && begins bs cs

-- how many characters of a token come first
abbrev pub run : List ℕ → ℕ
run [] = 0
run (b ∷ bs) = if is_token_letter b then suc (run bs) else 0

-- a part begins with a token in form that begins as npm's tokens do
abbrev pub hides_part : List ℕ → Bool
hides_part text = begins text (codes "npm_") && nat_le 16 (run text)

-- npm puts a token of any form behind these where it revokes it
abbrev pub hides_all : List ℕ → Bool
hides_all text = begins text (codes "user/token/") || begins text (codes "tokens/token/")

-- ---- what is shown

abbrev pub mask : List ℕ
mask = codes "***"

-- What is shown of letters within a part that is hidden or not. Each part that begins with a token is
-- hidden up to its end, and so is all that follows where npm revokes a token.
abbrev pub masked_in : Bool → List Letter → List ℕ
masked_in hidden [] = []
masked_in hidden (l ∷ ls) =
    if separates l.means
    then l.written ++ (if hides_all (meaning ls) then mask else (if hides_part (meaning ls) then mask ++ masked_in true ls else masked_in false ls))
    else (if hidden then masked_in true ls else l.written ++ masked_in false ls)

-- what is shown of the letters behind one that separates
abbrev pub masked_behind : List Letter → List ℕ
masked_behind ls = if hides_all (meaning ls) then mask else (if hides_part (meaning ls) then mask ++ masked_in true ls else masked_in false ls)

-- what is still shown, unless all that follows is hidden
abbrev pub masked_after : Option Bool → List Letter → List ℕ
masked_after (Some hidden) ls = masked_in hidden ls
masked_after None ls = []

abbrev pub masked : List ℕ → List ℕ
masked target = masked_in false (letters target)

-- at most this many bytes of a target are shown
abbrev pub shown_limit : ℕ
shown_limit = 512

-- what follows a text that is cut
abbrev pub cut_end : List ℕ
cut_end = codes "..."

abbrev pub cut : List ℕ → List ℕ
cut text = if nat_le (length text) shown_limit then text else take shown_limit text ++ cut_end

-- the target as a line has it
abbrev pub shown : List ℕ → List ℕ
shown target = cut (masked target)
