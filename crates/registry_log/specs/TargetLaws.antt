-- What is shown of targets, whatever a client sent.
use Rattle.std.specs.Prelude.{◌≡◌, ◌⊎◌, ◌≤◌, ℕ, ◌&&◌, ◌||◌, Bool, true, false, List, [], ◌∷◌, ◌++◌, codes, length, not}
use Rattle.registry_publish.specs.Tokens.{is_token}
use Rattle.registry_log.specs.Lines.{column}
use Rattle.registry_log.specs.Targets.{Letter, begins, cut, hides_all, hides_part, letters, meaning, separates, shown}

-- of a target no more bytes are put than the limit and what says that it is cut
abbrev pub TargetsAreShort : Type 0
TargetsAreShort = (target : List ℕ) → length (column (shown target)) ≤ 515

-- ---- tokens

-- something separates parts
abbrev pub has_separator : List ℕ → Bool
has_separator [] = false
has_separator (c ∷ cs) = separates c || has_separator cs

-- letters that are read as a token of npm's: a token in form, in which nothing separates parts
pub record IsNpmToken (ls : List Letter) : Type 0 where
  pub begin : begins (meaning ls) (codes "npm_") ≡ true
  pub form : is_token (meaning ls) ≡ true
  pub whole : has_separator (meaning ls) ≡ false

-- Where a part begins with a token, plain or escaped, the line is the same whatever token it is: so
-- nobody learns anything of it from there.
abbrev pub TokensAreHidden : Type 0
TokensAreHidden =
    (a b : List ℕ) (front s t back : List Letter) (l : Letter) → separates l.means ≡ true → IsNpmToken s → IsNpmToken t
    → letters a ≡ front ++ l ∷ (s ++ back) → letters b ≡ front ++ l ∷ (t ++ back) → shown a ≡ shown b

-- behind these npm revokes a token
abbrev pub IsRevoking : List ℕ → Type 0
IsRevoking w = (w ≡ codes "user/token/") ⊎ (w ≡ codes "tokens/token/")

-- whatever stands there, the line is the same
abbrev pub RevokedTokensAreHidden : Type 0
RevokedTokensAreHidden =
    (a b : List ℕ) (front w s t : List Letter) (l : Letter) → separates l.means ≡ true → IsRevoking (meaning w)
    → letters a ≡ front ++ l ∷ (w ++ s) → letters b ≡ front ++ l ∷ (w ++ t) → shown a ≡ shown b

-- no part begins with a token, and none is revoked
abbrev pub hides_none : List Letter → Bool
hides_none [] = true
hides_none (l ∷ ls) = not (separates l.means && (hides_all (meaning ls) || hides_part (meaning ls))) && hides_none ls

-- everything else is shown as it came
abbrev pub OthersAreShown : Type 0
OthersAreShown = (target : List ℕ) → hides_none (letters target) ≡ true → shown target ≡ cut target
