-- What a service is told of a command that was answered.
use Rattle.std.specs.Prelude.{◌≡◌, ◌≤◌, ◌&&◌, ◌||◌, nat_eq, nat_le, nat_lt, not, true, Bool, List, [], ◌∷◌, codes, length, if◌then◌else◌}
use Rattle.std.specs.List.{starts_with}
use Rattle.clap.specs.Walk.{Text}
use Rattle.registry_cli.specs.declared.meaning.Who.{Who}
use Rattle.registry_cli.specs.declared.meaning.Who.TheVariants.{Operator, User, Anonymous}

-- shorter than any token
abbrev pub is_short : Text → Bool
is_short word = nat_lt (length word) 16

-- no longer than a user's name, and no token of npm's
abbrev pub may_be_shown : Text → Bool
may_be_shown name = nat_le (length name) 64 && (is_short name || not (starts_with nat_eq name (codes "npm_")))

-- who asks: whoever runs the registry, where no user is named
abbrev pub caller_of : Who → Text
caller_of Operator = codes "operator"
caller_of Anonymous = codes "operator"
caller_of (User name) = if may_be_shown name then name else []

-- the subcommand is about tokens, such as `token-add`
abbrev pub is_about_tokens : Text → Bool
is_about_tokens name = starts_with nat_eq name (codes "token")

-- The words of a line that may be seen: all, except of a subcommand about tokens. Of such a one it is
-- the name, and the word after it where that is too short for a token, as a user's name is.
abbrev pub seen_words : List Text → List Text
seen_words [] = []
seen_words (name ∷ []) = name ∷ []
seen_words (name ∷ first ∷ rest) = if is_about_tokens name then (if is_short first then name ∷ first ∷ [] else name ∷ []) else name ∷ first ∷ rest

-- ---- laws

-- whatever token a subcommand about tokens is given behind a user, a service is told the same
abbrev pub LastTokensAreUnseen : Type 0
LastTokensAreUnseen = (name user token other : Text) → is_about_tokens name ≡ true → seen_words (name ∷ user ∷ token ∷ []) ≡ seen_words (name ∷ user ∷ other ∷ [])

-- and so it is where the token comes first
abbrev pub FirstTokensAreUnseen : Type 0
FirstTokensAreUnseen = (name token other : Text) (rest : List Text) → is_about_tokens name ≡ true → 16 ≤ length token → 16 ≤ length other → seen_words (name ∷ token ∷ rest) ≡ seen_words (name ∷ other ∷ rest)
