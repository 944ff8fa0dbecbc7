-- What the value of an `authorization` field says (RFC 6750, section 2.1).
use Rattle.std.specs.Prelude.{◌≡◌, ◌==◌, [], ◌∷◌, ◌++◌, codes, map, Option, Some, None, if◌then◌else◌, IsUtf8}
use Rattle.std.specs.Char.{to_ascii_lowercase}
use Rattle.registry_names.specs.Texts.{Text}

-- the text without the spaces at its front
abbrev pub behind_spaces : Text → Text
behind_spaces [] = []
behind_spaces (b ∷ bs) = if b == 32 then behind_spaces bs else b ∷ bs

-- the value is the scheme `Bearer`, in letters of either case, a space, and after all spaces the
-- token, which is UTF-8
pub record IsBearer (value token : Text) : Type 0 where
  pub scheme : Text
  pub rest : Text
  pub is_scheme : map to_ascii_lowercase scheme ≡ codes "bearer"
  pub whole : value ≡ scheme ++ 32 ∷ rest
  pub behind : token ≡ behind_spaces rest
  pub is_text : IsUtf8 token

-- the value isn't of this form
abbrev pub IsNoBearer : Text → Type 0
IsNoBearer value = (token : Text) → ¬ (IsBearer value token)

-- what follows the space at the front, for a private clause
abbrev pub after_space : Text → Option Text
after_space [] = None
after_space (b ∷ bs) = if b == 32 then Some bs else None
