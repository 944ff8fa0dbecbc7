-- How the value of `if-none-match` is read, byte by byte.
use Rattle.std.specs.Prelude.{◌≡◌, ◌<◌, ◌==◌, ◌||◌, not, ℕ, Bool, true, false, length, List, [], ◌∷◌, ◌++◌, codes, bytes_eq, if◌then◌else◌, Option, Some, None}
use Rattle.registry_wire.specs.EntityTags.{comma, is_blank, is_etagc, quote}
use Rattle.registry_wire.specs.declared.wanted.FieldValue.{FieldValue}
use Rattle.registry_wire.specs.declared.wanted.FieldValue.TheVariants.{Absent, Once, Repeated}

-- where in a list of tags
pub data Spot : Type 0 where
  -- before a tag, or where none is needed
  before : Spot
  -- behind the `W` of a weak one, and behind its slash
  marked : Spot
  slashed : Spot
  -- within an opaque text, of which these bytes have come
  within : List ℕ → Spot
  -- behind a tag
  behind : Spot

-- what is left of a value is the rest of a list of tags, and one of all of them is this one
abbrev pub reads : List ℕ → Bool → Spot → List ℕ → Bool
reads tag found before [] = found
reads tag found before (b ∷ bs) =
    if is_blank b || (b == comma) then reads tag found before bs else (
    if b == quote then reads tag found (within []) bs else (
    if b == 87 then reads tag found marked bs else false))
reads tag found marked [] = false
reads tag found marked (b ∷ bs) = if b == 47 then reads tag found slashed bs else false
reads tag found slashed [] = false
reads tag found slashed (b ∷ bs) = if b == quote then reads tag found (within []) bs else false
reads tag found (within opaque) [] = false
reads tag found (within opaque) (b ∷ bs) =
    if b == quote then reads tag (found || bytes_eq opaque tag) behind bs else (
    if is_etagc b then reads tag found (within (opaque ++ b ∷ [])) bs else false)
reads tag found behind [] = found
reads tag found behind (b ∷ bs) =
    if is_blank b then reads tag found behind bs else (
    if b == comma then reads tag found before bs else false)

-- ---- on the way

-- what is left may be replaced by this
abbrev pub ReadAlike : Spot → List ℕ → List ℕ → Type 0
ReadAlike spot text rest = (tag : List ℕ) (found : Bool) → reads tag found spot rest ≡ reads tag found spot text

-- what is left is no rest of a list
abbrev pub IsNoList : Spot → List ℕ → Type 0
IsNoList spot text = (tag : List ℕ) (found : Bool) → reads tag found spot text ≡ false

abbrev pub is_empty : ℕ → Bool
is_empty b = is_blank b || (b == comma)

-- no empty element is before the first
abbrev pub begins_solid : List ℕ → Bool
begins_solid [] = true
begins_solid (b ∷ bs) = not (is_empty b)

-- what follows this byte, where it is the first
abbrev pub after_byte : ℕ → List ℕ → Option (List ℕ)
after_byte byte [] = None
after_byte byte (b ∷ bs) = if b == byte then Some bs else None

-- a tag with this opaque text is before the rest
abbrev pub BeginsWithTag : List ℕ → List ℕ → List ℕ → Type 0
BeginsWithTag text opaque rest = (length rest < length text) × ((tag : List ℕ) (found : Bool) → reads tag found before text ≡ reads tag (found || bytes_eq opaque tag) behind rest)

-- the same, where it isn't weak or its mark was read
abbrev pub BeginsWithOpaque : List ℕ → List ℕ → List ℕ → Type 0
BeginsWithOpaque text opaque rest = (length rest < length text) × ((tag : List ℕ) (found : Bool) → reads tag found slashed text ≡ reads tag (found || bytes_eq opaque tag) behind rest)

-- ---- the value

-- the value names this tag
unfoldable pub names : List ℕ → List ℕ → Bool
names value tag = bytes_eq value (codes "*") || reads tag false before value

abbrev pub names_tag : FieldValue → List ℕ → Bool
names_tag Absent tag = false
names_tag (Once value) tag = names value tag
names_tag Repeated tag = false

-- there is a tag, and it is named
abbrev pub names_some : FieldValue → Option (List ℕ) → Bool
names_some field None = false
names_some field (Some tag) = names_tag field tag
