-- How the values of a short list are spelled, and how a status is.
use Rattle.std.specs.Prelude.{◌≡◌, ◌↔◌, List, [], ◌∷◌, codes, Option, Some}
use Rattle.std.specs.List.{find}
use Rattle.std.specs.Str.{bytes_eq}
use Rattle.registry_names.specs.Texts.{Text}
use Rattle.registry_names.specs.declared.status.Status.{Status}
use Rattle.registry_names.specs.declared.status.Status.TheVariants.{Public, Restricted}

-- the first of these values that is spelled so
abbrev pub spelled : {T : Type 0} → (T → Text) → List T → Text → Option T
spelled spelling values text = find (λ value. bytes_eq text (spelling value)) values

-- what is printed is read back: a value is read from its spelling, and from no other text
abbrev pub IsReadBack : {T : Type 0} → (T → Text) → (Text → Option T) → Type 0
IsReadBack {T} spelling reading = (text : Text) (value : T) → (reading text ≡ Some value) ↔ (text ≡ spelling value)

abbrev pub status_text : Status → Text
status_text Public = codes "public"
status_text Restricted = codes "restricted"

-- the status that is spelled so, if one is
abbrev pub status_named : Text → Option Status
status_named = spelled status_text (Public ∷ Restricted ∷ [])
