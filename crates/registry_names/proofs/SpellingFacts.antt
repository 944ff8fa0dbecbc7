-- Values that are spelled are read back.
use Rattle.std.proofs.Common.{◌≡◌, Bool, true, false, List, [], ◌∷◌, Option, Some, cond, refl, ◌∙◌, ap, subst}
use Rattle.std.proofs.lemmas.Option.{none-some, same_Some}
use Rattle.std.specs.Str.{bytes_eq}
use Rattle.std.specs.Cmp.Lexicographic.{bytes_decides}
use Rattle.registry_names.specs.Texts.{Text}
use Rattle.registry_names.specs.Spellings.{spelled, status_named, status_text, IsReadBack}
use Rattle.registry_names.specs.declared.status.Status.{Status}
use Rattle.registry_names.specs.declared.status.Status.TheVariants.{Public, Restricted}

-- what holds of a first value, where a test holds, and of another, holds of the chosen one
chosen : {T : Type 0} (P : T → Type 0) (test : Bool) (first : T) (other : Option T) (value : T) → (test ≡ true → P first) → (other ≡ Some value → P value) → cond test (Some first) other ≡ Some value → P value
chosen P true first other value here there e = subst P (same_Some first value e) (here refl)
chosen P false first other value here there e = there e

-- what is found is spelled so
pub spelled_only : {T : Type 0} (spelling : T → Text) (values : List T) (text : Text) (value : T) → spelled spelling values text ≡ Some value → text ≡ spelling value
spelled_only spelling [] text value e = absurd (none-some value e)
spelled_only spelling (first ∷ others) text value e =
    chosen (λ v. text ≡ spelling v) (bytes_eq text (spelling first)) first (spelled spelling others text) value
    (bytes_decides text (spelling first)).0 (spelled_only spelling others text value) e

-- what reads each value from its spelling, and nothing that isn't spelled so, reads back
pub read_back : {T : Type 0} (spelling : T → Text) (values : List T) → ((value : T) → spelled spelling values (spelling value) ≡ Some value) → IsReadBack spelling (spelled spelling values)
read_back spelling values back text value = (spelled_only spelling values text value, λ e. ap (spelled spelling values) e ∙ back value)

status_back : (status : Status) → status_named (status_text status) ≡ Some status
status_back Public = refl
status_back Restricted = refl

pub statuses_back : IsReadBack status_text status_named
statuses_back = read_back status_text (Public ∷ Restricted ∷ []) status_back
