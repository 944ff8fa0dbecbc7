-- What values of a path are read as: what may be answered of what is written.
use Rattle.std.specs.Prelude.{◌≡◌, ◌≢◌, ◌⊎◌, true, false, Result, Ok, Err}
use Rattle.registry_names.specs.Texts.{Text}
use Rattle.registry_names.specs.Idents.{is_ident}
use Rattle.registry_names.specs.Names.{IsName}
use Rattle.registry_names.specs.Tags.{latest}
use Rattle.registry_names.specs.Versions.{IsVersion, IsVersionOf, VersionParts}
use Rattle.registry_names.specs.declared.refusal.Refusal.{Refusal}
use Rattle.registry_names.specs.declared.refusal.Refusal.TheVariants.{BadName, BadVersion}
use Rattle.registry_names.specs.declared.stop.Stop.{Stop}
use Rattle.registry_names.specs.declared.stop.Stop.TheVariants.{Refused}
use Rattle.registry_ranges.specs.Tags.{IsTag}
use Rattle.registry_routes.specs.Routes.{Values}
use Rattle.registry_routes.specs.Written.{StopsTag, StopsValue, text_of}
use Rattle.registry_rules.specs.declared.request.Asked.{Asked}
use Rattle.registry_rules.specs.declared.request.Asked.TheVariants.{Exact, Latest}

-- what may be answered where a value of this type is to be read
abbrev pub Reading : Type 0 → Type 1
Reading A = Result A Stop → Type 0

-- ---- one value

abbrev pub reads_ident : Text → Reading Text
reads_ident written (Ok name) = (name ≡ text_of written) × (is_ident name ≡ true)
reads_ident written (Err stop) = StopsValue written BadName (λ t. is_ident t ≡ false) stop

abbrev pub reads_name : Text → Reading Text
reads_name written (Ok name) = (name ≡ text_of written) × IsName (text_of written)
reads_name written (Err stop) = StopsValue written BadName (λ t. ¬ (IsName t)) stop

abbrev pub reads_version : Text → Reading VersionParts
reads_version written (Ok version) = IsVersionOf (text_of written) version
reads_version written (Err stop) = StopsValue written BadVersion (λ t. ¬ (IsVersion t)) stop

abbrev pub reads_tag : Text → Reading Text
reads_tag written (Ok tag) = (tag ≡ text_of written) × IsTag tag
reads_tag written (Err stop) = StopsTag written stop

-- `latest`, or a version
abbrev pub reads_asked : Text → Reading Asked
reads_asked written (Ok Latest) = text_of written ≡ latest
reads_asked written (Ok (Exact version)) = (text_of written ≢ latest) × IsVersionOf (text_of written) version
reads_asked written (Err stop) = StopsValue written BadVersion (λ t. (t ≢ latest) × ¬ (IsVersion t)) stop

-- ---- values in their order

-- the value, and nothing else
abbrev pub gives : {A : Type 0} → A → Reading A
gives a result = result ≡ Ok a

-- the refusal, and nothing else
abbrev pub refuses : {A : Type 0} → Refusal → Reading A
refuses refusal result = result ≡ Err (Refused refusal)

-- the first, and then what follows from its value, where it gives one; what stops first is returned
abbrev pub then : {A B : Type 0} → Reading A → (A → Reading B) → Reading B
then {A} first next (Ok b) = (a : A) × first (Ok a) × next a (Ok b)
then {A} first next (Err stop) = first (Err stop) ⊎ ((a : A) × first (Ok a) × next a (Err stop))

unfoldable pub one : {A : Type 0} → (Text → Reading A) → Values → Reading A
one a v = a v.first

unfoldable pub two : {A B : Type 0} → (Text → Reading A) → (Text → Reading B) → Values → Reading (A × B)
two a b v = then (a v.first) (λ x. then (b v.second) (λ y. gives (x, y)))

unfoldable pub three : {A B C : Type 0} → (Text → Reading A) → (Text → Reading B) → (Text → Reading C) → Values → Reading (A × B × C)
three a b c v = then (a v.first) (λ x. then (b v.second) (λ y. then (c v.third) (λ z. gives (x, y, z))))
