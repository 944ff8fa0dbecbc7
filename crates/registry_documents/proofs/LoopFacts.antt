-- Lists whose lengths differ, and versions among others.
use Rattle.std.proofs.Common.{◌≡◌, ◌≢◌, suc, Bool, true, false, ◌&&◌, ◌||◌, List, [], ◌∷◌, length, bytes_eq, refl, sym, ap, ◌∙◌, subst, true≢false}
use Rattle.std.proofs.Math.Bool.{and-false}
use Rattle.std.proofs.lemmas.Slice.Eq.{bytes_eq-Decides}
use Rattle.serde_json.specs.Data.{Members, no_members, member}
use Rattle.serde_json.specs.View.{view, items_view}
use Rattle.serde_json.specs.declared.value.Value.{Value}
use Rattle.registry_names.specs.Texts.{Text}
use Rattle.registry_names.specs.Versions.{IsVersion}
use Rattle.registry_names.specs.declared.stop.Fault.{Fault}
use Rattle.registry_names.specs.declared.stop.Fault.TheVariants.{Memory, Database}
use Rattle.registry_documents.specs.Tags.{AreVersions, FaultsReading, is_version_of}
use Rattle.registry_documents.specs.Values.{items_same, same}

-- lists of different lengths aren't the same
pub items_apart : (xs ys : List Value) → length xs ≢ length ys → false ≡ items_same (items_view xs) (items_view ys)
items_apart [] [] h = absurd (h refl)
items_apart [] (y ∷ ys) h = refl
items_apart (x ∷ xs) [] h = refl
items_apart (x ∷ xs) (y ∷ ys) h = sym (and-false (same (view x) (view y))) ∙ ap (λ b. same (view x) (view y) && b) (items_apart xs ys (λ e. h (ap suc e)))

-- a fault of what is less is one of what is more
pub faults_weaker : (P Q : Type 0) → (Q → P) → (fault : Fault) → FaultsReading P fault → FaultsReading Q fault
faults_weaker P Q g Memory h = tt
faults_weaker P Q g Database h = λ q. h (g q)

among : (u m : Text) (more : Bool) (b : Bool) → bytes_eq u m ≡ b → (b || more) ≡ true → IsVersion u → (more ≡ true → IsVersion m) → IsVersion m
among u m more true is h v later = subst IsVersion ((bytes_eq-Decides u m).0 is) v
among u m more false is h v later = later h

-- a text that is one of the versions is a version
pub version_among : (vs : Members) (m : Text) → is_version_of vs m ≡ true → AreVersions vs → IsVersion m
version_among no_members m h all = absurd (true≢false (sym h))
version_among (member u d vs) m h all = among u m (is_version_of vs m) (bytes_eq u m) refl h all.0 (λ k. version_among vs m k all.1)
