-- What is known of what a body says.
use Rattle.std.proofs.Common.{◌≡◌, ℕ, Bool, true, false, ◌&&◌, not, List, Some, None, refl, IsUtf8, is_some, codes}
use Rattle.serde_json.specs.Data.{Data}
use Rattle.serde_json.specs.Find.{get}
use Rattle.serde_json.specs.Read.{read}
use Rattle.serde_json.specs.Written.{has_float}
use Rattle.registry_publish.specs.Members.{has_text}
use Rattle.registry_publish.specs.Body.{BodyParts, IsBody, IsBodyOf, is_manifest}

and_right : (a b : Bool) → (a && b) ≡ true → b ≡ true
and_right true b h = h
and_right false b h = cc

pub not_false : (b : Bool) → not b ≡ false → b ≡ true
not_false true h = refl
not_false false h = cc

pub not_true : (b : Bool) → not b ≡ true → b ≡ false
not_true true h = cc
not_true false h = refl

pub no_float : (name version : List ℕ) (m : Data) → is_manifest name version m ≡ true → has_float m ≡ false
unfolding is_manifest
no_float name version m h = not_true _ (and_right _ _ h)

-- bytes that are read to a value that is no body are none of a body
pub no_body_of : (b : List ℕ) (d : Data) → read b ≡ Some d → ((p : BodyParts) → ¬ (IsBody d p)) → (p : BodyParts) → ¬ (IsBodyOf b p)
no_body_of b d is refuted p (e, utf8, other, body) = let same : e ≡ d = cc in refuted p (rw same at body)

-- and so are those that aren't read
pub no_body_of_none : (b : List ℕ) → (IsUtf8 b → read b ≡ None) → (p : BodyParts) → ¬ (IsBodyOf b p)
no_body_of_none b none p (e, utf8, is, body) = let n : read b ≡ None = none utf8 in cc

pub manifest_is : (name version : List ℕ) (m : Data) (f : Bool) → has_text (codes "name") name m ≡ true → has_text (codes "version") version m ≡ true
    → is_some (get (codes "deprecated") m) ≡ false → f ≡ has_float m → not f ≡ is_manifest name version m
unfolding is_manifest
manifest_is name version m f n v d h = rw (n, v, d, h) refl

third_fails : (a b c : Bool) → false ≡ (a && b && false && c)
third_fails true true c = refl
third_fails true false c = refl
third_fails false b c = refl

second_fails : (a c d : Bool) → false ≡ (a && false && c && d)
second_fails true c d = refl
second_fails false c d = refl

pub no_manifest_deprecated : (name version : List ℕ) (m : Data) → is_some (get (codes "deprecated") m) ≡ true → false ≡ is_manifest name version m
unfolding is_manifest
no_manifest_deprecated name version m h = rw h (third_fails (has_text (codes "name") name m) (has_text (codes "version") version m) (not (has_float m)))

pub no_manifest_version : (name version : List ℕ) (m : Data) → has_text (codes "version") version m ≡ false → false ≡ is_manifest name version m
unfolding is_manifest
no_manifest_version name version m h = rw h (second_fails (has_text (codes "name") name m) (not (is_some (get (codes "deprecated") m))) (not (has_float m)))

pub no_manifest_name : (name version : List ℕ) (m : Data) → has_text (codes "name") name m ≡ false → false ≡ is_manifest name version m
unfolding is_manifest
no_manifest_name name version m h = rw h refl
