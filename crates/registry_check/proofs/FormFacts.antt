-- A text is in form exactly where its test is true.
use Rattle.std.proofs.Common.{◌≡◌, ◌∙◌, suc, ℤ, pos, negsuc, ◌≤◌, Bool, true, false, true≢false, Option, Some, None, Result, Ok, Err, [], ◌∷◌, ◌++◌, length, drop, nat_le, is_some, refl, sym, ap, subst, if◌then◌else◌}
use Rattle.std.specs.Cmp.{both_ways}
use Rattle.std.proofs.lemmas.Bool.{and_from, and_parts, le-leb, leb-true}
use Rattle.semver.specs.Parse.{Parts, version_parts}
use Rattle.semver.specs.declared.error.Error.{Error}
use Rattle.serde_json.specs.Data.{Data}
use Rattle.serde_json.specs.Read.{read}
use Rattle.serde_json.specs.Written.{compact_text}
use Rattle.registry_names.specs.Idents.{is_ident}
use Rattle.registry_names.specs.Moments.{last_second}
use Rattle.registry_names.specs.Names.{IsName, IsNameOf, is_plain_part, is_scoped_part, longest_name, scope_of}
use Rattle.registry_names.specs.Texts.{Text, is}
use Rattle.registry_names.specs.VersionReading.{in_profile}
use Rattle.registry_names.specs.Versions.{IsVersion, VersionParts, longest_version, text_of_version}
use Rattle.registry_names.proofs.KeyFacts.{same_self, same_true, text_key}
use Rattle.registry_names.proofs.NameFacts.{scope_of-name}
use Rattle.registry_names.proofs.VersionFacts.{kept, not_kept, not_read}
use Rattle.registry_publish.specs.Body.{is_manifest}
use Rattle.registry_publish.specs.Form.{IsManifestText}
use Rattle.registry_ranges.specs.declared.reader.Place.TheVariants.{Before}
use Rattle.registry_ranges.specs.Grammar.{IsRangeText}
use Rattle.registry_ranges.specs.Steps.{reading}
use Rattle.registry_ranges.specs.Texts.{ranges_in}
use Rattle.registry_ranges.specs.Values.{Ranges, parts_of}
use Rattle.registry_ranges.proofs.ReadingFacts.{reading-sound, reads-value}
use Rattle.registry_tables.specs.Numbers.{is_moment, seconds_of}
use Rattle.registry_check.specs.Forms.{is_manifest_read, is_manifest_text, is_name, is_name_in, is_range, is_version, is_version_read, part_after}

-- ---- names

after_scope : (s p : Text) → drop (suc (length s)) (s ++ 47 ∷ p) ≡ p
after_scope [] p = refl
after_scope (c ∷ s) p = after_scope s p

after : (s p : Text) → part_after s (64 ∷ (s ++ 47 ∷ p)) ≡ p
after s p = after_scope s p

named : (t : Text) (o : Option Text) → length t ≤ longest_name → is_name_in t o ≡ true → IsName t
named t None short h = (None, (t, (refl, h, short)))
named t (Some s) short h =
    let one = and_parts (is t (64 ∷ (s ++ 47 ∷ part_after s t))) _ h in
    let two = and_parts (is_ident s) (is_scoped_part (part_after s t)) one.1 in
    (Some s, (part_after s t, (same_true text_key t (64 ∷ (s ++ 47 ∷ part_after s t)) one.0, two.0, two.1, short)))

pub name_is : (t : Text) → is_name t ≡ true → IsName t
name_is t h =
    let it = and_parts (nat_le (length t) longest_name) (is_name_in t (scope_of t)) h in
    named t (scope_of t) (leb-true (length t) longest_name it.0) it.1

named_in : (t : Text) (s : Option Text) (p : Text) → IsNameOf t s p → is_name_in t s ≡ true
named_in t None p n = subst (λ (q : Text). is_plain_part q ≡ true) (sym n.0) n.1
named_in t (Some s) p n =
    let part : part_after s t ≡ p = ap (part_after s) n.0 ∙ after s p in
    and_from _ _ (ap (λ (q : Text). is t (64 ∷ (s ++ 47 ∷ q))) part ∙ ap (is t) (sym n.0) ∙ same_self text_key t)
    (and_from _ _ n.1 (ap is_scoped_part part ∙ n.2))

short_name : (t : Text) (s : Option Text) (p : Text) → IsNameOf t s p → length t ≤ longest_name
short_name t None p n = n.2
short_name t (Some s) p n = n.3

pub is_name_of : (t : Text) → IsName t → is_name t ≡ true
is_name_of t (s, (p, n)) =
    and_from _ _ (le-leb (length t) longest_name (short_name t s p n)) (ap (is_name_in t) (sym (scope_of-name t s p n)) ∙ named_in t s p n)

-- what isn't true is false
pub false_unless : (b : Bool) → (b ≡ true → ⊥) → b ≡ false
false_unless true f = absurd (f refl)
false_unless false f = refl

pub no_name : (t : Text) → ¬ (IsName t) → is_name t ≡ false
no_name t f = false_unless (is_name t) (λ h. f (name_is t h))

-- ---- versions

version_read : (t : Text) (r : Result Parts Error) → version_parts t ≡ r → length t ≤ 256 → is_version_read r ≡ true → IsVersion t
version_read t (Ok p) e short h = (record { major = p.0; minor = p.1; patch = p.2; pre = p.3 }, kept t p e h short)
version_read t (Err x) e short h = absurd (true≢false (sym h))

pub version_is : (t : Text) → is_version t ≡ true → IsVersion t
version_is t h =
    let it = and_parts (nat_le (length t) longest_version) (is_version_read (version_parts t)) h in
    version_read t (version_parts t) refl (leb-true (length t) 256 it.0) it.1

read_version : (t : Text) (r : Result Parts Error) → version_parts t ≡ r → IsVersion t → is_version_read r ≡ true
read_version t (Err x) e v = absurd (not_read t x e v)
read_version t (Ok p) e v = in_it (in_profile p) refl
  where
    in_it : (b : Bool) → in_profile p ≡ b → in_profile p ≡ true
    in_it true i = i
    in_it false i = absurd (not_kept t p e i v)

pub is_version_of : (t : Text) → IsVersion t → is_version t ≡ true
is_version_of t v = and_from _ _ (le-leb (length t) longest_version v.1.1) (read_version t (version_parts t) refl v)

pub no_version : (t : Text) → ¬ (IsVersion t) → is_version t ≡ false
no_version t f = false_unless (is_version t) (λ h. f (version_is t h))

-- ---- manifests

manifest_read : (name : Text) (version : VersionParts) (t : Text) (o : Option Data) → read t ≡ o → is_manifest_read name (text_of_version version) t o ≡ true → IsManifestText name version t
manifest_read name version t None e h = absurd (true≢false (sym h))
manifest_read name version t (Some m) e h =
    let it = and_parts (is_manifest name (text_of_version version) m) (is t (compact_text m)) h in
    (m, it.0, (same_true text_key t (compact_text m) it.1, e))

pub manifest_text_is : (name v : Text) (version : VersionParts) (t : Text) → v ≡ text_of_version version → is_manifest_text name v t ≡ true → IsManifestText name version t
manifest_text_is name v version t e h = manifest_read name version t (read t) refl (ap (λ (x : Text). is_manifest_text name x t) (sym e) ∙ h)

pub is_manifest_text_of : (name v : Text) (version : VersionParts) (t : Text) → v ≡ text_of_version version → IsManifestText name version t → is_manifest_text name v t ≡ true
is_manifest_text_of name v version t e (m, is_one, (text, back)) =
    ap (λ (x : Text). is_manifest_text name x t) e ∙ ap (is_manifest_read name (text_of_version version) t) back
    ∙ and_from _ _ is_one (ap (is t) (sym text) ∙ same_self text_key t)

-- ---- ranges

pub range_is : (t : Text) → is_range t ≡ true → IsRangeText t
unfolding ranges_in
range_is t h = each (ranges_in t) refl h
  where
    each : (o : Option Ranges) → ranges_in t ≡ o → is_some o ≡ true → IsRangeText t
    each None e i = absurd (true≢false (sym i))
    each (Some r) e i = let it = reading-sound t r e in (it.0, it.1, it.2)

pub is_range_of : (t : Text) → IsRangeText t → is_range t ≡ true
unfolding ranges_in
is_range_of t h = let e : reading Before t ≡ Some (parts_of h.0) = reads-value t (parts_of h.0) (h.0, h.1, h.2, refl) in ap is_some e

pub range_tested : (b : Bool) (t : Text) → (b ≡ true → IsRangeText t) → (IsRangeText t → b ≡ true) → b ≡ is_range t
range_tested b t to from = both_ways _ _ (λ h. is_range_of t (to h)) (λ h. from (range_is t h))

-- ---- moments

pub in_time : (z : ℤ) → is_moment z ≡ true → seconds_of z ≤ last_second
in_time (pos n) h = leb-true n last_second (within (nat_le n last_second) h)
  where
    within : (b : Bool) → is_some (if b then Some n else None) ≡ true → b ≡ true
    within true h = refl
    within false h = absurd (true≢false (sym h))
in_time (negsuc n) h = absurd (true≢false (sym h))
