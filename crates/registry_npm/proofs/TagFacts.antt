-- The entity tags of packuments and archives.
use Rattle.std.proofs.Common.{◌≡◌, ◌<◌, ◌∙◌, ◌/◌, ◌%◌, ◌^◌, zero, suc, ℕ, Bool, true, List, [], ◌∷◌, ◌++◌, length, codes, arith, append_assoc, refl, ap, inl, inr, Some, None, drop, take, if◌then◌else◌}
use Rattle.std.specs.Prelude.{◌&&◌, nat_lt, slice_index}
use Rattle.std.specs.List.{list_all}
use Rattle.std.specs.Int.{byte_at, bytes_high_first, to_be_bytes, w32}
use Rattle.std.proofs.lemmas.Bool.{and_from, and_parts, cases_lt, lt-ltb, ltb-true}
use Rattle.std.proofs.lemmas.List.{take-append-le, take_all}
use Rattle.std.proofs.lemmas.List.Folds.{list_all-append}
use Rattle.json.specs.Print.{quoted}
use Rattle.hex.specs.Hex.{encode_lower, encode_with, lower_digits}
use Rattle.hex.proofs.HexLemmas.{length-encode_with}
use Rattle.sha2.specs.Sha256.{digest_bytes, sha256}
use Rattle.sha2.proofs.Facts256.{length-sha256}
use Rattle.registry_documents.specs.Fronts.{behind_brace, maintainers_text, shown_text}
use Rattle.registry_documents.specs.Revisions.{revised, revision}
use Rattle.registry_laws_history.specs.Answers.{maintainer_names, packument_in}
use Rattle.registry_names.specs.Texts.{Text}
use Rattle.registry_packument.specs.TextValues.{is_plain_char}
use Rattle.registry_packument.specs.declared.form.PackForm.TheVariants as form
use Rattle.registry_packument.proofs.QuotedFacts.{quoted-plain}
use Rattle.registry_wire.specs.EntityTags.{is_etagc, is_tag, tag_of}
use Rattle.registry_npm.specs.Labels.{content_tag, tag_in}
use Rattle.registry_npm.specs.LabelLaws.{ShownAreTagged}

-- ---- digests in hexadecimal

-- a digit may stand in a tag and in a text of JSON
abbrev may_stand : ℕ → Bool
may_stand b = is_etagc b && is_plain_char b

abbrev all_stand : ℕ → Bool
all_stand zero = true
all_stand (suc n) = may_stand (slice_index lower_digits n) && all_stand n

stands-at : (n k : ℕ) → all_stand n ≡ true → k < n → may_stand (slice_index lower_digits k) ≡ true
stands-at zero k h lt = absurd (omega arith)
stands-at (suc n) k h lt =
    let parts = and_parts (may_stand (slice_index lower_digits n)) (all_stand n) h in
    elim (cases_lt k n) [
      | inl below ↦ stands-at n k parts.1 below
      | inr top ↦
          let e : k ≡ n = omega arith in
          rw e parts.0
    ]

stands : (k : ℕ) → k < 16 → may_stand (slice_index lower_digits k) ≡ true
stands k lt = stands-at 16 k refl lt

abbrev is_byte : ℕ → Bool
is_byte b = nat_lt b 256

hex-stands : (bs : List ℕ) → list_all is_byte bs ≡ true → list_all may_stand (encode_lower bs) ≡ true
unfolding encode_with
hex-stands [] h = refl
hex-stands (b ∷ bs) h =
    let parts = and_parts (is_byte b) (list_all is_byte bs) h in
    let below : b < 256 = ltb-true b 256 parts.0 in
    and_from _ _ (stands (b / 16) (omega (arith, below))) (and_from _ _ (stands (b % 16) (omega arith)) (hex-stands bs parts.1))

remainder-below : (n : ℕ) → n % 256 < 256
remainder-below n = omega arith

byte-below : (k n : ℕ) → byte_at k n < 256
byte-below zero n = remainder-below n
byte-below (suc k) n = remainder-below (n / 256 ^ suc k)

high-bytes : (k n : ℕ) → list_all is_byte (bytes_high_first k n) ≡ true
high-bytes zero n = refl
high-bytes (suc k) n = and_from _ _ (lt-ltb (byte_at k n) 256 (byte-below k n)) (high-bytes k n)

digest-bytes : (h : List ℕ) (n : ℕ) → list_all is_byte (digest_bytes h n) ≡ true
unfolding digest_bytes
digest-bytes h zero = refl
digest-bytes h (suc n) =
    list_all-append is_byte (digest_bytes h n) (to_be_bytes w32 (slice_index h n)) ∙ and_from _ _ (digest-bytes h n) (high-bytes 4 (slice_index h n))

sha-bytes : (m : List ℕ) → list_all is_byte (sha256 m) ≡ true
unfolding sha256
sha-bytes m = digest-bytes _ 8

all-weaker : (p q : ℕ → Bool) → ((b : ℕ) → p b ≡ true → q b ≡ true) → (bs : List ℕ) → list_all p bs ≡ true → list_all q bs ≡ true
all-weaker p q weaker [] h = refl
all-weaker p q weaker (b ∷ bs) h =
    let parts = and_parts (p b) (list_all p bs) h in
    and_from _ _ (weaker b parts.0) (all-weaker p q weaker bs parts.1)

abbrev hex : List ℕ → List ℕ
hex m = encode_lower (sha256 m)

pub hex-len : (m : List ℕ) → length (hex m) ≡ 64
hex-len m =
    let digits = length-encode_with lower_digits (sha256 m) in
    let bytes = length-sha256 m in
    omega (arith, digits, bytes)

hex-all : (m : List ℕ) → list_all may_stand (hex m) ≡ true
hex-all m = hex-stands (sha256 m) (sha-bytes m)

pub hex-is_tag : (m : List ℕ) → is_tag (hex m) ≡ true
hex-is_tag m =
    and_from _ _ (rw (hex-len m) refl) (all-weaker may_stand is_etagc (λ b h. (and_parts (is_etagc b) (is_plain_char b) h).0) (hex m) (hex-all m))

hex-quoted : (m : List ℕ) → quoted (hex m) ≡ 34 ∷ (hex m ++ 34 ∷ [])
hex-quoted m = quoted-plain (hex m) (all-weaker may_stand is_plain_char (λ b h. (and_parts (is_etagc b) (is_plain_char b) h).1) (hex m) (hex-all m))

tag-some : (text : List ℕ) → is_tag text ≡ true → tag_of text ≡ Some text
tag-some text h = ap (λ b. if b then Some text else None) h

-- ---- packuments

-- what is behind the first nine bytes begins with the revision
first-64 : (rev rest : List ℕ) → length rev ≡ 64 → take 64 (rev ++ rest) ≡ rev
first-64 rev rest len = take-append-le 64 rev rest (omega (arith, len)) ∙ take_all 64 rev (omega (arith, len))

joined : (rev tail rest : List ℕ) → ((rev ++ 34 ∷ []) ++ tail) ++ rest ≡ rev ++ 34 ∷ (tail ++ rest)
joined rev tail rest = simp append_assoc

behind-nine : (key rev quoted_rev tail rest : List ℕ) → key ≡ 34 ∷ (codes "_rev" ++ 34 ∷ []) → quoted_rev ≡ 34 ∷ (rev ++ 34 ∷ [])
    → drop 9 ((123 ∷ ((key ++ 58 ∷ quoted_rev) ++ tail)) ++ rest) ≡ rev ++ 34 ∷ (tail ++ rest)
behind-nine key rev quoted_rev tail rest named is = rw (named, is) (joined rev tail rest)

pub shown-tag : (text : Text) (names : List Text) → tag_in (shown_text text names) ≡ Some (revision text names)
unfolding shown_text
shown-tag text names =
    let m = revised (sha256 text) names in
    let tail = maintainers_text names ++ 44 ∷ [] in
    let rest = behind_brace text in
    ap (λ (t : List ℕ). tag_of (take 64 t)) (behind-nine (quoted (codes "_rev")) (hex m) (quoted (hex m)) tail rest (quoted-plain (codes "_rev") refl) (hex-quoted m))
    ∙ ap tag_of (first-64 (hex m) (34 ∷ (tail ++ rest)) (hex-len m))
    ∙ tag-some (hex m) (hex-is_tag m)

pub shown-tagged : ShownAreTagged
shown-tagged S p = shown-tag (packument_in form.Full S p) (maintainer_names S p)

-- ---- what is sent as it is

pub content-some : (bytes : List ℕ) → tag_of (content_tag bytes) ≡ Some (content_tag bytes)
content-some bytes = tag-some (content_tag bytes) (hex-is_tag bytes)
