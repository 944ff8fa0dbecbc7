-- The parts of an authorization.
use Rattle.std.proofs.Common.{◌≡◌, ℕ, ◌∷◌, length, Some, None, Option, refl, sym, ap, ◌∙◌}
use Rattle.std.specs.Prelude.{codes, drop, map, take, IsUtf8}
use Rattle.std.specs.Char.{to_ascii_lowercase}
use Rattle.std.proofs.Math.Seq.{take-append_seam, drop-append_seam}
use Rattle.std.proofs.lemmas.List.{length-map}
use Rattle.registry_names.specs.Texts.{Text}
use Rattle.registry_routes.specs.Authorization.{behind_spaces, after_space, IsBearer, IsNoBearer}

scheme-length : (scheme : Text) → map to_ascii_lowercase scheme ≡ codes "bearer" → length scheme ≡ 6
scheme-length scheme e = sym (length-map scheme to_ascii_lowercase) ∙ ap length e

-- where the scheme ends
record Cut (value scheme rest : Text) : Type 0 where
  pub front : take 6 value ≡ scheme
  pub back : drop 6 value ≡ 32 ∷ rest

cut : (value token : Text) (b : IsBearer value token) → Cut value b.scheme b.rest
cut value token b =
    let six : length b.scheme ≡ 6 = scheme-length b.scheme b.is_scheme in
    let front : take (length b.scheme) value ≡ b.scheme = ap (take (length b.scheme)) b.whole ∙ take-append_seam b.scheme (32 ∷ b.rest) in
    let back : drop (length b.scheme) value ≡ 32 ∷ b.rest = ap (drop (length b.scheme)) b.whole ∙ drop-append_seam b.scheme (32 ∷ b.rest) in
    record {
      front = ap (λ (n : ℕ). take n value) (sym six) ∙ front;
      back = ap (λ (n : ℕ). drop n value) (sym six) ∙ back;
    }

pub no-scheme : (value front : Text) → front ≡ take 6 value → ¬ (map to_ascii_lowercase front ≡ codes "bearer") → IsNoBearer value
no-scheme value front is none token b = none (ap (map to_ascii_lowercase) (is ∙ (cut value token b).front) ∙ b.is_scheme)

after : (rest : Text) → after_space (32 ∷ rest) ≡ Some rest
after rest = refl

pub no-space : (value back : Text) → back ≡ drop 6 value → after_space back ≡ None → IsNoBearer value
no-space value back is none token b =
    let both : ◌≡◌ {A = Option Text} None (Some b.rest) = sym none ∙ ap after_space (is ∙ (cut value token b).back) ∙ after b.rest in
    cc both

pub no-text : (value back rest : Text) → back ≡ drop 6 value → after_space back ≡ Some rest → ¬ (IsUtf8 (behind_spaces rest)) → IsNoBearer value
no-text value back rest is some none token b =
    let both : ◌≡◌ {A = Option Text} (Some rest) (Some b.rest) = sym some ∙ ap after_space (is ∙ (cut value token b).back) ∙ after b.rest in
    let same_rest : b.rest ≡ rest = cc both in
    let same : token ≡ behind_spaces rest = b.behind ∙ ap behind_spaces same_rest in
    none (rw same at b.is_text)
