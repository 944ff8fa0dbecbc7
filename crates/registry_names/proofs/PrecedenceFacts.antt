-- Precedence is a total order of texts, and SemVer's own where both texts are versions.
use Rattle.std.proofs.Common.{◌≡◌, Some, None, Ok, Err, Result, [], refl, sym, ap, ◌∙◌, arith, Ordering, Less, Equal, Greater}
use Rattle.std.specs.Option.{option_cmp}
use Rattle.std.specs.Ordering.{ordering_then}
use Rattle.std.specs.Cmp.{IsTotalOrder, on_total, then_total, tied_itself}
use Rattle.std.specs.Cmp.Lexicographic.{options_total}
use Rattle.semver.specs.Grammar.{IsValid}
use Rattle.semver.specs.Parse.{Parts, version_parts}
use Rattle.semver.specs.declared.error.Error.{Error}
use Rattle.semver.proofs.Grammar.{version_parts-complete, version_parts-sound}
use Rattle.registry_names.specs.Texts.{Text, text_cmp}
use Rattle.registry_names.specs.Versions.{VersionParts, IsVersionOf, precedence, text_of_version}
use Rattle.registry_names.specs.Precedence.{IsSemVer, numbers_of, version_in, text_precedence}
use Rattle.registry_names.specs.VersionOrderLaws.{second_tie}
pub use Rattle.registry_names.specs.VersionOrderLaws.{precedence_total, precedence_exact}
use Rattle.registry_names.proofs.TextFacts.{text_total, text_exact}

-- ---- versions

-- a version's text reads to its numbers and its prerelease
pub version_reads : (t : Text) (v : VersionParts) → IsVersionOf t v → version_in t ≡ Some v
unfolding version_in
version_reads t v is_version =
    let p : Parts = (v.major, v.minor, v.patch, v.pre, []) in
    let valid : IsValid p = (omega arith, omega arith, omega arith, is_version.5, refl) in
    ap numbers_of (ap version_parts is_version.0 ∙ version_parts-complete p valid)

-- ---- texts

pub text_precedence_total : IsTotalOrder text_precedence
unfolding text_precedence
text_precedence_total = then_total (on_total version_in (options_total precedence_total)) text_total

-- texts of one precedence are one
pub text_precedence_exact : (a b : Text) → text_precedence a b ≡ Equal → a ≡ b
unfolding text_precedence
text_precedence_exact a b e = text_exact a b (second_tie (option_cmp precedence (version_in a) (version_in b)) _ e)

-- of two versions' texts it is SemVer's precedence
pub text_precedence_agrees : (a b : Text) (x y : VersionParts) → IsVersionOf a x → IsVersionOf b y → text_precedence a b ≡ precedence x y
unfolding text_precedence
text_precedence_agrees a b x y is_x is_y =
    ap (λ o. ordering_then (option_cmp precedence o (version_in b)) (text_cmp a b)) (version_reads a x is_x)
    ∙ ap (λ o. ordering_then (option_cmp precedence (Some x) o) (text_cmp a b)) (version_reads b y is_y)
    ∙ untied (precedence x y) refl
  where
    untied : (o : Ordering) → precedence x y ≡ o → ordering_then o (text_cmp a b) ≡ o
    untied Less e = refl
    untied Equal e = ap (λ t. text_cmp t b) (is_x.0 ∙ ap text_of_version (precedence_exact x y e) ∙ sym is_y.0) ∙ tied_itself text_total b
    untied Greater e = refl

reads_none : (t : Text) (r : Result Parts Error) → ¬ (IsSemVer t) → version_parts t ≡ r → numbers_of r ≡ None
reads_none t (Ok p) none e = let s = version_parts-sound t p e in absurd (none (p, s.1, sym s.0))
reads_none t (Err x) none e = refl

-- a text that is no version by SemVer is below each version
pub text_below : (a b : Text) (y : VersionParts) → ¬ (IsSemVer a) → IsVersionOf b y → text_precedence a b ≡ Less
unfolding text_precedence version_in
text_below a b y none is_y =
    ap (λ o. ordering_then (option_cmp precedence o (version_in b)) (text_cmp a b)) (reads_none a (version_parts a) none refl)
    ∙ ap (λ o. ordering_then (option_cmp precedence None o) (text_cmp a b)) (version_reads b y is_y)
