-- Precedence orders all versions and ties only equal ones. The laws of `Ver`'s `Eq` and `Ord`
-- cite these.
use Rattle.std.proofs.Common.{◌≡◌, Some, refl, sym, ap, ◌∙◌, Ordering, Less, Equal, Greater, nat_cmp}
use Rattle.std.proofs.lemmas.Bool.Decides.{Decides-and, Decides-eqb, Decides-like, same_from_decides}
use Rattle.std.specs.Bool.{Decides}
use Rattle.std.specs.Cmp.{Equal-is, IsEquivalence, IsPartialOrder, IsTotalOrder, decided, nat_cmp_total, on_total, po, then_total, tied_itself}
use Rattle.std.specs.Cmp.Lexicographic.{bytes_decides}
use Rattle.std.specs.FinMap.{nat_cmp-IsAntisymmetric}
use Rattle.std.specs.Ordering.{is_eq, ordering_then}
use Rattle.semver.specs.OrderLaws.{pre_total, pre-anti}
use Rattle.registry_names.specs.Versions.{VersionParts, precedence}
use Rattle.registry_names.specs.VersionOrder.{same_version}

-- where two comparisons in turn tie, each of them ties
pub first_tie : (o r : Ordering) → ordering_then o r ≡ Equal → o ≡ Equal
first_tie Less r e = cc
first_tie Equal r e = refl
first_tie Greater r e = cc

pub second_tie : (o r : Ordering) → ordering_then o r ≡ Equal → r ≡ Equal
second_tie Less r e = cc
second_tie Equal r e = e
second_tie Greater r e = cc

-- ---- the order

pub precedence_total : IsTotalOrder precedence
precedence_total = then_total (on_total (λ (v : VersionParts). v.major) nat_cmp_total) (then_total (on_total (λ (v : VersionParts). v.minor) nat_cmp_total)
    (then_total (on_total (λ (v : VersionParts). v.patch) nat_cmp_total) (on_total (λ (v : VersionParts). v.pre) pre_total)))

-- versions of the same precedence are equal
pub precedence_exact : (x y : VersionParts) → precedence x y ≡ Equal → x ≡ y
precedence_exact x y e =
    let majors = nat_cmp-IsAntisymmetric x.major y.major (first_tie (nat_cmp x.major y.major) _ e) in
    let after_major = second_tie (nat_cmp x.major y.major) _ e in
    let minors = nat_cmp-IsAntisymmetric x.minor y.minor (first_tie (nat_cmp x.minor y.minor) _ after_major) in
    let after_minor = second_tie (nat_cmp x.minor y.minor) _ after_major in
    let patches = nat_cmp-IsAntisymmetric x.patch y.patch (first_tie (nat_cmp x.patch y.patch) _ after_minor) in
    let pres = pre-anti x.pre y.pre (second_tie (nat_cmp x.patch y.patch) _ after_minor) in
    λ i. record { major = majors i; minor = minors i; patch = patches i; pre = pres i }

pub precedence_ties : (x y : VersionParts) → x ≡ y → precedence x y ≡ Equal
precedence_ties x y e = ap (precedence x) (sym e) ∙ tied_itself precedence_total x

-- ---- the test

pub same_version_decides : (x y : VersionParts) → Decides (same_version x y) (x ≡ y)
same_version_decides x y = Decides-like (same_version x y)
    (λ h i. record { major = h.0.0.0 i; minor = h.0.0.1 i; patch = h.0.1 i; pre = h.1 i })
    (λ e. (((ap (λ (v : VersionParts). v.major) e, ap (λ (v : VersionParts). v.minor) e), ap (λ (v : VersionParts). v.patch) e), ap (λ (v : VersionParts). v.pre) e))
    (Decides-and _ _ (Decides-and _ _ (Decides-and _ _ (Decides-eqb x.major y.major) (Decides-eqb x.minor y.minor)) (Decides-eqb x.patch y.patch)) (bytes_decides x.pre y.pre))

pub same_version_equivalence : IsEquivalence same_version
same_version_equivalence = decided same_version same_version_decides

-- the test holds exactly where precedence ties
pub same_version_ties : (x y : VersionParts) → same_version x y ≡ is_eq (precedence x y)
same_version_ties x y = same_from_decides _ _ (same_version_decides x y)
    (λ e. precedence_exact x y ((Equal-is (precedence x y)).0 e), λ e. (Equal-is (precedence x y)).1 (precedence_ties x y e))

pub precedence_partial : IsPartialOrder same_version (λ x y. Some (precedence x y))
precedence_partial = po precedence_total same_version_ties
