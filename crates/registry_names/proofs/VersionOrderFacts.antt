-- What precedence says of versions, in the words of `VersionOrder`.
use Rattle.std.proofs.Common.{◌≡◌, ◌≢◌, ◌⊎◌, inl, inr, ℕ, ◌<◌, Bool, true, false, cond, ◌==◌, List, [], length, refl, sym, ap, ◌∙◌, Ordering, Less, Equal, Greater, nat_cmp}
use Rattle.std.proofs.lemmas.Bool.{eqb-true}
use Rattle.std.proofs.lemmas.Bool.Decides.{Decides-ltb}
use Rattle.std.proofs.lemmas.List.{nil_from_length}
use Rattle.std.specs.Prelude.{◌↔◌}
use Rattle.std.specs.Cmp.{nat_cmp_total, tied_itself}
use Rattle.std.specs.FinMap.{nat_cmp-IsAntisymmetric}
use Rattle.std.specs.Ordering.{ordering_then}
use Rattle.std.proofs.lemmas.Cmp.{ranked}
use Rattle.semver.specs.Order.{pre_cmp}
use Rattle.semver.specs.OrderLaws.{pre_cmp-right}
use Rattle.registry_names.specs.Versions.{VersionParts, precedence}
use Rattle.registry_names.specs.VersionOrder.{IsLessOr, IsBelow, release_of}
use Rattle.registry_names.specs.VersionOrderLaws.{precedence_exact, precedence_ties}

then_less : (o r : Ordering) → ordering_then o r ≡ Less → (o ≡ Less) ⊎ ((o ≡ Equal) × (r ≡ Less))
then_less Less r e = inl refl
then_less Equal r e = inr (refl, e)
then_less Greater r e = cc

less_number : (m n : ℕ) → nat_cmp m n ≡ Less → m < n
less_number m n e = ranked m n Less (sym e)

number_less : (m n : ℕ) → m < n → nat_cmp m n ≡ Less
number_less m n h = ap (λ b. cond b Less (cond (m == n) Equal Greater)) ((Decides-ltb m n).1 h)

number_ties : (m n : ℕ) → m ≡ n → nat_cmp m n ≡ Equal
number_ties m n e = ap (nat_cmp m) (sym e) ∙ tied_itself nat_cmp_total m

less_or : (m n : ℕ) (r : Ordering) (Rest : Type 0) → (r ≡ Less → Rest) → (nat_cmp m n ≡ Less) ⊎ ((nat_cmp m n ≡ Equal) × (r ≡ Less)) → IsLessOr m n Rest
less_or m n r Rest f (inl e) = inl (less_number m n e)
less_or m n r Rest f (inr (e, h)) = inr (nat_cmp-IsAntisymmetric m n e, f h)

or_less : (m n : ℕ) (r : Ordering) (Rest : Type 0) → (Rest → r ≡ Less) → IsLessOr m n Rest → ordering_then (nat_cmp m n) r ≡ Less
or_less m n r Rest f (inl h) = ap (λ o. ordering_then o r) (number_less m n h)
or_less m n r Rest f (inr (e, h)) = ap (λ o. ordering_then o r) (number_ties m n e) ∙ f h

by_number : (m n : ℕ) (r : Ordering) (Rest : Type 0) → ((r ≡ Less) ↔ Rest) → ((ordering_then (nat_cmp m n) r ≡ Less) ↔ IsLessOr m n Rest)
by_number m n r Rest rest = (λ e. less_or m n r Rest rest.0 (then_less (nat_cmp m n) r e), or_less m n r Rest rest.1)

pub precedence_below : (a b : VersionParts) → (precedence a b ≡ Less) ↔ IsBelow a b
precedence_below a b =
    let patch = by_number a.patch b.patch (pre_cmp a.pre b.pre) (pre_cmp a.pre b.pre ≡ Less) ((λ e. e), λ e. e) in
    let minor = by_number a.minor b.minor _ _ patch in
    by_number a.major b.major _ _ minor

not_empty : (p : List ℕ) (b : Bool) → p ≢ [] → (length p == 0) ≡ b → b ≡ false
not_empty p true h e = absurd (h (nil_from_length p (eqb-true _ _ e)))
not_empty p false h e = refl

pre_below : (p : List ℕ) → p ≢ [] → pre_cmp p [] ≡ Less
pre_below p h = pre_cmp-right p [] (not_empty p (length p == 0) h refl) refl

-- a version with a prerelease is below its release
pub below_release : (v : VersionParts) → v.pre ≢ [] → precedence v (release_of v) ≡ Less
below_release v h = (precedence_below v (release_of v)).1 (inr (refl, inr (refl, inr (refl, pre_below v.pre h))))

pub precedence_tells : (a b : VersionParts) → (precedence a b ≡ Equal) ↔ (a ≡ b)
precedence_tells a b = (precedence_exact a b, precedence_ties a b)
