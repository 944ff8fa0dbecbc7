-- What a test finds in the part of a map, and so who else is an owner.
use Rattle.std.proofs.Common.{◌≡◌, ◌≢◌, Bool, true, false, cond, not, ◌&&◌, ◌||◌, List, [], ◌∷◌, Option, Some, None, is_some, refl, sym, ap, ◌∙◌, true≢false, All, Ordering}
use Rattle.std.specs.Prelude.{IsSome}
use Rattle.std.specs.List.{list_any}
use Rattle.std.proofs.lemmas.Bool.{and_parts, and_from}
use Rattle.std.proofs.lemmas.List.Elements.{All-head, All-tail}
use Rattle.registry_names.specs.Keys.{IsKey}
use Rattle.registry_names.specs.Maps.{PairMap, at, of, first_at}
use Rattle.registry_names.specs.Texts.{Text, is}
use Rattle.registry_names.proofs.KeyFacts.{text_key, same_true, same_self, same_sym}
use Rattle.registry_names.proofs.PartFacts.{at-part, part_found}
use Rattle.registry_access.specs.Levels.{is_owner}
use Rattle.registry_access.specs.declared.role.Role.{Role}
use Rattle.registry_access.specs.declared.role.Role.TheVariants.{Owner, Admin, Developer}
use Rattle.registry_rules.specs.Laws.{OtherOwnersAreOwners, OtherMaintainersAreMaintainers}
use Rattle.registry_rules.specs.State.{State, has_other_owner, has_other_maintainer, is_last_owner}

-- ---- lists

module _ {X : Type 0} (P : X → Type 0) (test : X → Bool) where
  first_or : (x : X) (xs : List X) (b : Bool) → test x ≡ b → P x → (b || list_any test xs) ≡ true → (list_any test xs ≡ true → (y : X) × P y × (test y ≡ true)) → (y : X) × P y × (test y ≡ true)
  first_or x xs true e p h more = (x, p, e)
  first_or x xs false e p h more = more h

  -- one that passes is among those of which all this holds
  pub passes : (xs : List X) → All P xs → list_any test xs ≡ true → (y : X) × P y × (test y ≡ true)
  passes [] all h = absurd (true≢false (sym h))
  passes (x ∷ xs) all h = first_or x xs (test x) refl (All-head P x xs all) h (passes xs (All-tail P x xs all))

or_true : (b : Bool) → (b || true) ≡ true
or_true true = refl
or_true false = refl

module _ {K X : Type 0} {cmp : K → K → Ordering} {same : K → K → Bool} (key : IsKey cmp same) (test : K × X → Bool) (k : K) (x : X) (passed : test (k, x) ≡ true) where
  found_or : (e : K × X) (es : List (K × X)) (b : Bool) → same e.0 k ≡ b → cond b (Some e.1) (first_at same es k) ≡ Some x → (first_at same es k ≡ Some x → list_any test es ≡ true) → (test e || list_any test es) ≡ true
  found_or e es true s h more = let value : e.1 ≡ x = cc in ap (λ b. b || list_any test es) (ap test (λ i. (same_true key e.0 k s i, value i)) ∙ passed)
  found_or e es false s h more = ap (λ b. test e || b) (more h) ∙ or_true (test e)

  -- what comes first at a key, and passes, is found
  pub found_passes : (es : List (K × X)) → first_at same es k ≡ Some x → list_any test es ≡ true
  found_passes [] h = cc
  found_passes (e ∷ es) h = found_or e es (same e.0 k) refl h (found_passes es)

module _ {X : Type 0} (m : PairMap X) (p : Text) (test : Text × X → Bool) where
  pub any_of : list_any test (of m p) ≡ true → (e : Text × X) × (at m (p, e.0) ≡ Some e.1) × (test e ≡ true)
  any_of h = passes (λ (e : Text × X). at m (p, e.0) ≡ Some e.1) test (of m p) (part_found text_key m p) h

  pub of_any : (w : Text) (x : X) → at m (p, w) ≡ Some x → test (w, x) ≡ true → list_any test (of m p) ≡ true
  of_any w x e passed = found_passes text_key test w x passed (of m p) (at-part text_key m p w ∙ e)

-- ---- owners

owner_is : (role : Role) → is_owner (Some role) ≡ true → Some role ≡ Some Owner
owner_is Owner h = refl
owner_is Admin h = absurd (true≢false (sym h))
owner_is Developer h = absurd (true≢false (sym h))

pub not_true : (b : Bool) → not b ≡ true → b ≡ false
not_true true h = absurd (true≢false (sym h))
not_true false h = refl

-- there is another owner of the organisation
abbrev pub OtherOwner : State → Text → Text → Type 0
OtherOwner S o u = (w : Text) × (is u w ≡ false) × (at S.access.roles (o, w) ≡ Some Owner)

pub other_owner : (S : State) (o u : Text) → has_other_owner S o u ≡ true → OtherOwner S o u
other_owner S o u h =
    let found = any_of S.access.roles o (λ (e : Text × Role). not (is e.0 u) && is_owner (Some e.1)) h in
    let parts = and_parts (not (is found.0.0 u)) (is_owner (Some found.0.1)) found.2 in
    (found.0.0, same_sym text_key u found.0.0 ∙ not_true _ parts.0, found.1 ∙ owner_is found.0.1 parts.1)

pub unlike : (a b : Text) → a ≢ b → is a b ≡ false
unlike a b differ = by_test (is a b) refl
  where
    by_test : (t : Bool) → is a b ≡ t → is a b ≡ false
    by_test true e = absurd (differ (same_true text_key a b e))
    by_test false e = e

differs : (a b : Text) → is a b ≡ false → b ≢ a
differs a b e same = absurd (true≢false (sym (ap (is a) same ∙ self) ∙ e))
  where
    self : is a a ≡ true
    self = same_self text_key a

pub other_owners_are_owners : OtherOwnersAreOwners
other_owners_are_owners S o u = (
  λ h. let other = other_owner S o u h in (other.0, differs u other.0 other.1, other.2),
  λ other. of_any S.access.roles o (λ (e : Text × Role). not (is e.0 u) && is_owner (Some e.1)) other.0 Owner other.2 (and_from _ _ (ap not (unlike other.0 u other.1)) refl),
)

-- one of two owners isn't the last
pub not_the_last : (S : State) (o u : Text) → is_last_owner S o u ≡ false → at S.access.roles (o, u) ≡ Some Owner → OtherOwner S o u
not_the_last S o u h e = other_owner S o u (by_test (has_other_owner S o u) (sym (ap (λ r. is_owner r && not (has_other_owner S o u)) e) ∙ h))
  where
    by_test : (b : Bool) → not b ≡ false → b ≡ true
    by_test true h = refl
    by_test false h = absurd (true≢false h)

-- ---- maintainers

-- there is another maintainer of the package
abbrev OtherMaintainer : State → Text → Text → Type 0
OtherMaintainer S p u = (w : Text) × (is u w ≡ false) × IsSome (at S.access.maintainers (p, w))

pub other_maintainer : (S : State) (p u : Text) → has_other_maintainer S p u ≡ true → OtherMaintainer S p u
other_maintainer S p u h =
    let found = any_of S.access.maintainers p (λ (e : Text × Unit {0}). not (is e.0 u)) h in
    (found.0.0, same_sym text_key u found.0.0 ∙ not_true _ found.2, ap is_some found.1)

one_there : (o : Option (Unit {0})) → IsSome o → o ≡ Some tt
one_there None h = absurd (true≢false (sym h))
one_there (Some x) h = refl

pub other_maintainers_are_maintainers : OtherMaintainersAreMaintainers
other_maintainers_are_maintainers S p u = (
  λ h. let other = other_maintainer S p u h in (other.0, differs u other.0 other.1, other.2),
  λ other. of_any S.access.maintainers p (λ (e : Text × Unit {0}). not (is e.0 u)) other.0 tt (one_there _ other.2) (ap not (unlike other.0 u other.1)),
)
