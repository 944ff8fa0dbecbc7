-- What holds of a map's entries after an entry is put, or erased.
use Rattle.std.proofs.Common.{◌≡◌, Bool, true, false, cond, is_some, Option, Some, None, Ordering, refl, sym, ap, ◌∙◌, subst}
use Rattle.std.specs.Prelude.{IsSome}
use Rattle.registry_names.specs.Keys.{IsKey}
use Rattle.registry_names.specs.Maps.{MapBy, at, put, erase}
use Rattle.registry_names.proofs.KeyFacts.{same_true}
use Rattle.registry_names.proofs.MapFacts.{at-put, at-put_same, at-erase}

module _ {K X : Type 0} {cmp : K → K → Ordering} {same : K → K → Bool} (key : IsKey cmp same) (m : MapBy cmp X) (q : K) (x : X) where
  -- what holds of each entry, and of the one that is put, holds of each entry then
  pub each_put : (P : K → X → Type 0) → ((k : K) (y : X) → at m k ≡ Some y → P k y) → P q x → (k : K) (y : X) → at (put m q x) k ≡ Some y → P k y
  each_put P old new k y e = by_test (same q k) refl (sym (at-put key m q x k) ∙ e)
    where
      by_test : (b : Bool) → same q k ≡ b → cond b (Some x) (at m k) ≡ Some y → P k y
      by_test true s f = let value : x ≡ y = cc in subst (λ j. P j y) (same_true key q k s) (subst (P q) value new)
      by_test false s f = old k y f

  -- a key that is there then is the one that is put, or was there
  pub some_before : (P : K → Type 0) → ((k : K) → IsSome (at m k) → P k) → P q → (k : K) → IsSome (at (put m q x) k) → P k
  some_before P old new k h = by_test (same q k) refl (sym (ap is_some (at-put key m q x k)) ∙ h)
    where
      by_test : (b : Bool) → same q k ≡ b → IsSome (cond b (Some x) (at m k)) → P k
      by_test true s f = subst P (same_true key q k s) new
      by_test false s f = old k f

  -- the key that is put is there
  pub put_there : IsSome (at (put m q x) q)
  put_there = ap is_some (at-put_same key m q x)

  -- a key that was there stays
  pub still_there : (k : K) → IsSome (at m k) → IsSome (at (put m q x) k)
  still_there k h = ap is_some (at-put key m q x k) ∙ either (same q k) (at m k) h
    where
      either : (b : Bool) (o : Option X) → IsSome o → IsSome (cond b (Some x) o)
      either true o h = refl
      either false o h = h

module _ {K X : Type 0} {cmp : K → K → Ordering} {same : K → K → Bool} (key : IsKey cmp same) (m : MapBy cmp X) (q : K) where
  -- an entry that is left after one is erased was there
  pub each_left : (k : K) (y : X) → at (erase m q) k ≡ Some y → at m k ≡ Some y
  each_left k y e = by_test (same q k) (sym (at-erase key m q k) ∙ e)
    where
      by_test : (b : Bool) → cond b None (at m k) ≡ Some y → at m k ≡ Some y
      by_test true f = cc
      by_test false f = f
