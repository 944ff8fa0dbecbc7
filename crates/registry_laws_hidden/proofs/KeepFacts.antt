-- What a change of a map leaves of the entries whose keys pass a test.
use Rattle.std.proofs.Common.{◌≡◌, Bool, true, false, cond, not, filter, refl, sym, ap, ◌∙◌, true≢false, Ordering, Some, None, Option}
use Rattle.registry_names.specs.Keys.{IsKey}
use Rattle.registry_names.specs.Maps.{MapBy, at, put, entries, erase, keep}
use Rattle.registry_names.proofs.EntryFacts.{entries-keep}
use Rattle.registry_names.proofs.KeyFacts.{same_sym, same_true}
use Rattle.registry_names.proofs.MapFacts.{at-put, at-erase, at-keep, same_map}

-- of two keys one passes a test alone
unlike : {K : Type 0} {cmp : K → K → Ordering} {same : K → K → Bool} → IsKey cmp same → (test : K → Bool) (q k : K) → test q ≡ false → test k ≡ true → (b : Bool) → same q k ≡ b → b ≡ false
unlike key test q k failed passed true s = absurd (true≢false (sym passed ∙ ap test (sym (same_true key q k s)) ∙ failed))
unlike key test q k failed passed false s = refl

module _ {K X : Type 0} {cmp : K → K → Ordering} {same : K → K → Bool} (key : IsKey cmp same) (test : K → Bool) where
  kept_alike : (b : Bool) (x y : Option X) → (b ≡ true → x ≡ y) → cond b x None ≡ cond b y None
  kept_alike true x y h = h refl
  kept_alike false x y h = refl

  -- maps with the same at each key that passes
  pub keep_alike : (m n : MapBy cmp X) → ((k : K) → test k ≡ true → at m k ≡ at n k) → keep m test ≡ keep n test
  keep_alike m n h = same_map key _ _ (λ k. at-keep key m test k ∙ kept_alike (test k) _ _ (h k) ∙ sym (at-keep key n test k))

  pub at-kept : (m : MapBy cmp X) (k : K) → test k ≡ true → at (keep m test) k ≡ at m k
  at-kept m k passed = at-keep key m test k ∙ ap (λ b. cond b (at m k) None) passed

  pub at-unkept : (m : MapBy cmp X) (k : K) → test k ≡ false → at (keep m test) k ≡ None
  at-unkept m k failed = at-keep key m test k ∙ ap (λ b. cond b (at m k) None) failed

  put_here : (m : MapBy cmp X) (q : K) (x : X) (k : K) → test q ≡ true → (b : Bool) → same q k ≡ b → cond (test k) (cond b (Some x) (at m k)) None ≡ cond b (Some x) (cond (test k) (at m k) None)
  put_here m q x k passed true s = ap (λ b. cond b (Some x) None) (ap test (sym (same_true key q k s)) ∙ passed)
  put_here m q x k passed false s = refl

  pub keep-put : (m : MapBy cmp X) (q : K) (x : X) → test q ≡ true → keep (put m q x) test ≡ put (keep m test) q x
  keep-put m q x passed = same_map key _ _ (λ k.
      at-keep key (put m q x) test k ∙ ap (λ o. cond (test k) o None) (at-put key m q x k) ∙ put_here m q x k passed (same q k) refl
      ∙ sym (at-put key (keep m test) q x k ∙ ap (cond (same q k) (Some x)) (at-keep key m test k)))

  pub keep-put_other : (m : MapBy cmp X) (q : K) (x : X) → test q ≡ false → keep (put m q x) test ≡ keep m test
  keep-put_other m q x failed = keep_alike (put m q x) m (λ k passed. at-put key m q x k ∙ ap (λ b. cond b (Some x) (at m k)) (unlike key test q k failed passed (same q k) refl))

  pub keep-erase_other : (m : MapBy cmp X) (q : K) → test q ≡ false → keep (erase m q) test ≡ keep m test
  keep-erase_other m q failed = keep_alike (erase m q) m (λ k passed. at-erase key m q k ∙ ap (λ b. cond b None (at m k)) (unlike key test q k failed passed (same q k) refl))

  turned : (b c : Bool) (o : Option X) → cond b (cond c None o) None ≡ cond c None (cond b o None)
  turned true c o = refl
  turned false true o = refl
  turned false false o = refl

  pub keep-erase : (m : MapBy cmp X) (q : K) → keep (erase m q) test ≡ erase (keep m test) q
  keep-erase m q = same_map key _ _ (λ k.
      at-keep key (erase m q) test k ∙ ap (λ o. cond (test k) o None) (at-erase key m q k) ∙ turned (test k) (same q k) (at m k)
      ∙ sym (at-erase key (keep m test) q k ∙ ap (cond (same q k) None) (at-keep key m test k)))

  swapped : (b c : Bool) (o : Option X) → cond b (cond c o None) None ≡ cond c (cond b o None) None
  swapped true true o = refl
  swapped true false o = refl
  swapped false true o = refl
  swapped false false o = refl

  pub keep-keep : (m : MapBy cmp X) (other : K → Bool) → keep (keep m other) test ≡ keep (keep m test) other
  keep-keep m other = same_map key _ _ (λ k.
      at-keep key (keep m other) test k ∙ ap (λ o. cond (test k) o None) (at-keep key m other k) ∙ swapped (test k) (other k) (at m k)
      ∙ sym (at-keep key (keep m test) other k ∙ ap (λ o. cond (other k) o None) (at-keep key m test k)))

  -- what is kept already is kept
  pub keep_twice : (m : MapBy cmp X) → keep (keep m test) test ≡ keep m test
  keep_twice m = keep_alike (keep m test) m (λ k passed. at-kept m k passed)

module _ {K X : Type 0} {cmp : K → K → Ordering} {same : K → K → Bool} (key : IsKey cmp same) (m : MapBy cmp X) where
  pub erase-put : (p q : K) (x : X) → same p q ≡ false → erase (put m q x) p ≡ put (erase m p) q x
  erase-put p q x differ = same_map key _ _ (λ k.
      at-erase key (put m q x) p k ∙ ap (cond (same p k) None) (at-put key m q x k) ∙ apart k (same p k) (same q k) refl refl
      ∙ sym (at-put key (erase m p) q x k ∙ ap (cond (same q k) (Some x)) (at-erase key m p k)))
    where
      apart : (k : K) (b c : Bool) → same p k ≡ b → same q k ≡ c → cond b None (cond c (Some x) (at m k)) ≡ cond c (Some x) (cond b None (at m k))
      apart k true true e f = absurd (true≢false (sym (ap (same p) (same_true key q k f) ∙ e) ∙ differ))
      apart k true false e f = refl
      apart k false c e f = refl

  pub erase-put_same : (p : K) (x : X) → erase (put m p x) p ≡ erase m p
  erase-put_same p x = same_map key _ _ (λ k.
      at-erase key (put m p x) p k ∙ ap (cond (same p k) None) (at-put key m p x k) ∙ over (same p k) (at m k) ∙ sym (at-erase key m p k))
    where
      over : (b : Bool) (o : Option X) → cond b None (cond b (Some x) o) ≡ cond b None o
      over true o = refl
      over false o = refl

  erase_kept : (p : K) → erase m p ≡ keep m (λ k. not (same k p))
  erase_kept p = same_map key _ _ (λ k. at-erase key m p k ∙ ap (λ b. cond b None (at m k)) (same_sym key p k) ∙ other (same k p) (at m k) ∙ sym (at-keep key m (λ j. not (same j p)) k))
    where
      other : (b : Bool) (o : Option X) → cond b None o ≡ cond (not b) o None
      other true o = refl
      other false o = refl

  -- the entries under the other keys
  pub entries-erase : (p : K) → entries (erase m p) ≡ filter (λ (e : K × X). not (same e.0 p)) (entries m)
  entries-erase p = ap entries (erase_kept p) ∙ entries-keep key m (λ k. not (same k p))

  pub erase_twice : (p : K) → erase (erase m p) p ≡ erase m p
  erase_twice p = same_map key _ _ (λ k. at-erase key (erase m p) p k ∙ ap (cond (same p k) None) (at-erase key m p k) ∙ over (same p k) (at m k) ∙ sym (at-erase key m p k))
    where
      over : (b : Bool) (o : Option X) → cond b None (cond b None o) ≡ cond b None o
      over true o = refl
      over false o = refl
