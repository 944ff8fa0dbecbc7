-- Changes of a map one after another, and changes of the rows that give a map.
use Rattle.std.proofs.Common.{◌≡◌, Bool, true, false, cond, not, ◌&&◌, List, [], ◌∷◌, ◌++◌, map, refl, sym, ap, ◌∙◌, true≢false, Ordering, Some, None, Option, option_map, filter}
use Rattle.std.specs.FinMap as fin
use Rattle.registry_names.specs.Keys.{IsKey}
use Rattle.registry_names.specs.Maps.{MapBy, at, put, erase, keep, revise, rows}
use Rattle.registry_names.proofs.KeyFacts.{same_true, never_both}
use Rattle.registry_names.proofs.MapFacts.{at-put, at-erase, at-keep, at-revise, at-rows, same_map, first_is, first_at-kept, first_at-revised}

-- ---- tests and options alone

hidden : {A : Type 0} (b : Bool) (x y z : A) → cond b x (cond b y z) ≡ cond b x z
hidden true x y z = refl
hidden false x y z = refl

swapped : {A : Type 0} (a b : Bool) (x y z : A) → (a ≡ true → b ≡ true → ⊥) → cond a x (cond b y z) ≡ cond b y (cond a x z)
swapped true true x y z apart = absurd (apart refl refl)
swapped true false x y z apart = refl
swapped false b x y z apart = refl

swapped_same : {A : Type 0} (a b : Bool) (x z : A) → cond a x (cond b x z) ≡ cond b x (cond a x z)
swapped_same true true x z = refl
swapped_same true false x z = refl
swapped_same false b x z = refl

turned : {A : Type 0} (b : Bool) (x y : A) → cond (not b) x y ≡ cond b y x
turned true x y = refl
turned false x y = refl

met : {A : Type 0} (b : Bool) (x y : A) → (b ≡ true → x ≡ y) → cond b x y ≡ y
met true x y h = h refl
met false x y h = refl

kept_in : {A : Type 0} (s t : Bool) (x y n : A) → (s ≡ true → t ≡ true) → cond t (cond s x y) n ≡ cond s x (cond t y n)
kept_in true true x y n h = refl
kept_in true false x y n h = absurd (true≢false (sym (h refl)))
kept_in false t x y n h = refl

kept_out : {A : Type 0} (s t : Bool) (x y n : A) → (s ≡ true → t ≡ false) → cond t (cond s x y) n ≡ cond t y n
kept_out true true x y n h = absurd (true≢false (h refl))
kept_out true false x y n h = refl
kept_out false t x y n h = refl

agree_in : {A : Type 0} (b : Bool) (x y n : A) → (b ≡ true → x ≡ y) → cond b x n ≡ cond b y n
agree_in true x y n h = h refl
agree_in false x y n h = refl

kept_none : {A : Type 0} (s t : Bool) (y n : A) → cond t (cond s n y) n ≡ cond s n (cond t y n)
kept_none true true y n = refl
kept_none true false y n = refl
kept_none false t y n = refl

kept_twice : {A : Type 0} (s t : Bool) (y n : A) → cond t (cond s y n) n ≡ cond (s && t) y n
kept_twice true t y n = refl
kept_twice false true y n = refl
kept_twice false false y n = refl

revised : {X : Type 0} (b : Bool) (g : X → X) (x y : X) (o : Option X) → (b ≡ true → g x ≡ y) → option_map g (cond b (Some x) o) ≡ cond b (Some y) (option_map g o)
revised true g x y o h = ap (λ (z : _). Some z) (h refl)
revised false g x y o h = refl

revised_out : {X : Type 0} (b : Bool) (g : X → X) (o : Option X) → option_map g (cond b None o) ≡ cond b None (option_map g o)
revised_out true g o = refl
revised_out false g o = refl

revised_in : {X : Type 0} (b : Bool) (g : X → X) (o : Option X) → option_map g (cond b o None) ≡ cond b (option_map g o) None
revised_in true g o = refl
revised_in false g o = refl

alike_tests : {X : Type 0} (a b : Bool) (o : Option X) → ((x : X) → o ≡ Some x → a ≡ b) → cond a o None ≡ cond b o None
alike_tests a b (Some x) h = ap (λ t. cond t (Some x) None) (h x refl)
alike_tests true true None h = refl
alike_tests true false None h = refl
alike_tests false true None h = refl
alike_tests false false None h = refl

alike_values : {X : Type 0} (f g : X → X) (o : Option X) → ((x : X) → o ≡ Some x → f x ≡ g x) → option_map f o ≡ option_map g o
alike_values f g None h = refl
alike_values f g (Some x) h = ap (λ (y : _). Some y) (h x refl)

unchanged : {X : Type 0} (f : X → X) (o : Option X) → ((x : X) → o ≡ Some x → f x ≡ x) → option_map f o ≡ o
unchanged f None h = refl
unchanged f (Some x) h = ap (λ (y : _). Some y) (h x refl)

all_kept : {X : Type 0} (b : Bool) (o : Option X) → ((x : X) → o ≡ Some x → b ≡ true) → cond b o None ≡ o
all_kept b (Some x) h = ap (λ t. cond t (Some x) None) (h x refl)
all_kept true None h = refl
all_kept false None h = refl

module _ {K X : Type 0} {cmp : K → K → Ordering} {same : K → K → Bool} (key : IsKey cmp same) where
  -- ---- a change at the key of the last one

  pub put_again : (m : MapBy cmp X) (q : K) (x : X) → put (erase m q) q x ≡ put m q x
  put_again m q x = same_map key _ _ (λ k. at-put key (erase m q) q x k ∙ ap (cond (same q k) (Some x)) (at-erase key m q k) ∙ hidden (same q k) _ _ _ ∙ sym (at-put key m q x k))

  pub put_over : (m : MapBy cmp X) (q : K) (x y : X) → put (put m q x) q y ≡ put m q y
  put_over m q x y = same_map key _ _ (λ k. at-put key (put m q x) q y k ∙ ap (cond (same q k) (Some y)) (at-put key m q x k) ∙ hidden (same q k) _ _ _ ∙ sym (at-put key m q y k))

  pub erase_put : (m : MapBy cmp X) (q : K) (x : X) → erase (put m q x) q ≡ erase m q
  erase_put m q x = same_map key _ _ (λ k. at-erase key (put m q x) q k ∙ ap (cond (same q k) None) (at-put key m q x k) ∙ hidden (same q k) _ _ _ ∙ sym (at-erase key m q k))

  pub erase_again : (m : MapBy cmp X) (q : K) → erase (erase m q) q ≡ erase m q
  erase_again m q = same_map key _ _ (λ k. at-erase key (erase m q) q k ∙ ap (cond (same q k) None) (at-erase key m q k) ∙ hidden (same q k) _ _ _ ∙ sym (at-erase key m q k))

  -- what is at one of two equal keys is at the other
  along : (m : MapBy cmp X) (q k : K) (o : Option X) → at m q ≡ o → same q k ≡ true → o ≡ at m k
  along m q k o e t = sym e ∙ ap (at m) (same_true key q k t)

  -- to put what is there changes nothing
  pub put_there : (m : MapBy cmp X) (q : K) (x : X) → at m q ≡ Some x → put m q x ≡ m
  put_there m q x e = same_map key _ _ (λ k. at-put key m q x k ∙ met (same q k) (Some x) (at m k) (along m q k (Some x) e))

  -- to erase what is not there changes nothing
  pub erase_absent : (m : MapBy cmp X) (q : K) → at m q ≡ None → erase m q ≡ m
  erase_absent m q e = same_map key _ _ (λ k. at-erase key m q k ∙ met (same q k) None (at m k) (along m q k None e))

  -- ---- changes at two keys, in either order

  pub put_put_apart : (m : MapBy cmp X) (q r : K) (x y : X) → same q r ≡ false → put (put m q x) r y ≡ put (put m r y) q x
  put_put_apart m q r x y d = same_map key _ _ (λ k.
      at-put key (put m q x) r y k ∙ ap (cond (same r k) (Some y)) (at-put key m q x k) ∙ swapped (same r k) (same q k) _ _ _ (never_both key q r k d)
      ∙ sym (at-put key (put m r y) q x k ∙ ap (cond (same q k) (Some x)) (at-put key m r y k)))

  pub erase_put_apart : (m : MapBy cmp X) (q r : K) (x : X) → same q r ≡ false → erase (put m q x) r ≡ put (erase m r) q x
  erase_put_apart m q r x d = same_map key _ _ (λ k.
      at-erase key (put m q x) r k ∙ ap (cond (same r k) None) (at-put key m q x k) ∙ swapped (same r k) (same q k) _ _ _ (never_both key q r k d)
      ∙ sym (at-put key (erase m r) q x k ∙ ap (cond (same q k) (Some x)) (at-erase key m r k)))

  pub erase_erase : (m : MapBy cmp X) (q r : K) → erase (erase m q) r ≡ erase (erase m r) q
  erase_erase m q r = same_map key _ _ (λ k.
      at-erase key (erase m q) r k ∙ ap (cond (same r k) None) (at-erase key m q k) ∙ swapped_same (same r k) (same q k) _ _
      ∙ sym (at-erase key (erase m r) q k ∙ ap (cond (same q k) None) (at-erase key m r k)))

  -- ---- what is kept

  pub keep_put : (m : MapBy cmp X) (test : K → Bool) (q : K) (x : X) → test q ≡ true → keep (put m q x) test ≡ put (keep m test) q x
  keep_put m test q x t = same_map key _ _ (λ k.
      at-keep key (put m q x) test k ∙ ap (λ o. cond (test k) o None) (at-put key m q x k) ∙ kept_in (same q k) (test k) _ _ _ (λ s. sym (ap test (same_true key q k s)) ∙ t)
      ∙ sym (at-put key (keep m test) q x k ∙ ap (cond (same q k) (Some x)) (at-keep key m test k)))

  pub keep_put_out : (m : MapBy cmp X) (test : K → Bool) (q : K) (x : X) → test q ≡ false → keep (put m q x) test ≡ keep m test
  keep_put_out m test q x t = same_map key _ _ (λ k.
      at-keep key (put m q x) test k ∙ ap (λ o. cond (test k) o None) (at-put key m q x k) ∙ kept_out (same q k) (test k) _ _ _ (λ s. sym (ap test (same_true key q k s)) ∙ t)
      ∙ sym (at-keep key m test k))

  pub keep_erase : (m : MapBy cmp X) (test : K → Bool) (q : K) → keep (erase m q) test ≡ erase (keep m test) q
  keep_erase m test q = same_map key _ _ (λ k.
      at-keep key (erase m q) test k ∙ ap (λ o. cond (test k) o None) (at-erase key m q k) ∙ kept_none (same q k) (test k) _ _
      ∙ sym (at-erase key (keep m test) q k ∙ ap (cond (same q k) None) (at-keep key m test k)))

  pub keep_erase_out : (m : MapBy cmp X) (test : K → Bool) (q : K) → test q ≡ false → keep (erase m q) test ≡ keep m test
  keep_erase_out m test q t = same_map key _ _ (λ k.
      at-keep key (erase m q) test k ∙ ap (λ o. cond (test k) o None) (at-erase key m q k) ∙ kept_out (same q k) (test k) _ _ _ (λ s. sym (ap test (same_true key q k s)) ∙ t)
      ∙ sym (at-keep key m test k))

  pub keep_keep : (m : MapBy cmp X) (first second : K → Bool) → keep (keep m first) second ≡ keep m (λ k. first k && second k)
  keep_keep m first second = same_map key _ _ (λ k.
      at-keep key (keep m first) second k ∙ ap (λ o. cond (second k) o None) (at-keep key m first k) ∙ kept_twice (first k) (second k) _ _
      ∙ sym (at-keep key m (λ q. first q && second q) k))

  -- maps that agree at each key that passes the test are one in what is kept
  pub keep_agree : (m n : MapBy cmp X) (test : K → Bool) → ((k : K) → test k ≡ true → at m k ≡ at n k) → keep m test ≡ keep n test
  keep_agree m n test h = same_map key _ _ (λ k. at-keep key m test k ∙ agree_in (test k) _ _ None (h k) ∙ sym (at-keep key n test k))

  -- tests that agree at each key of the map keep the same
  pub keep_alike : (m : MapBy cmp X) (f g : K → Bool) → ((k : K) (x : X) → at m k ≡ Some x → f k ≡ g k) → keep m f ≡ keep m g
  keep_alike m f g h = same_map key _ _ (λ k. at-keep key m f k ∙ alike_tests (f k) (g k) (at m k) (h k) ∙ sym (at-keep key m g k))

  -- a test that each key of the map passes keeps all
  pub keep_all : (m : MapBy cmp X) (test : K → Bool) → ((k : K) (x : X) → at m k ≡ Some x → test k ≡ true) → keep m test ≡ m
  keep_all m test h = same_map key _ _ (λ k. at-keep key m test k ∙ all_kept (test k) (at m k) (h k))

  -- to keep all but one key is to erase it
  pub keep_but : (m : MapBy cmp X) (q : K) → keep m (λ k. not (same q k)) ≡ erase m q
  keep_but m q = same_map key _ _ (λ k. at-keep key m _ k ∙ turned (same q k) _ _ ∙ sym (at-erase key m q k))

  -- ---- values that are revised

  pub revise_put : (m : MapBy cmp X) (f : K → X → X) (q : K) (x : X) → revise (put m q x) f ≡ put (revise m f) q (f q x)
  revise_put m f q x = same_map key _ _ (λ k.
      at-revise key (put m q x) f k ∙ ap (option_map (f k)) (at-put key m q x k) ∙ revised (same q k) (f k) x (f q x) _ (λ s. sym (ap (λ r. f r x) (same_true key q k s)))
      ∙ sym (at-put key (revise m f) q (f q x) k ∙ ap (cond (same q k) (Some (f q x))) (at-revise key m f k)))

  pub revise_erase : (m : MapBy cmp X) (f : K → X → X) (q : K) → revise (erase m q) f ≡ erase (revise m f) q
  revise_erase m f q = same_map key _ _ (λ k.
      at-revise key (erase m q) f k ∙ ap (option_map (f k)) (at-erase key m q k) ∙ revised_out (same q k) (f k) _
      ∙ sym (at-erase key (revise m f) q k ∙ ap (cond (same q k) None) (at-revise key m f k)))

  pub revise_keep : (m : MapBy cmp X) (f : K → X → X) (test : K → Bool) → revise (keep m test) f ≡ keep (revise m f) test
  revise_keep m f test = same_map key _ _ (λ k.
      at-revise key (keep m test) f k ∙ ap (option_map (f k)) (at-keep key m test k) ∙ revised_in (test k) (f k) _
      ∙ sym (at-keep key (revise m f) test k ∙ ap (λ o. cond (test k) o None) (at-revise key m f k)))

  -- changes that agree at each entry of the map do the same
  pub revise_alike : (m : MapBy cmp X) (f g : K → X → X) → ((k : K) (x : X) → at m k ≡ Some x → f k x ≡ g k x) → revise m f ≡ revise m g
  revise_alike m f g h = same_map key _ _ (λ k. at-revise key m f k ∙ alike_values (f k) (g k) (at m k) (h k) ∙ sym (at-revise key m g k))

  -- a change that leaves each value leaves the map
  pub revise_none : (m : MapBy cmp X) (f : K → X → X) → ((k : K) (x : X) → at m k ≡ Some x → f k x ≡ x) → revise m f ≡ m
  revise_none m f h = same_map key _ _ (λ k. at-revise key m f k ∙ unchanged (f k) (at m k) (h k))

  -- ---- changes of the rows

  -- a row more, whose key is new, is put
  pub rows_push : (es : List (K × X)) (q : K) (x : X) → at (rows cmp es) q ≡ None → rows cmp (es ++ (q, x) ∷ []) ≡ put (rows cmp es) q x
  unfolding rows put
  rows_push es q x absent = fin.from_entries_push key.total key.exact es q x (first_is key es q ∙ sym (at-rows key es q) ∙ absent)

  -- the rows whose keys pass the test are kept
  pub rows_keep : (es : List (K × X)) (test : K → Bool) → rows cmp (filter (λ (e : K × X). test e.0) es) ≡ keep (rows cmp es) test
  rows_keep es test = same_map key _ _ (λ k. at-rows key _ k ∙ first_at-kept key es test k ∙ sym (at-keep key (rows cmp es) test k ∙ ap (λ o. cond (test k) o None) (at-rows key es k)))

  -- rows changed by their keys and values are revised
  pub rows_revise : (es : List (K × X)) (f : K → X → X) → rows cmp (map (λ (e : K × X). (e.0, f e.0 e.1)) es) ≡ revise (rows cmp es) f
  rows_revise es f = same_map key _ _ (λ k. at-rows key _ k ∙ first_at-revised key es f k ∙ sym (at-revise key (rows cmp es) f k ∙ ap (option_map (f k)) (at-rows key es k)))
