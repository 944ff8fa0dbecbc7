-- Of a package that was never published a legal history leaves nothing, so that the registry
-- without it is the registry.
use Rattle.std.proofs.Common.{◌≡◌, Bool, true, false, cond, not, ◌&&◌, ◌||◌, refl, sym, ap, ◌∙◌, true≢false, Some, None, Option, List, [], ◌∷◌, is_some, Ordering}
use Rattle.std.specs.List.{list_any}
use Rattle.std.specs.Prelude.{IsSome}
use Rattle.registry_names.specs.Keys.{IsKey, Pair, pair_is}
use Rattle.registry_names.specs.Maps.{MapBy, PairMap, among, at, erase, keep}
use Rattle.registry_names.specs.Texts.{Text, is}
use Rattle.registry_names.proofs.KeyFacts.{text_key, pair_key, triple_key, same_true}
use Rattle.registry_names.proofs.MapFacts.{at-erase, at-keep, same_map}
use Rattle.registry_rules.specs.Kept.{IsSound}
use Rattle.registry_rules.specs.State.{State}
use Rattle.registry_laws_history.specs.History.{Entry, Legal, after}
use Rattle.registry_laws_history.specs.Readings.{published}
use Rattle.registry_laws_history.proofs.RunFacts.{history_says}
use Rattle.registry_laws_history.proofs.StatusFacts.{has_status}
use Rattle.registry_laws_history.proofs.TagFacts.{has_tags}
use Rattle.registry_laws_history.proofs.VersionFacts.{has_versions}
use Rattle.registry_laws_hidden.specs.Without.{of_others, state_without}
use Rattle.registry_laws_hidden.proofs.NamedFacts.{other_pair, other_triple}

-- references hold, and what is held of a package is of one with a status
pub record Rests (S : State) : Type 0 where
  pub sound : IsSound S.access
  pub live : (p v : Text) → IsSome (at S.live (p, v)) → IsSome (at S.access.statuses p)
  pub spent : (p v : Text) → IsSome (at S.spent (p, v)) → IsSome (at S.access.statuses p)
  pub tags : (p t : Text) → IsSome (at S.tags (p, t)) → IsSome (at S.access.statuses p)

-- ---- a legal history leaves such a registry

first_passes : (a b c d : Bool) → (c ≡ true → d ≡ true) → ((a && b) || c) ≡ true → (a || d) ≡ true
first_passes true b c d later e = refl
first_passes false b c d later e = later e

-- a package is published that a version of it is
any_first : (p v : Text) (ks : List Pair) → list_any (λ q. pair_is q (p, v)) ks ≡ true → list_any (λ (k : Pair). is k.0 p) ks ≡ true
any_first p v [] e = e
any_first p v (k ∷ ks) e = first_passes (is k.0 p) (is k.1 v) (list_any (λ q. pair_is q (p, v)) ks) (list_any (λ (j : Pair). is j.0 p) ks) (any_first p v ks) e

either_right : (a b : Bool) → b ≡ true → (a || b) ≡ true
either_right true b e = refl
either_right false b e = e

some_of : {X : Type 0} (o : Option X) → IsSome o → (x : X) × (o ≡ Some x)
some_of None h = absurd (true≢false (sym h))
some_of (Some x) h = (x, refl)

module _ (h : List Entry) (legal : Legal h) where
  published_there : (p v : Text) → among pair_is (published h) (p, v) ≡ true → IsSome (at (after h).access.statuses p)
  published_there p v e = has_status h legal p ∙ any_first p v (published h) e

  live_there : (p v : Text) → IsSome (at (after h).live (p, v)) → IsSome (at (after h).access.statuses p)
  live_there p v e = published_there p v (sym ((has_versions h legal).together (p, v)) ∙ ap (λ b. b || is_some (at (after h).spent (p, v))) e)

  tag_there : (p t : Text) → IsSome (at (after h).tags (p, t)) → IsSome (at (after h).access.statuses p)
  tag_there p t e = let named = some_of (at (after h).tags (p, t)) e in live_there p named.0 ((has_tags h legal).named p t named.0 named.1)

  pub histories_rest : Rests (after h)
  histories_rest = record {
    sound = (history_says h legal).sound;
    live = live_there;
    spent = λ p v e. published_there p v (sym ((has_versions h legal).together (p, v)) ∙ either_right (is_some (at (after h).live (p, v))) _ e);
    tags = tag_there;
  }

-- ---- the registry without a package that has no status

module _ {K X : Type 0} {cmp : K → K → Ordering} {same : K → K → Bool} (key : IsKey cmp same) (m : MapBy cmp X) where
  keep_all : (test : K → Bool) → ((k : K) → test k ≡ false → at m k ≡ None) → keep m test ≡ m
  keep_all test none = same_map key _ _ (λ k. at-keep key m test k ∙ by_test k (test k) refl)
    where
      by_test : (k : K) (b : Bool) → test k ≡ b → cond b (at m k) None ≡ at m k
      by_test k true e = refl
      by_test k false e = sym (none k e)

  erase_none : (q : K) → at m q ≡ None → erase m q ≡ m
  erase_none q none = same_map key _ _ (λ k. at-erase key m q k ∙ by_test k (same q k) refl)
    where
      by_test : (k : K) (b : Bool) → same q k ≡ b → cond b None (at m k) ≡ at m k
      by_test k true e = sym none ∙ ap (at m) (same_true key q k e)
      by_test k false e = refl

none_left : {X : Type 0} (o : Option X) → (IsSome o → ⊥) → o ≡ None
none_left None h = refl
none_left (Some x) h = absurd (h refl)

unpassed : (b : Bool) → not b ≡ false → b ≡ true
unpassed true e = refl
unpassed false e = absurd (true≢false e)

module _ (S : State) (p : Text) (rests : Rests S) (new : at S.access.statuses p ≡ None) where
  -- none of the package has a status
  statusless : (q : Text) → other_pair p (q, q) ≡ false → IsSome (at S.access.statuses q) → ⊥
  statusless q e there = true≢false (sym there ∙ ap (λ r. is_some (at S.access.statuses r)) (same_true text_key q p (unpassed _ e)) ∙ ap is_some new)

  of_new : {X : Type 0} (m : PairMap X) → ((q x : Text) → IsSome (at m (q, x)) → IsSome (at S.access.statuses q)) → of_others m p ≡ m
  of_new m refers = keep_all pair_key m (other_pair p) (λ k e. none_left (at m k) (λ there. statusless k.0 e (refers k.0 k.1 there)))

  pub without_new : state_without S p ≡ S
  without_new =
      let statuses = erase_none text_key S.access.statuses p new in
      let grants = keep_all triple_key S.access.grants (other_triple p) (λ k e. none_left (at S.access.grants k) (λ there. statusless k.1.1 e (rests.sound.grants k.0 k.1.0 k.1.1 there).status)) in
      let maintainers = of_new S.access.maintainers (λ q u there. (rests.sound.maintainers q u there).0) in
      let live = of_new S.live rests.live in
      let spent = of_new S.spent rests.spent in
      let tags = of_new S.tags rests.tags in
      λ i. record S { access = record S.access { statuses = statuses i; grants = grants i; maintainers = maintainers i }; live = live i; spent = spent i; tags = tags i }
