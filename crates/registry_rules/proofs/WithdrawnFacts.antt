-- What a withdrawal and a deprecation leave, each map by itself.
use Rattle.std.proofs.Common.{◌≡◌, ◌≢◌, ℕ, Bool, true, false, cond, ◌&&◌, ◌||◌, List, [], ◌∷◌, ◌++◌, map, filter, Option, Some, None, option_map, refl, sym, ap, ◌∙◌, subst, true≢false, if◌then◌else◌}
use Rattle.std.proofs.lemmas.Bool.{and_parts, and_from}
use Rattle.std.specs.List.{list_any}
use Rattle.registry_names.specs.Keys.{Pair, pair_is}
use Rattle.registry_names.specs.Maps.{PairMap, among, at, put, erase, revise, keys, of}
use Rattle.registry_names.specs.Greatest.{greatest}
use Rattle.registry_names.specs.Tags.{latest}
use Rattle.registry_names.specs.Texts.{Text, is}
use Rattle.registry_names.proofs.KeyFacts.{text_key, pair_key, same_true, same_self}
use Rattle.registry_names.proofs.MapFacts.{at-put_same, at-put_other, at-erase_same, at-erase_other, at-revise}
use Rattle.registry_rules.specs.Changes.{Change, RetireVersion, PutTag, DropTag, made, all_made}
use Rattle.registry_rules.specs.Effects.{deprecation, freed, withdrawal}
use Rattle.registry_rules.specs.Operations.{retired, with_message}
use Rattle.registry_rules.specs.State.{State, Release}
use Rattle.registry_rules.specs.Withdrawals.{live_versions, others, tags_of}
use Rattle.registry_rules.proofs.OtherFacts.{any_of, of_any}

-- ---- the tags

-- the tags of a package after one of them was freed for another version, if there is one
abbrev pub freed_tag : PairMap Text → Text → Option Text → Text → PairMap Text
freed_tag m p None t = erase m (p, t)
freed_tag m p (Some w) t = cond (is t latest) (put m (p, t) w) (erase m (p, t))

abbrev pub freed_tags : PairMap Text → Text → Option Text → List Text → PairMap Text
freed_tags m p other [] = m
freed_tags m p other (t ∷ ts) = freed_tags (freed_tag m p other t) p other ts

tag_freed : (S : State) (p : Text) (other : Option Text) (t : Text) → made S (freed p other t) ≡ record S { tags = freed_tag S.tags p other t }
tag_freed S p None t = refl
tag_freed S p (Some w) t = by_name (is t latest)
  where
    by_name : (b : Bool) → made S (if b then PutTag p t w else DropTag p t) ≡ record S { tags = cond b (put S.tags (p, t) w) (erase S.tags (p, t)) }
    by_name true = refl
    by_name false = refl

tags_freed : (S : State) (p : Text) (other : Option Text) (ts : List Text) → all_made S (map (freed p other) ts) ≡ record S { tags = freed_tags S.tags p other ts }
tags_freed S p other [] = refl
tags_freed S p other (t ∷ ts) = ap (λ T. all_made T (map (freed p other) ts)) (tag_freed S p other t) ∙ tags_freed (record S { tags = freed_tag S.tags p other t }) p other ts

pub made_then : (S : State) (cs ds : List Change) → all_made S (cs ++ ds) ≡ all_made (all_made S cs) ds
made_then S [] ds = refl
made_then S (c ∷ cs) ds = made_then (made S c) cs ds

-- a withdrawal leaves the tags freed, and then the version is retired
pub withdrawn_is : (S : State) (now : ℕ) (p v : Text) (published : ℕ) (other : Option Text) (tags : List Text)
    → all_made S (map (freed p other) tags ++ RetireVersion p v published now ∷ []) ≡ retired (record S { tags = freed_tags S.tags p other tags }) p v published now
withdrawn_is S now p v published other tags =
    made_then S (map (freed p other) tags) (RetireVersion p v published now ∷ []) ∙ ap (λ T. retired T p v published now) (tags_freed S p other tags)

-- what a withdrawal of a version changes, which lives or doesn't
abbrev pub withdrawal_of : State → ℕ → Text → Text → Option Release → List Change
withdrawal_of S now p v old = withdrawal now p v (option_map (λ (r : Release). r.at) old) (live_versions S p) (tags_of S p v)

-- it leaves alone who may do what
pub withdrawn_access : (S : State) (now : ℕ) (p v : Text) (old : Option Release) → (all_made S (withdrawal_of S now p v old)).access ≡ S.access
withdrawn_access S now p v None = refl
withdrawn_access S now p v (Some r) = ap (λ (T : State). T.access) (withdrawn_is S now p v r.at (greatest (others (live_versions S p) v)) (tags_of S p v))

-- what a tag of this name names then
abbrev pub freed_value : Option Text → Text → Option Text
freed_value None u = None
freed_value (Some w) u = cond (is u latest) (Some w) None

freed_own : (m : PairMap Text) (p : Text) (other : Option Text) (t : Text) → at (freed_tag m p other t) (p, t) ≡ freed_value other t
freed_own m p None t = at-erase_same pair_key m (p, t)
freed_own m p (Some w) t = by_name (is t latest)
  where
    by_name : (b : Bool) → at (cond b (put m (p, t) w) (erase m (p, t))) (p, t) ≡ cond b (Some w) None
    by_name true = at-put_same pair_key m (p, t) w
    by_name false = at-erase_same pair_key m (p, t)

freed_other : (m : PairMap Text) (p : Text) (other : Option Text) (t : Text) (k : Pair) → pair_is (p, t) k ≡ false → at (freed_tag m p other t) k ≡ at m k
freed_other m p None t k e = at-erase_other pair_key m (p, t) k e
freed_other m p (Some w) t k e = by_name (is t latest)
  where
    by_name : (b : Bool) → at (cond b (put m (p, t) w) (erase m (p, t))) k ≡ at m k
    by_name true = at-put_other pair_key m (p, t) w k e
    by_name false = at-erase_other pair_key m (p, t) k e

at-freed_tag : (m : PairMap Text) (p : Text) (other : Option Text) (t q u : Text)
    → at (freed_tag m p other t) (q, u) ≡ cond (is p q && is t u) (freed_value other u) (at m (q, u))
at-freed_tag m p other t q u = by_key (pair_is (p, t) (q, u)) refl
  where
    by_key : (b : Bool) → pair_is (p, t) (q, u) ≡ b → at (freed_tag m p other t) (q, u) ≡ cond b (freed_value other u) (at m (q, u))
    by_key true e = subst (λ (k : Pair). at (freed_tag m p other t) k ≡ freed_value other k.1) (same_true pair_key (p, t) (q, u) e) (freed_own m p other t)
    by_key false e = freed_other m p other t (q, u) e

-- `latest` names the other version, if there is one, and another tag nothing
pub freed_latest : (other : Option Text) → freed_value other latest ≡ other
freed_latest None = refl
freed_latest (Some w) = ap (λ b. cond b (Some w) None) (same_self text_key latest)

pub freed_gone : (other : Option Text) (u : Text) → is u latest ≡ false → freed_value other u ≡ None
freed_gone None u e = refl
freed_gone (Some w) u e = ap (λ b. cond b (Some w) None) e

-- what a freed tag names is the other version, and it is `latest`
pub freed_names : (other : Option Text) (u w : Text) → freed_value other u ≡ Some w → (is u latest ≡ true) × (other ≡ Some w)
freed_names None u w e = cc
freed_names (Some x) u w e = by_name (is u latest) refl e
  where
    by_name : (b : Bool) → is u latest ≡ b → cond b (Some x) None ≡ Some w → (is u latest ≡ true) × (◌≡◌ {A = Option Text} (Some x) (Some w))
    by_name true f e = (f, e)
    by_name false f e = cc

-- one of the tags was freed first, and then the others
freed_joined : (here first later : Bool) (new old : Option Text) → cond (here && later) new (cond (here && first) new old) ≡ cond (here && (first || later)) new old
freed_joined true true true new old = refl
freed_joined true true false new old = refl
freed_joined true false later new old = refl
freed_joined false first later new old = refl

pub at-freed : (m : PairMap Text) (p : Text) (other : Option Text) (ts : List Text) (q u : Text)
    → at (freed_tags m p other ts) (q, u) ≡ cond (is p q && among is ts u) (freed_value other u) (at m (q, u))
at-freed m p other [] q u = none_here (is p q) _ _
  where
    none_here : {X : Type 0} (b : Bool) (x y : X) → y ≡ cond (b && false) x y
    none_here true x y = refl
    none_here false x y = refl
at-freed m p other (t ∷ ts) q u =
    at-freed (freed_tag m p other t) p other ts q u
    ∙ ap (cond (is p q && among is ts u) (freed_value other u)) (at-freed_tag m p other t q u)
    ∙ freed_joined (is p q) (is t u) (among is ts u) (freed_value other u) (at m (q, u))

-- ---- which tags name a version

pub filtered : {X : Type 0} (test : Text × X → Bool) (es : List (Text × X)) (u : Text) → among is (keys (filter test es)) u ≡ list_any (λ (e : Text × X). test e && is e.0 u) es
filtered test [] u = refl
filtered test (e ∷ es) u = by_test (test e) ∙ ap (λ b. test e && is e.0 u || b) (filtered test es u)
  where
    by_test : (b : Bool) → among is (keys (if b then e ∷ filter test es else filter test es)) u ≡ (b && is e.0 u || among is (keys (filter test es)) u)
    by_test true = refl
    by_test false = refl

module _ (S : State) (p v : Text) where
  pub names_where_among : (u : Text) → among is (tags_of S p v) u ≡ true → at S.tags (p, u) ≡ Some v
  names_where_among u h =
      let found = any_of S.tags p (λ (e : Text × Text). is e.1 v && is e.0 u) (sym (filtered (λ (e : Text × Text). is e.1 v) (of S.tags p) u) ∙ h) in
      let parts = and_parts (is found.0.1 v) (is found.0.0 u) found.2 in
      ap (λ t. at S.tags (p, t)) (sym (same_true text_key found.0.0 u parts.1)) ∙ found.1 ∙ ap (λ w. Some w) (same_true text_key found.0.1 v parts.0)

  pub among_where_names : (u : Text) → at S.tags (p, u) ≡ Some v → among is (tags_of S p v) u ≡ true
  among_where_names u e =
      filtered (λ (e : Text × Text). is e.1 v) (of S.tags p) u
      ∙ of_any S.tags p (λ (e : Text × Text). is e.1 v && is e.0 u) u v e (and_from (is v v) (is u u) (same_self text_key v) (same_self text_key u))

  pub apart_where_others : (u : Text) → at S.tags (p, u) ≢ Some v → among is (tags_of S p v) u ≡ false
  apart_where_others u differ = by_test (among is (tags_of S p v) u) refl
    where
      by_test : (b : Bool) → among is (tags_of S p v) u ≡ b → among is (tags_of S p v) u ≡ false
      by_test true e = absurd (differ (names_where_among u e))
      by_test false e = e

-- ---- a deprecation

-- the live versions after these of a package have the message
abbrev pub marked_all : PairMap Release → Text → Text → List Text → PairMap Release
marked_all m p message [] = m
marked_all m p message (v ∷ vs) = marked_all (revise m (λ k (r : Release). if pair_is (p, v) k then record r { message = message } else r)) p message vs

pub deprecated_is : (S : State) (p message : Text) (vs : List Text) → all_made S (deprecation p message vs) ≡ record S { live = marked_all S.live p message vs }
deprecated_is S p message [] = refl
deprecated_is S p message (v ∷ vs) = deprecated_is (with_message S p v message) p message vs

abbrev pub marked_value : Text → Option Release → Option Release
marked_value message old = option_map (λ (r : Release). record r { message = message }) old

marked_twice : (message : Text) (old : Option Release) → marked_value message (marked_value message old) ≡ marked_value message old
marked_twice message (Some r) = refl
marked_twice message None = refl

marked_one : (b : Bool) (message : Text) (old : Option Release) → option_map (λ (r : Release). if b then record r { message = message } else r) old ≡ cond b (marked_value message old) old
marked_one true message (Some r) = refl
marked_one true message None = refl
marked_one false message (Some r) = refl
marked_one false message None = refl

-- one of the versions was marked first, and then the others
marked_joined : (here first later : Bool) (f : Option Release → Option Release) (old : Option Release) → f (f old) ≡ f old
    → cond (here && later) (f (cond (here && first) (f old) old)) (cond (here && first) (f old) old) ≡ cond (here && (first || later)) (f old) old
marked_joined true true true f old twice = twice
marked_joined true true false f old twice = refl
marked_joined true false later f old twice = refl
marked_joined false first later f old twice = refl

none_here : {X : Type 0} (b : Bool) (x y : X) → y ≡ cond (b && false) x y
none_here true x y = refl
none_here false x y = refl

pub at-marked : (m : PairMap Release) (p message : Text) (vs : List Text) (q u : Text)
    → at (marked_all m p message vs) (q, u) ≡ cond (is p q && among is vs u) (marked_value message (at m (q, u))) (at m (q, u))
at-marked m p message [] q u = none_here (is p q) _ _
at-marked m p message (v ∷ vs) q u =
    at-marked (revise m (λ k (r : Release). if pair_is (p, v) k then record r { message = message } else r)) p message vs q u
    ∙ ap (λ o. cond (is p q && among is vs u) (marked_value message o) o)
    (at-revise pair_key m (λ k (r : Release). if pair_is (p, v) k then record r { message = message } else r) (q, u) ∙ marked_one (is p q && is v u) message (at m (q, u)))
    ∙ marked_joined (is p q) (is v u) (among is vs u) (marked_value message) (at m (q, u)) (marked_twice message (at m (q, u)))

-- of these texts those are left that pass
none_passes : (b : Bool) → false ≡ (b && false)
none_passes true = refl
none_passes false = refl

passes_first : (here passed mine later : Bool) → (here ≡ true → passed ≡ mine) → cond passed (here || (mine && later)) (mine && later) ≡ (mine && (here || later))
passes_first true true true later same = refl
passes_first true true false later same = absurd (true≢false (same refl))
passes_first true false true later same = absurd (true≢false (sym (same refl)))
passes_first true false false later same = refl
passes_first false true mine later same = refl
passes_first false false mine later same = refl

pub among_passing : (test : Text → Bool) (vs : List Text) (u : Text) → among is (filter test vs) u ≡ (test u && among is vs u)
among_passing test [] u = none_passes (test u)
among_passing test (v ∷ vs) u =
    by_test (test v) ∙ ap (λ b. cond (test v) (is v u || b) b) (among_passing test vs u)
    ∙ passes_first (is v u) (test v) (test u) (among is vs u) (λ e. ap test (same_true text_key v u e))
  where
    by_test : (b : Bool) → among is (if b then v ∷ filter test vs else filter test vs) u ≡ cond b (is v u || among is (filter test vs) u) (among is (filter test vs) u)
    by_test true = refl
    by_test false = refl
