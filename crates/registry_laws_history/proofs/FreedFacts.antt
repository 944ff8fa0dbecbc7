-- What a withdrawal leaves of a package: which versions remain, as the map and as the history say
-- it, and what its tags name.
use Rattle.std.proofs.Common.{◌≡◌, Bool, true, false, cond, not, ◌&&◌, ◌||◌, List, [], ◌∷◌, map, filter, refl, sym, ap, ap₂, ◌∙◌, true≢false, Some, None, Option, is_some, if◌then◌else◌}
use Rattle.std.proofs.lemmas.Bool.{and_from}
use Rattle.registry_names.specs.Keys.{Pair, pair_is}
use Rattle.registry_names.specs.Maps.{PairMap, among, at, erase, keys, of}
use Rattle.registry_names.specs.Texts.{Text, is}
use Rattle.registry_names.proofs.KeyFacts.{text_key, pair_key, same_true}
use Rattle.registry_names.proofs.PartFacts.{any-erase, any-part}
use Rattle.registry_names.proofs.TextFacts.{is_self, is_sym, is_true}
use Rattle.registry_rules.specs.State.{State, Release}
use Rattle.registry_rules.specs.Withdrawals.{others, tags_of}
use Rattle.registry_rules.proofs.WithdrawnFacts.{among_passing, among_where_names, apart_where_others, at-freed, freed_tags, freed_value, names_where_among}
use Rattle.registry_laws_history.specs.History.{Entry}
use Rattle.registry_laws_history.specs.Readings.{is_named, published, withdrawn, remains, remaining}

-- ---- the versions that remain

-- the others of a package's versions are those that are left when one is erased
pub among_others : (m : PairMap Release) (p v u : Text) → among is (others (keys (of m p)) v) u ≡ is_some (at (erase m (p, v)) (p, u))
among_others m p v u =
    among_passing (λ w. not (is w v)) (keys (of m p)) u
    ∙ ap (λ b. not b && among is (keys (of m p)) u) (is_sym u v)
    ∙ sym (any-erase text_key m p v u)
    ∙ any-part text_key (erase m (p, v)) p u

none_passes : (b : Bool) → false ≡ (b && false)
none_passes true = refl
none_passes false = refl

-- the first of the pairs, and the others; `here` and `this` say that it is of this package and this
-- version
first_or_others : (here this passed mine later : Bool) → (here ≡ true → this ≡ true → passed ≡ mine)
    → cond (here && passed) (this || (mine && later)) (mine && later) ≡ (mine && ((here && this) || later))
first_or_others true true true true later same = refl
first_or_others true true true false later same = absurd (true≢false (same refl refl))
first_or_others true true false true later same = absurd (true≢false (sym (same refl refl)))
first_or_others true true false false later same = refl
first_or_others true false true mine later same = refl
first_or_others true false false mine later same = refl
first_or_others false this passed mine later same = refl

-- the versions of this package, of those pairs that pass
among_versions : (test : Pair → Bool) (p u : Text) (ks : List Pair)
    → among is (map (λ (k : Pair). k.1) (filter (λ (k : Pair). is k.0 p && test k) ks)) u ≡ (test (p, u) && among pair_is ks (p, u))
among_versions test p u [] = none_passes (test (p, u))
among_versions test p u (k ∷ ks) =
    by_test (is k.0 p && test k) (filter (λ (j : Pair). is j.0 p && test j) ks)
    ∙ ap (λ b. cond (is k.0 p && test k) (is k.1 u || b) b) (among_versions test p u ks)
    ∙ first_or_others (is k.0 p) (is k.1 u) (test k) (test (p, u)) (among pair_is ks (p, u)) (λ a b. ap test (same_true pair_key k (p, u) (and_from (is k.0 p) (is k.1 u) a b)))
  where
    by_test : (b : Bool) (rest : List Pair) → among is (map (λ (j : Pair). j.1) (if b then k ∷ rest else rest)) u
        ≡ cond b (is k.1 u || among is (map (λ (j : Pair). j.1) rest) u) (among is (map (λ (j : Pair). j.1) rest) u)
    by_test true rest = refl
    by_test false rest = refl

-- what remains was published
was_published : (b c : Bool) → ((b && c) && b) ≡ (b && c)
was_published true true = refl
was_published true false = refl
was_published false c = refl

pub among_remaining : (h : List Entry) (p u : Text) → among is (remaining h p) u ≡ remains h (p, u)
among_remaining h p u = among_versions (remains h) p u (published h) ∙ was_published (among pair_is (published h) (p, u)) (not (among pair_is (withdrawn h) (p, u)))

-- ---- the tags that named the version that goes

pub same_text : (x y : Text) → ◌≡◌ {A = Option Text} (Some x) (Some y) → x ≡ y
same_text x y e = cc

module _ (S : State) (q v t : Text) where
  unnamed : at S.tags (q, t) ≡ None → (b : Bool) → among is (tags_of S q v) t ≡ b → b ≡ false
  unnamed stood true f = let none : None ≡ Some v = sym stood ∙ names_where_among S q v t f in absurd (cc)
  unnamed stood false f = refl

  named_alike : (w : Text) → at S.tags (q, t) ≡ Some w → (b : Bool) → is v w ≡ b → among is (tags_of S q v) t ≡ b
  named_alike w stood true f = among_where_names S q v t (stood ∙ ap (λ x. Some x) (sym (is_true v w f)))
  named_alike w stood false f = apart_where_others S q v t (λ named. true≢false (sym (ap (is v) (same_text w v (sym stood ∙ named)) ∙ is_self v) ∙ f))

  named_before : (old : Option Text) → at S.tags (q, t) ≡ old → among is (tags_of S q v) t ≡ is_named v old
  named_before None stood = unnamed stood (among is (tags_of S q v) t) refl
  named_before (Some w) stood = named_alike w stood (is v w) refl

  named_here : (p : Text) (old : Option Text) → at S.tags (p, t) ≡ old → (b : Bool) → is q p ≡ b → (b && among is (tags_of S q v) t) ≡ (b && is_named v old)
  named_here p old stood true e = named_before old (ap (λ r. at S.tags (r, t)) (is_true q p e) ∙ stood)
  named_here p old stood false e = refl

  -- what a tag names after they were freed, which named this before
  pub at-freed_by : (next : Option Text) (p : Text) (old : Option Text) → at S.tags (p, t) ≡ old
      → at (freed_tags S.tags q next (tags_of S q v)) (p, t) ≡ cond (is q p && is_named v old) (freed_value next t) old
  at-freed_by next p old stood =
      at-freed S.tags q next (tags_of S q v) p t ∙ ap₂ (λ (b : Bool) (o : Option Text). cond b (freed_value next t) o) (named_here p old stood (is q p) refl) stood
