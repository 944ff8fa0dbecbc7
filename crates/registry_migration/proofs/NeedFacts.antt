-- Needs that are stored with their ranges, one version after another, and dropped without.
use Rattle.std.proofs.Common.{◌≡◌, ◌∙◌, ◌+◌, ◌<◌, ℕ, Bool, true, false, cond, ◌&&◌, ◌||◌, List, [], ◌∷◌, ◌++◌, Option, Some, None, get_or, is_some, length, option_map, take, refl, sym, ap, ap₂, subst, true≢false}
use Rattle.std.proofs.lemmas.List.{take_more}
use Rattle.std.specs.Prelude.{IsSome, option_and_then}
use Rattle.registry_names.specs.Keys.{Pair, pair_is}
use Rattle.registry_names.specs.Texts.{Text}
use Rattle.registry_names.specs.Maps.{among, at, empty, entries, erase, keys}
use Rattle.registry_names.proofs.KeyFacts.{pair_key, same_true}
use Rattle.registry_names.proofs.MapFacts.{at-empty, at-erase, same_map}
use Rattle.registry_publish.specs.Needs.{needs_of}
use Rattle.registry_publish.specs.declared.need.Need.{Need}
use Rattle.registry_rows.specs.TextKeys.{Texts, TextsMap, texts_are}
use Rattle.registry_rows.proofs.TextKeyFacts.{texts_key}
use Rattle.registry_tables.specs.Contents.{Contents, LiveVersion}
use Rattle.registry_tables.specs.Needs.{is_needed, names_if_any, names_range, with_needs}
use Rattle.registry_tables.proofs.HeldNeedFacts.{at-with_needs}
use Rattle.registry_migration.specs.Steps.{HasDropped, HasNoRanges, HasPut, PutsNeeds, PutsNeedsOf, without_target, without_targets}
use Rattle.registry_migration.proofs.KeyFacts.{among_all, among_more}

-- ---- needs with their ranges

pub none_put : (c : Contents) → HasNoRanges c → HasPut [] c c
none_put c none = record {
  others = refl;
  stored = λ p v target range. ap (λ (m : TextsMap 3 (Unit {0})). is_some (at m (p, (v, (target, range))))) none ∙ ap is_some (at-empty (texts_key 3) (p, (v, (target, range))));
  readable = λ k release h e. absurd (true≢false (sym h));
}

module _ (ks : List Pair) (k : Pair) (before mid new : Contents) (so_far : HasPut ks before mid) (one : PutsNeedsOf k mid new) where
  abbrev more : List Pair
  more = ks ++ k ∷ []

  as_before : (q : Pair) → at mid.versions q ≡ at before.versions q
  as_before q = ap (λ (c : Contents). at c.versions q) so_far.others

  needed : (target range : Text) → is_needed before.versions k.0 k.1 target range ≡ names_range target range one.needs
  needed target range =
      ap (λ (o : Option LiveVersion). names_if_any target range (option_and_then (λ release. needs_of release.manifest) o)) (sym (as_before k) ∙ one.lives) ∙ ap (names_if_any target range) one.read

  is_more : (a n : Bool) → (n || (a && n)) ≡ ((a || true) && n)
  is_more true true = refl
  is_more true false = refl
  is_more false true = refl
  is_more false false = refl

  as_was : (a n : Bool) → (a && n) ≡ ((a || false) && n)
  as_was true n = refl
  as_was false n = refl

  put_at : (p v target range : Text) → is_some (at new.need_ranges (p, (v, (target, range))))
      ≡ ((pair_is k (p, v) && names_range target range one.needs) || (among pair_is ks (p, v) && is_needed before.versions p v target range))
  put_at p v target range =
      ap (λ (c : Contents). is_some (at c.need_ranges (p, (v, (target, range))))) one.put ∙ at-with_needs mid.need_ranges k.0 k.1 one.needs p v target range
      ∙ ap (λ b. (pair_is k (p, v) && names_range target range one.needs) || b) (so_far.stored p v target range)

  stored_next : (p v target range : Text) → is_some (at new.need_ranges (p, (v, (target, range)))) ≡ (among pair_is more (p, v) && is_needed before.versions p v target range)
  stored_next p v target range = put_at p v target range ∙ each (pair_is k (p, v)) refl ∙ ap (λ b. b && is_needed before.versions p v target range) (sym (among_more pair_is ks k (p, v)))
    where
      each : (b : Bool) → pair_is k (p, v) ≡ b
          → ((b && names_range target range one.needs) || (among pair_is ks (p, v) && is_needed before.versions p v target range)) ≡ ((among pair_is ks (p, v) || pair_is k (p, v)) && is_needed before.versions p v target range)
      each true t =
          let names : names_range target range one.needs ≡ is_needed before.versions p v target range =
          sym (needed target range) ∙ ap (λ (q : Pair). is_needed before.versions q.0 q.1 target range) (same_true pair_key k (p, v) t) in
          ap (λ n. n || (among pair_is ks (p, v) && is_needed before.versions p v target range)) names ∙ is_more (among pair_is ks (p, v)) (is_needed before.versions p v target range)
          ∙ ap (λ b. (among pair_is ks (p, v) || b) && is_needed before.versions p v target range) (sym t)
      each false t =
          as_was (among pair_is ks (p, v)) (is_needed before.versions p v target range) ∙ ap (λ b. (among pair_is ks (p, v) || b) && is_needed before.versions p v target range) (sym t)

  or_not : (a : Bool) → (a || false) ≡ true → a ≡ true
  or_not true h = refl
  or_not false h = h

  readable_next : (q : Pair) (release : LiveVersion) → among pair_is more q ≡ true → at before.versions q ≡ Some release → IsSome (needs_of release.manifest)
  readable_next q release there e = each (pair_is k q) refl
    where
      each : (b : Bool) → pair_is k q ≡ b → IsSome (needs_of release.manifest)
      each true t =
          let same : Some one.release ≡ Some release = sym one.lives ∙ ap (at mid.versions) (same_true pair_key k q t) ∙ as_before q ∙ e in
          let is : one.release ≡ release = cc in
          subst (λ (o : Option (List Need)). IsSome o) (sym one.read ∙ ap (λ (r : LiveVersion). needs_of r.manifest) is) refl
      each false t = so_far.readable q release (or_not (among pair_is ks q) (ap (λ b. among pair_is ks q || b) (sym t) ∙ sym (among_more pair_is ks k q) ∙ there)) e

  pub one_put : HasPut more before new
  one_put = record {
    others = one.put ∙ ap (λ (c : Contents). record c { need_ranges = with_needs mid.need_ranges k.0 k.1 one.needs; needs = without_targets mid.needs k one.needs }) so_far.others
        ∙ ap₂ (λ (m : TextsMap 3 (Unit {0})) (n : TextsMap 2 (Unit {0})). record before { need_ranges = m; needs = n }) (sym (ap (λ (c : Contents). c.need_ranges) one.put)) (sym (ap (λ (c : Contents). c.needs) one.put));
    stored = stored_next;
    readable = readable_next;
  }

module _ (before after : Contents) (all : HasPut (keys (entries before.versions)) before after) where
  each_needed : (p v target range : Text) (o : Option LiveVersion) → at before.versions (p, v) ≡ o
      → (is_some o && names_if_any target range (option_and_then (λ release. needs_of release.manifest) o)) ≡ names_if_any target range (option_and_then (λ release. needs_of release.manifest) o)
  each_needed p v target range None e = refl
  each_needed p v target range (Some release) e = refl

  pub all_put : PutsNeeds before after
  all_put = record {
    others = all.others;
    needs = record {
      stored = λ p v target range.
          all.stored p v target range ∙ ap (λ b. b && is_needed before.versions p v target range) (among_all pair_key before.versions (p, v)) ∙ each_needed p v target range (at before.versions (p, v)) refl
          ∙ ap (λ (c : Contents). is_needed c.versions p v target range) (sym all.others);
    };
    readable = λ k release e. all.readable k release (among_all pair_key before.versions k ∙ ap is_some e) e;
  }

-- ---- a version's needs, call by call

in_row : (o : Option LiveVersion) (manifest : Text) → option_map (λ (r : LiveVersion). r.manifest) o ≡ Some manifest → (release : LiveVersion) × (o ≡ Some release) × (release.manifest ≡ manifest)
in_row None manifest found = absurd cc
in_row (Some r) manifest found = (r, refl, let same : Some r.manifest ≡ Some manifest = found in cc)

pub puts_one : (k : Pair) (manifest : Text) (needs : List Need) (a b c d : Contents) → b ≡ a → option_map (λ (r : LiveVersion). r.manifest) (at a.versions k) ≡ Some manifest → needs_of manifest ≡ Some needs
    → c ≡ record b { need_ranges = with_needs b.need_ranges k.0 k.1 needs } → d ≡ record c { needs = without_targets c.needs k needs } → PutsNeedsOf k a d
puts_one k manifest needs a b c d same found is c_is d_is = record {
  release = release.0;
  lives = release.1;
  needs = needs;
  read = ap needs_of release.2 ∙ is;
  put = d_is ∙ ap (λ (x : Contents). record x { needs = without_targets x.needs k needs }) (c_is ∙ ap (λ (x : Contents). record x { need_ranges = with_needs x.need_ranges k.0 k.1 needs }) same);
}
  where
    release : (r : LiveVersion) × (at a.versions k ≡ Some r) × (r.manifest ≡ manifest)
    release = in_row (at a.versions k) manifest found

-- ---- needs without

without_targets-more : (k : Pair) (needs : List Need) (need : Need) (m : TextsMap 2 (Unit {0})) → without_targets m k (needs ++ need ∷ []) ≡ without_target (without_targets m k needs) k.0 k.1 need.target
without_targets-more k [] need m = refl
without_targets-more k (first ∷ needs) need m = without_targets-more k needs need (without_target m k.0 k.1 first.target)

-- one more target of the list
pub targets_next : (k : Pair) (needs : List Need) (i : ℕ) (need : Need) (first mid new : Contents) → i < length needs → need ≡ get_or needs i need → mid ≡ record first { needs = without_targets first.needs k (take i needs) }
    → new ≡ record mid { needs = without_target mid.needs k.0 k.1 need.target } → new ≡ record first { needs = without_targets first.needs k (take (i + 1) needs) }
targets_next k needs i need first mid new within is_next so_far once =
    let more : take (i + 1) needs ≡ take i needs ++ need ∷ [] = take_more needs i need within ∙ ap (λ n. take i needs ++ n ∷ []) (sym is_next) in
    once ∙ ap (λ (c : Contents). record c { needs = without_target c.needs k.0 k.1 need.target }) so_far
    ∙ ap (λ m. record first { needs = m }) (sym (ap (without_targets first.needs k) more ∙ without_targets-more k (take i needs) need first.needs))

pub none_dropped : (c : Contents) → HasDropped [] c c
none_dropped c = record { others = refl; left = λ k. refl }

pub one_dropped : (ks : List (Texts 2)) (k : Texts 2) (before mid new : Contents) → HasDropped ks before mid → new ≡ record mid { needs = erase mid.needs k } → HasDropped (ks ++ k ∷ []) before new
one_dropped ks k before mid new so_far one = record {
  others = one ∙ ap (λ (c : Contents). record c { needs = erase mid.needs k }) so_far.others ∙ ap (λ m. record before { needs = m }) (sym (ap (λ (c : Contents). c.needs) one));
  left = λ q. ap (λ (c : Contents). at c.needs q) one ∙ at-erase (texts_key 2) mid.needs k q ∙ ap (cond (texts_are 2 k q) None) (so_far.left q)
      ∙ each (texts_are 2 k q) (among (texts_are 2) ks q) (at before.needs q) ∙ ap (λ b. cond b None (at before.needs q)) (sym (among_more (texts_are 2) ks k q));
}
  where
    each : (b a : Bool) (o : Option (Unit {0})) → cond b None (cond a None o) ≡ cond (a || b) None o
    each true true o = refl
    each true false o = refl
    each false true o = refl
    each false false o = refl

pub all_dropped : (before after : Contents) → HasDropped (keys (entries before.needs)) before after → after ≡ record before { needs = empty }
all_dropped before after all = all.others ∙ ap (λ m. record before { needs = m }) (same_map (texts_key 2) _ _ (λ k.
    all.left k ∙ ap (λ b. cond b None (at before.needs k)) (among_all (texts_key 2) before.needs k) ∙ gone (at before.needs k) ∙ sym (at-empty (texts_key 2) k)))
  where
    gone : (o : Option (Unit {0})) → cond (is_some o) None o ≡ None
    gone None = refl
    gone (Some u) = refl
