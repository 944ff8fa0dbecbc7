-- A withdrawal and a deprecation keep what holds of all that the registry holds.
use Rattle.std.proofs.Common.{◌≡◌, ℕ, ◌≤◌, Bool, true, false, cond, not, ◌&&◌, List, is_some, Option, Some, None, refl, sym, ap, ◌∙◌, subst, true≢false}
use Rattle.std.proofs.lemmas.Bool.{and_parts, and_from}
use Rattle.std.specs.Prelude.{IsSome, IsTrue}
use Rattle.registry_names.specs.Greatest.{greatest}
use Rattle.registry_names.specs.Keys.{Pair, pair_is}
use Rattle.registry_names.specs.Maps.{among, at}
use Rattle.registry_names.specs.Messages.{is_message}
use Rattle.registry_names.specs.Moments.{last_second}
use Rattle.registry_names.specs.Names.{IsName}
use Rattle.registry_names.specs.Tags.{latest}
use Rattle.registry_names.specs.Texts.{Text, is}
use Rattle.registry_names.specs.Versions.{VersionParts, IsVersionOf, text_of_version}
use Rattle.registry_names.proofs.GreatestFacts.{greatest_is, greatest_stands}
use Rattle.registry_names.proofs.KeyFacts.{text_key, pair_key, same_true, same_self, same_sym}
use Rattle.registry_names.proofs.MapFacts.{at-erase, at-erase_same, at-erase_other}
use Rattle.registry_names.proofs.PartFacts.{any-part}
use Rattle.registry_names.proofs.PutFacts.{each_put, each_left}
use Rattle.registry_rules.specs.Changes.{all_made}
use Rattle.registry_rules.specs.Kept.{IsReleaseOf, IsWithdrawalOf, IsTagOf, IsKept}
use Rattle.registry_rules.specs.Operations.{retired}
use Rattle.registry_rules.specs.State.{State, Release, Withdrawal, is_live}
use Rattle.registry_rules.specs.Withdrawals.{live_versions, others, tags_of}
use Rattle.registry_rules.proofs.WithdrawnFacts.{among_passing, among_where_names, at-freed, at-marked, freed_latest, freed_names, freed_tags, freed_value, marked_all, marked_value, names_where_among, withdrawal_of, withdrawn_is}

-- what is erased was there before, and what didn't exist doesn't then
stood_before : {X : Type 0} (b : Bool) (old : Option X) → IsSome (cond b None old) → IsSome old
stood_before true old h = absurd (true≢false (sym h))
stood_before false old h = h

stays_none : {X : Type 0} (b : Bool) (old : Option X) → is_some old ≡ false → is_some (cond b None old) ≡ false
stays_none true old e = refl
stays_none false old e = e

is_left : {X : Type 0} (a b : Bool) (old : Option X) → a ≡ true → IsSome (cond (a && b) None old) → b ≡ false
is_left true true old e h = absurd (true≢false (sym h))
is_left true false old e h = refl
is_left false b old e h = absurd (true≢false (sym e))

not_true : (b : Bool) → not b ≡ true → b ≡ false
not_true true h = absurd (true≢false (sym h))
not_true false h = refl

second_false : (a b : Bool) → b ≡ false → (a && b) ≡ false
second_false true b e = e
second_false false b e = refl

module _ (S : State) (now : ℕ) (p v : Text) (release : Release) (stood : at S.live (p, v) ≡ Some release) (kept : IsKept S) where
  abbrev next : Option Text
  next = greatest (others (live_versions S p) v)

  abbrev left : State
  left = retired (record S { tags = freed_tags S.tags p next (tags_of S p v) }) p v release.at now

  lived_before : (k : Pair) → IsSome (at left.live k) → IsSome (at S.live k)
  lived_before k h = stood_before (pair_is (p, v) k) (at S.live k) (sym (ap is_some (at-erase pair_key S.live (p, v) k)) ∙ h)

  still_lives : (k : Pair) → pair_is (p, v) k ≡ false → IsSome (at S.live k) → IsSome (at left.live k)
  still_lives k e h = ap is_some (at-erase_other pair_key S.live (p, v) k e) ∙ h

  -- the next version is another one, and lives
  next_lives : (w : Text) → next ≡ Some w → IsSome (at left.live (p, w))
  next_lives w e =
      let member = (greatest_is (others (live_versions S p) v) w e).member in
      let parts = and_parts (not (is w v)) (among is (live_versions S p) w) (sym (among_passing (λ u. not (is u v)) (live_versions S p) w) ∙ member) in
      still_lives (p, w) (second_false (is p p) (is v w) (same_sym text_key v w ∙ not_true (is w v) parts.0)) (sym (any-part text_key S.live p w) ∙ parts.1)

  -- there is a next one where another lives
  next_stands : (w : Text) → IsSome (at left.live (p, w)) → IsSome next
  next_stands w h =
      let other = is_left (is p p) (is v w) (at S.live (p, w)) (same_self text_key p) (sym (ap is_some (at-erase pair_key S.live (p, v) (p, w))) ∙ h) in
      greatest_stands (others (live_versions S p) v) w
      (among_passing (λ u. not (is u v)) (live_versions S p) w ∙ and_from (not (is w v)) (among is (live_versions S p) w) (ap not (same_sym text_key w v ∙ other)) (any-part text_key S.live p w ∙ lived_before (p, w) h))

  -- whether the tag is one of those that named the version
  abbrev was_named : Text → Text → Bool
  was_named q u = is p q && among is (tags_of S p v) u

  tag_left : (q u w : Text) (b : Bool) → was_named q u ≡ b → cond b (freed_value next u) (at S.tags (q, u)) ≡ Some w → IsTagOf left q u w
  tag_left q u w true named e =
      let parts = and_parts (is p q) (among is (tags_of S p v) u) named in
      let moved = freed_names next u w e in
      let tag = kept.tags p u v (names_where_among S p v u parts.1) in
      subst (λ r. IsTagOf left r u w) (same_true text_key p q parts.0) (record { name = tag.name; tag = tag.tag; live = next_lives w moved.1 })
  tag_left q u w false named e =
      let tag = kept.tags q u w e in
      record { name = tag.name; tag = tag.tag; live = still_lives (q, w) (by_package (is p q) (is v w) refl refl) tag.live }
    where
      by_package : (a b : Bool) → is p q ≡ a → is v w ≡ b → (a && b) ≡ false
      by_package false b f g = refl
      by_package true false f g = refl
      by_package true true f g =
          let here = same_true text_key p q f in
          let names = ap (λ r. at S.tags (r, u)) here ∙ e ∙ ap (λ x. Some x) (sym (same_true text_key v w g)) in
          sym (and_from (is p q) (among is (tags_of S p v) u) f (among_where_names S p v u names)) ∙ named

  latest_left : (q w : Text) → IsSome (at left.live (q, w)) → (b : Bool) → was_named q latest ≡ b → IsSome (cond b (freed_value next latest) (at S.tags (q, latest)))
  latest_left q w h true named =
      let parts = and_parts (is p q) (among is (tags_of S p v) latest) named in
      ap is_some (freed_latest next) ∙ next_stands w (ap (λ r. is_some (at left.live (r, w))) (same_true text_key p q parts.0) ∙ h)
  latest_left q w h false named = kept.latest q w (lived_before (q, w) h)

  old_spent : (k : Pair) (w : Withdrawal) → at S.spent k ≡ Some w → IsWithdrawalOf left k.0 k.1 w
  old_spent k w e = let was = kept.spent k.0 k.1 w e in record {
    name = was.name;
    version = was.version;
    published = was.published;
    withdrawn = was.withdrawn;
    status = was.status;
    gone = ap is_some (at-erase pair_key S.live (p, v) k) ∙ stays_none (pair_is (p, v) k) (at S.live k) was.gone;
  }

  pub retired_kept : (version : VersionParts) → IsName p → IsVersionOf v version → now ≤ last_second → IsKept left
  retired_kept version name is_version moment = record {
    live = λ q w r h. kept.live q w r (each_left pair_key S.live (p, v) (q, w) r h);
    spent = λ q w withdrawal h. each_put pair_key S.spent (p, v) (record { published = release.at; withdrawn = now }) (λ k x. IsWithdrawalOf left k.0 k.1 x) old_spent (record {
      name = name;
      version = (version, is_version);
      published = (kept.live p v release stood).at;
      withdrawn = moment;
      status = kept.status p v (ap is_some stood);
      gone = ap is_some (at-erase_same pair_key S.live (p, v));
    }) (q, w) withdrawal h;
    tags = λ q u w h. tag_left q u w (was_named q u) refl (sym (at-freed S.tags p next (tags_of S p v) q u) ∙ h);
    status = λ q w h. kept.status q w (lived_before (q, w) h);
    latest = λ q w h. ap is_some (at-freed S.tags p next (tags_of S p v) q latest) ∙ latest_left q w h (was_named q latest) refl;
    spelled = kept.spelled;
    sound = kept.sound;
  }

pub withdrawal_kept : (S : State) (now : ℕ) (p : Text) (v : VersionParts) (old : Option Release) → at S.live (p, text_of_version v) ≡ old → now ≤ last_second → IsName p → IsVersionOf (text_of_version v) v
    → IsKept S → IsKept (all_made S (withdrawal_of S now p (text_of_version v) old))
withdrawal_kept S now p v None stood moment name is_version kept = kept
withdrawal_kept S now p v (Some release) stood moment name is_version kept =
    subst IsKept (sym (withdrawn_is S now p (text_of_version v) release.at (greatest (others (live_versions S p) (text_of_version v))) (tags_of S p (text_of_version v))))
    (retired_kept S now p (text_of_version v) release stood kept v name is_version moment)

-- ---- a deprecation

marked_release : (p v message : Text) → IsTrue (is_message message) → (b : Bool) (old : Option Release) (r : Release) → ((x : Release) → old ≡ Some x → IsReleaseOf p v x)
    → cond b (marked_value message old) old ≡ Some r → IsReleaseOf p v r
marked_release p v message form b None r was e = by_test b e
  where
    by_test : (b : Bool) → cond b (marked_value message None) None ≡ Some r → IsReleaseOf p v r
    by_test true f = cc
    by_test false f = cc
marked_release p v message form false (Some x) r was e = was r e
marked_release p v message form true (Some x) r was e =
    let same : record x { message = message } ≡ r = cc in
    let old = was x refl in
    subst (IsReleaseOf p v) same (record { name = old.name; version = old.version; is_version = old.is_version; manifest = old.manifest; at = old.at; message = form })

marked_stands : (b : Bool) (message : Text) (old : Option Release) → is_some (cond b (marked_value message old) old) ≡ is_some old
marked_stands true message (Some r) = refl
marked_stands true message None = refl
marked_stands false message old = refl

module _ (S : State) (p message : Text) (vs : List Text) where
  abbrev T : State
  T = record S { live = marked_all S.live p message vs }

  same_lives : (q v : Text) → is_live T q v ≡ is_live S q v
  same_lives q v = ap is_some (at-marked S.live p message vs q v) ∙ marked_stands (is p q && among is vs v) message (at S.live (q, v))

  pub deprecated_kept : IsTrue (is_message message) → IsKept S → IsKept T
  deprecated_kept form kept = record {
    live = λ q v r h. marked_release q v message form (is p q && among is vs v) (at S.live (q, v)) r (kept.live q v) (sym (at-marked S.live p message vs q v) ∙ h);
    spent = λ q v w h. let was = kept.spent q v w h in
        record { name = was.name; version = was.version; published = was.published; withdrawn = was.withdrawn; status = was.status; gone = same_lives q v ∙ was.gone };
    tags = λ q t v h. let tag = kept.tags q t v h in record { name = tag.name; tag = tag.tag; live = same_lives q v ∙ tag.live };
    status = λ q v h. kept.status q v (sym (same_lives q v) ∙ h);
    latest = λ q v h. kept.latest q v (sym (same_lives q v) ∙ h);
    spelled = kept.spelled;
    sound = kept.sound;
  }
