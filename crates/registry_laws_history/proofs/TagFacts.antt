-- The tags are the history's, and name live versions; `latest` exists exactly where a version
-- lives.
use Rattle.std.proofs.Common.{◌≡◌, ◌⊎◌, inl, inr, ℕ, Bool, true, false, cond, ◌&&◌, ◌||◌, List, [], ◌∷◌, refl, sym, ap, ◌∙◌, subst, true≢false, Some, None, Option, is_some, is_none, if◌then◌else◌}
use Rattle.std.proofs.lemmas.Bool.{and_from, and_right}
use Rattle.registry_names.specs.Greatest.{greatest}
use Rattle.registry_names.specs.Tags.{latest}
use Rattle.registry_names.specs.Texts.{Text, is}
use Rattle.registry_names.specs.Maps.{among, at, erase}
use Rattle.registry_names.specs.Versions.{VersionParts, text_of_version}
use Rattle.registry_names.proofs.GreatestFacts.{greatest_is, greatest_stands, same_greatest}
use Rattle.registry_names.proofs.TextFacts.{is_true, is_self, is_sym}
use Rattle.registry_names.proofs.KeyFacts.{pair_key}
use Rattle.registry_names.proofs.MapFacts.{at-empty, at-erase, at-erase_other, at-put}
use Rattle.registry_names.proofs.PutFacts.{each_left, each_put, still_there}
use Rattle.registry_rules.specs.Actions.{version_of}
use Rattle.registry_rules.specs.State.{State, Release, nothing, is_live, stands}
use Rattle.registry_rules.specs.Refusals.{refusal_by}
use Rattle.registry_rules.specs.Withdrawals.{live_versions, others, selected}
use Rattle.registry_rules.specs.declared.request.Action.{Action}
use Rattle.registry_rules.specs.declared.request.Action.TheVariants.{Publish, TagSet, TagRemove, Withdraw, WithdrawAll, Deprecate}
use Rattle.registry_access.specs.declared.caller.Caller.{Caller}
use Rattle.registry_rules.proofs.AllowedFacts.{is_there, isnt_kept, state_passed}
use Rattle.registry_rules.proofs.WholeFacts.{whole_left, whole_live, whole_tags}
use Rattle.registry_rules.proofs.WithdrawnFacts.{at-marked, freed_gone, freed_latest, freed_names, freed_value}
use Rattle.registry_laws_history.specs.History.{Entry, Legal, after}
use Rattle.registry_laws_history.specs.Readings.{or_before, is_named, other_tag, latest_tag, remaining, HasTags, HasVersions}
use Rattle.registry_laws_history.proofs.FreedFacts.{among_others, among_remaining, at-freed_by, same_text}
use Rattle.registry_laws_history.proofs.LeftFacts.{left_by, left_is, taken}
use Rattle.registry_laws_history.proofs.PublishFacts.{at-live, at-tags, may_withdraw}
use Rattle.registry_laws_history.proofs.VersionFacts.{has_versions, marked_stands, put_before, removed_after}

-- ---- a tag after a publish; `here` says that it is of this package, `alike` that it is the
-- form's, `newest` that it is `latest`, and `stood` that `latest` existed

other_after : (set kept here newest : Bool) (v : Text) (old said : Option Text) → newest ≡ false → old ≡ said
    → cond set (Some v) (cond kept old (cond (here && newest) (Some v) old)) ≡ or_before (cond set (Some v) None) said
other_after true kept here newest v old said e same = refl
other_after false true here newest v old said e same = same
other_after false false true true v old said e same = absurd (true≢false e)
other_after false false true false v old said e same = same
other_after false false false newest v old said e same = same

latest_after : (here alike stood newest : Bool) (v : Text) (old said : Option Text) → newest ≡ true → (here ≡ true → stood ≡ is_some old) → old ≡ said
    → cond (here && alike) (Some v) (cond (stood || alike) old (cond (here && newest) (Some v) old)) ≡ or_before (cond (here && (alike || is_none said)) (Some v) None) said
latest_after true true stood newest v old said e there same = refl
latest_after true false true newest v old None e there same = absurd (true≢false (there refl ∙ ap is_some same))
latest_after true false true newest v old (Some w) e there same = same
latest_after true false false true v old None e there same = refl
latest_after true false false true v old (Some w) e there same = absurd (true≢false (sym (there refl ∙ ap is_some same)))
latest_after true false false false v old said e there same = absurd (true≢false (sym e))
latest_after false alike true newest v old said e there same = same
latest_after false true false newest v old said e there same = same
latest_after false false false newest v old said e there same = same

-- a tag names what was published, or what it named before
named_after : (here alike kept newest : Bool) (v w : Text) (old : Option Text) → cond (here && alike) (Some v) (cond kept old (cond (here && newest) (Some v) old)) ≡ Some w
    → ((here ≡ true) × (v ≡ w)) ⊎ (old ≡ Some w)
named_after true true kept newest v w old e = inl (refl, cc)
named_after true false true newest v w old e = inr e
named_after true false false true v w old e = inl (refl, cc)
named_after true false false false v w old e = inr e
named_after false alike true newest v w old e = inr e
named_after false alike false newest v w old e = inr e

lives_after : (b : Bool) (r : Release) (old : Option Release) → (b ≡ true) ⊎ (is_some old ≡ true) → is_some (cond b (Some r) old) ≡ true
lives_after true r old h = refl
lives_after false r old (inl e) = absurd (true≢false (sym e))
lives_after false r old (inr e) = e

stands_after : (here same alike stood newest : Bool) (v : Text) (r : Release) (lived : Option Release) (old : Option Text)
    → newest ≡ true → (here ≡ true → stood ≡ is_some old) → (is_some lived ≡ true → is_some old ≡ true) → is_some (cond (here && same) (Some r) lived) ≡ true
    → is_some (cond (here && alike) (Some v) (cond (stood || alike) old (cond (here && newest) (Some v) old))) ≡ true
stands_after true same true stood newest v r lived old n there still lives = refl
stands_after true same false true newest v r lived old n there still lives = sym (there refl)
stands_after true same false false true v r lived old n there still lives = refl
stands_after true same false false false v r lived old n there still lives = absurd (true≢false (sym n))
stands_after false same alike true newest v r lived old n there still lives = still lives
stands_after false same true false newest v r lived old n there still lives = still lives
stands_after false same false false newest v r lived old n there still lives = still lives

-- ---- a tag after a withdrawal; `here` says that it is of this package, `w` is the version that
-- goes, and `next` the one that `latest` names then, if it named that one

-- `latest` names the greatest that remains, if it named the version
latest_left : (here : Bool) (w : Text) (next rest said : Option Text) → (here ≡ true → next ≡ rest)
    → cond (here && is_named w said) (freed_value next latest) said ≡ cond (here && is_named w said) rest said
latest_left true w next rest None same = refl
latest_left true w next rest (Some x) same = ap (λ o. cond (is w x) o (Some x)) (freed_latest next ∙ same refl)
latest_left false w next rest said same = refl

-- what a tag names is the next version, or what it named before, and that isn't the version that
-- goes
named_left : (here : Bool) (w t x : Text) (next old : Option Text) (lives : Bool) → (here ≡ true → next ≡ Some x → lives ≡ true) → (old ≡ Some x → (here && is w x) ≡ false → lives ≡ true)
    → cond (here && is_named w old) (freed_value next t) old ≡ Some x → lives ≡ true
named_left true w t x next None lives moved stays e = let none : None ≡ Some x = e in absurd (cc)
named_left true w t x next (Some y) lives moved stays e = by_name (is w y) refl e
  where
    by_name : (b : Bool) → is w y ≡ b → cond b (freed_value next t) (Some y) ≡ Some x → lives ≡ true
    by_name true f g = moved refl (freed_names next t x g).1
    by_name false f g = stays g (ap (is w) (sym (same_text y x g)) ∙ f)
named_left false w t x next old lives moved stays e = stays e refl

-- `latest` exists where it existed, and there is a next version where it named the one that goes
stands_left : (here : Bool) (w : Text) (next old : Option Text) → is_some old ≡ true → (here ≡ true → is_some next ≡ true)
    → is_some (cond (here && is_named w old) (freed_value next latest) old) ≡ true
stands_left here w next None stood more = absurd (true≢false (sym stood))
stands_left true w next (Some x) stood more = by_name (is w x)
  where
    by_name : (b : Bool) → is_some (cond b (freed_value next latest) (Some x)) ≡ true
    by_name true = ap is_some (freed_latest next) ∙ more refl
    by_name false = refl
stands_left false w next (Some x) stood more = refl

lived_before : (b : Bool) (old : Option Release) → is_some (cond b None old) ≡ true → is_some old ≡ true
lived_before true old h = absurd (true≢false (sym h))
lived_before false old h = h

-- ---- the induction

-- of `latest`, and of each other tag, the history speaks apart
record Tagged (h : List Entry) (S : State) : Type 0 where
  newest : (p : Text) → at S.tags (p, latest) ≡ latest_tag h p
  other : (p t : Text) → is t latest ≡ false → at S.tags (p, t) ≡ other_tag h p t
  named : (p t v : Text) → at S.tags (p, t) ≡ Some v → is_live S p v ≡ true
  stands : (p v : Text) → is_live S p v ≡ true → is_some (at S.tags (p, latest)) ≡ true

tagged_nil : Tagged [] nothing
tagged_nil = record {
  newest = λ p. at-empty pair_key (p, latest);
  other = λ p t apart. at-empty pair_key (p, t);
  named = λ p t v e. let none : None ≡ Some v = sym (at-empty pair_key (p, t)) ∙ e in absurd (cc);
  stands = λ p v lives. absurd (true≢false (sym lives ∙ ap is_some (at-empty {X = Release} pair_key (p, v))));
}

-- a withdrawal of a version that lived, which leaves the versions of which the history speaks
tagged_taken : (now : ℕ) (who : Caller) (q : Text) (v : VersionParts) (h : List Entry) (S : State) (old : Option Release) → is_some old ≡ true → Tagged h S
    → HasVersions (record { at = now; who = who; what = Withdraw q v } ∷ h) (taken S now q (text_of_version v) old)
    → Tagged (record { at = now; who = who; what = Withdraw q v } ∷ h) (taken S now q (text_of_version v) old)
tagged_taken now who q v h S None lived has versions = absurd (true≢false (sym lived))
tagged_taken now who q v h S (Some r) lived has versions =
    let w = text_of_version v in
    let grown : List Entry = record { at = now; who = who; what = Withdraw q v } ∷ h in
    let next = greatest (others (live_versions S q) w) in
    let rest : next ≡ greatest (remaining grown q) =
    same_greatest (others (live_versions S q) w) (remaining grown q) (λ u. among_others S.live q w u ∙ versions.live (q, u) ∙ sym (among_remaining grown q u)) in
    let is_left = λ (p : Text) (x : Text). is_some (at (erase S.live (q, w)) (p, x)) in
    let same = λ (p : Text) (x : Text) (e : is q p ≡ true). ap (λ r. is_left r x) (is_true q p e) in
    record {
      newest = λ p. at-freed_by S q w latest next p _ (has.newest p)
          ∙ latest_left (is q p) w next (greatest (remaining grown p)) _ (λ e. rest ∙ ap (λ r. greatest (remaining grown r)) (is_true q p e));
      other = λ p t apart. at-freed_by S q w t next p _ (has.other p t apart)
          ∙ ap (λ o. cond (is q p && is_named w (other_tag h p t)) o (other_tag h p t)) (freed_gone next t apart);
      named = λ p t x e. named_left (is q p) w t x next (at S.tags (p, t)) (is_left p x)
          (λ here f. sym (same p x here) ∙ sym (among_others S.live q w x) ∙ (greatest_is (others (live_versions S q) w) x f).member)
          (λ f apart. ap is_some (at-erase_other pair_key S.live (q, w) (p, x) apart) ∙ has.named p t x f)
          (sym (at-freed_by S q w t next p _ refl) ∙ e);
      stands = λ p x lives. ap is_some (at-freed_by S q w latest next p _ refl)
          ∙ stands_left (is q p) w next (at S.tags (p, latest))
          (has.stands p x (lived_before (is q p && is w x) _ (ap is_some (sym (at-erase pair_key S.live (q, w) (p, x))) ∙ lives)))
          (λ here. greatest_stands (others (live_versions S q) w) x (among_others S.live q w x ∙ same p x here ∙ lives));
    }

-- a list in which nothing is, is empty
none_among : (xs : List Text) → ((u : Text) → among is xs u ≡ false) → xs ≡ []
none_among [] none = refl
none_among (x ∷ xs) none = absurd (true≢false (sym (ap (λ b. b || among is xs x) (is_self x)) ∙ none x))

left_tag : (b : Bool) (old : Option Text) (v : Text) → cond b None old ≡ Some v → (b ≡ false) × (old ≡ Some v)
left_tag true old v e = cc
left_tag false old v e = (refl, e)

left_live : (b : Bool) (old : Option Release) → is_some (cond b None old) ≡ true → (b ≡ false) × (is_some old ≡ true)
left_live true old e = absurd (true≢false (sym e))
left_live false old e = (refl, e)

latest_whole : (here : Bool) (next old said : Option Text) → (here ≡ true → next ≡ None) → old ≡ said → cond here None old ≡ (if here then next else said)
latest_whole true next old said none same = sym (none refl)
latest_whole false next old said none same = same

-- the withdrawal of all versions of a package
tagged_whole : (now : ℕ) (who : Caller) (q : Text) (h : List Entry) (S : State) → Tagged h S
    → HasVersions (record { at = now; who = who; what = WithdrawAll q } ∷ h) (whole_left S now q)
    → Tagged (record { at = now; who = who; what = WithdrawAll q } ∷ h) (whole_left S now q)
unfolding greatest
tagged_whole now who q h S has versions =
    let grown : List Entry = record { at = now; who = who; what = WithdrawAll q } ∷ h in
    let gone = λ (p : Text) (u : Text). whole_live S now q p u in
    let none_left = λ (p : Text) (here : is q p ≡ true). none_among (remaining grown p)
    (λ u. among_remaining grown p u ∙ sym (versions.live (p, u)) ∙ ap is_some (gone p u ∙ ap (λ b. cond b None (at S.live (p, u))) here)) in
    let still = λ (p : Text) (u : Text) (other : is q p ≡ false). gone p u ∙ ap (λ b. cond b None (at S.live (p, u))) other in
    record {
      newest = λ p. whole_tags S now q p latest
          ∙ latest_whole (is q p) (greatest (remaining grown p)) _ (latest_tag h p) (λ here. ap greatest (none_left p here)) (has.newest p);
      other = λ p t apart. whole_tags S now q p t ∙ removed_after (is q p) _ _ (has.other p t apart);
      named = λ p t v e.
          let old = left_tag (is q p) (at S.tags (p, t)) v (sym (whole_tags S now q p t) ∙ e) in
          ap is_some (still p v old.0) ∙ has.named p t v old.1;
      stands = λ p v lives.
          let old = left_live (is q p) (at S.live (p, v)) (sym (ap is_some (gone p v)) ∙ lives) in
          ap is_some (whole_tags S now q p latest ∙ ap (λ b. cond b None (at S.tags (p, latest))) old.0) ∙ has.stands p v old.1;
    }

tagged_step : (now : ℕ) (who : Caller) (c : Action) (h : List Entry) (S : State) → Tagged h S → refusal_by S now who c ≡ None
    → HasVersions (record { at = now; who = who; what = c } ∷ h) (left_by S now who c)
    → Tagged (record { at = now; who = who; what = c } ∷ h) (left_by S now who c)
tagged_step now who (Publish f) h S has ok versions =
    let there : (p : Text) → is f.name p ≡ true → is_some (at S.tags (f.name, latest)) ≡ is_some (at S.tags (p, latest)) =
    λ p e. ap (λ q. is_some (at S.tags (q, latest))) (is_true f.name p e) in
    record {
      newest = λ p. at-tags S now who f (p, latest)
          ∙ latest_after (is f.name p) (is f.tag latest) _ (is latest latest) (version_of f) _ _ (is_self latest) (there p) (has.newest p);
      other = λ p t apart. at-tags S now who f (p, t)
          ∙ other_after (is f.name p && is f.tag t) _ (is f.name p) (is latest t) (version_of f) _ _ (is_sym latest t ∙ apart) (has.other p t apart);
      named = λ p t v e. ap is_some (at-live S now who f (p, v)) ∙ lives_after _ _ _
          (elim (named_after (is f.name p) (is f.tag t) _ (is latest t) (version_of f) v _ (sym (at-tags S now who f (p, t)) ∙ e)) [
            | inl new ↦ inl (and_from _ _ new.0 (ap (is (version_of f)) (sym new.1) ∙ is_self (version_of f)))
            | inr old ↦ inr (has.named p t v old)
          ]);
      stands = λ p v lives. ap is_some (at-tags S now who f (p, latest))
          ∙ stands_after (is f.name p) (is (version_of f) v) (is f.tag latest) _ (is latest latest) (version_of f) _ _ _ (is_self latest) (there p) (has.stands p v)
          (ap is_some (sym (at-live S now who f (p, v))) ∙ lives);
    }
tagged_step now who (TagSet q u v) h S has ok versions =
    let w = text_of_version v in
    record {
      newest = λ p. at-put pair_key S.tags (q, u) w (p, latest) ∙ put_before (is q p && is u latest) w _ _ (has.newest p);
      other = λ p t apart. at-put pair_key S.tags (q, u) w (p, t) ∙ put_before (is q p && is u t) w _ _ (has.other p t apart);
      named = λ p t x e. each_put pair_key S.tags (q, u) w (λ k y. is_live S k.0 y ≡ true) (λ k y. has.named k.0 k.1 y) (is_there _ (state_passed S now who (TagSet q u v) ok)) (p, t) x e;
      stands = λ p x lives. still_there pair_key S.tags (q, u) w (p, latest) (has.stands p x lives);
    }
tagged_step now who (TagRemove q u) h S has ok versions =
    let other : is u latest ≡ false = isnt_kept (stands S q u) (is u latest) (state_passed S now who (TagRemove q u) ok) in
    let apart = λ (p : Text). at-erase_other pair_key S.tags (q, u) (p, latest) (and_right (is q p) (is u latest) other) in
    record {
      newest = λ p. apart p ∙ has.newest p;
      other = λ p t e. at-erase pair_key S.tags (q, u) (p, t) ∙ removed_after (is q p && is u t) _ _ (has.other p t e);
      named = λ p t v e. has.named p t v (each_left pair_key S.tags (q, u) (p, t) v e);
      stands = λ p v lives. ap is_some (apart p) ∙ has.stands p v lives;
    }
tagged_step now who (Withdraw q v) h S has ok versions =
    tagged_taken now who q v h S (at S.live (q, text_of_version v)) (may_withdraw S now who q v ok) has versions
tagged_step now who (WithdrawAll q) h S has ok versions = tagged_whole now who q h S has versions
tagged_step now who (Deprecate q conditions message) h S has ok versions =
    let vs = selected (live_versions S q) conditions in
    let same = λ (p : Text) (v : Text). ap is_some (at-marked S.live q message vs p v) ∙ marked_stands (is q p && among is vs v) message (at S.live (p, v)) in
    record {
      newest = has.newest;
      other = has.other;
      named = λ p t v e. same p v ∙ has.named p t v e;
      stands = λ p v lives. has.stands p v (sym (same p v) ∙ lives);
    }
tagged_step now who _ h S has ok versions = record { newest = has.newest; other = has.other; named = has.named; stands = has.stands }

all_tagged : (h : List Entry) → Legal h → Tagged h (after h)
all_tagged [] legal = tagged_nil
all_tagged (e ∷ h) legal =
    let left = left_is (after h) e.at e.who e.what in
    subst (Tagged (e ∷ h)) (sym left) (tagged_step e.at e.who e.what h (after h) (all_tagged h legal.3) legal.1 (subst (HasVersions (e ∷ h)) left (has_versions (e ∷ h) legal)))

-- ---- what the record of the readings says

tag_is : (h : List Entry) (S : State) → Tagged h S → (p t : Text) (b : Bool) → is t latest ≡ b → at S.tags (p, t) ≡ cond b (latest_tag h p) (other_tag h p t)
tag_is h S has p t true e = ap (λ u. at S.tags (p, u)) (is_true t latest e) ∙ has.newest p
tag_is h S has p t false e = has.other p t e

there : {X : Type 0} (o : Option X) → is_some o ≡ true → (x : X) × (o ≡ Some x)
there None e = absurd (true≢false (sym e))
there (Some x) e = (x, refl)

pub has_tags : (h : List Entry) → Legal h → HasTags h (after h)
has_tags h legal =
    let has = all_tagged h legal in
    record {
      tags = λ p t. tag_is h (after h) has p t _ refl;
      named = has.named;
      stands = λ p. (
        λ stood. let v = there (at (after h).tags (p, latest)) stood in (v.0, has.named p latest v.0 v.1),
        λ lives. has.stands p lives.0 lives.1,
      );
    }
