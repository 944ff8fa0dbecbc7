-- What the withdrawal of all versions of a package leaves, each map by itself.
use Rattle.std.proofs.Common.{◌≡◌, ℕ, ◌≤◌, Bool, true, false, cond, ◌&&◌, ◌||◌, All, List, [], ◌∷◌, map, is_some, Option, Some, None, option_map, refl, sym, ap, ◌∙◌, subst, true≢false}
use Rattle.std.proofs.lemmas.List.Elements.{All-cons, All-head, All-nil, All-tail}
use Rattle.std.specs.Prelude.{IsTrue}
use Rattle.registry_names.specs.Maps.{PairMap, among, at, put, erase, keys, of}
use Rattle.registry_names.specs.Moments.{last_second}
use Rattle.registry_names.specs.Tags.{latest}
use Rattle.registry_names.specs.Texts.{Text, is}
use Rattle.registry_names.proofs.KeyFacts.{text_key, pair_key, same_true, same_self}
use Rattle.registry_names.proofs.MapFacts.{at-put, at-erase}
use Rattle.registry_names.proofs.PartFacts.{any-part, part_found}
use Rattle.registry_rules.specs.Changes.{DropTag, RetireVersion, all_made}
use Rattle.registry_rules.specs.Effects.{withdrawal_of_all}
use Rattle.registry_rules.specs.Kept.{IsKept, IsWithdrawalOf}
use Rattle.registry_rules.specs.Operations.{retired, without_tag}
use Rattle.registry_rules.specs.State.{State, Release, Withdrawal, is_live}
use Rattle.registry_rules.specs.Withdrawals.{all_tags, live_since}
use Rattle.registry_rules.proofs.WithdrawnFacts.{made_then}

-- one of the keys went first, and then the others
pub gone_joined : {X : Type 0} (here first later : Bool) (old : Option X) → cond (here && later) None (cond (here && first) None old) ≡ cond (here && (first || later)) None old
gone_joined true true true old = refl
gone_joined true true false old = refl
gone_joined true false later old = refl
gone_joined false first later old = refl

none_here : {X : Type 0} (b : Bool) (x y : X) → y ≡ cond (b && false) x y
none_here true x y = refl
none_here false x y = refl

-- ---- the tags

abbrev pub without_tags : PairMap Text → Text → List Text → PairMap Text
without_tags m p [] = m
without_tags m p (t ∷ ts) = without_tags (erase m (p, t)) p ts

tags_dropped : (S : State) (p : Text) (ts : List Text) → all_made S (map (DropTag p) ts) ≡ record S { tags = without_tags S.tags p ts }
tags_dropped S p [] = refl
tags_dropped S p (t ∷ ts) = tags_dropped (without_tag S p t) p ts

pub at-without_tags : (m : PairMap Text) (p : Text) (ts : List Text) (q u : Text) → at (without_tags m p ts) (q, u) ≡ cond (is p q && among is ts u) None (at m (q, u))
at-without_tags m p [] q u = none_here (is p q) _ _
at-without_tags m p (t ∷ ts) q u =
    at-without_tags (erase m (p, t)) p ts q u
    ∙ ap (λ (o : Option Text). cond (is p q && among is ts u) None o) (at-erase pair_key m (p, t) (q, u))
    ∙ gone_joined (is p q) (is t u) (among is ts u) (at m (q, u))

-- ---- the versions

abbrev pub without_live : PairMap Release → Text → List (Text × ℕ) → PairMap Release
without_live m p [] = m
without_live m p (e ∷ es) = without_live (erase m (p, e.0)) p es

-- both moments of a version
abbrev pub moments_at : ℕ → ℕ → Withdrawal
moments_at now published = record { published = published; withdrawn = now }

abbrev pub with_spent : PairMap Withdrawal → ℕ → Text → List (Text × ℕ) → PairMap Withdrawal
with_spent m now p [] = m
with_spent m now p (e ∷ es) = with_spent (put m (p, e.0) (moments_at now e.1)) now p es

all_retired : (S : State) (now : ℕ) (p : Text) (es : List (Text × ℕ))
    → all_made S (map (λ (e : Text × ℕ). RetireVersion p e.0 e.1 now) es) ≡ record S { live = without_live S.live p es; spent = with_spent S.spent now p es }
all_retired S now p [] = refl
all_retired S now p (e ∷ es) = all_retired (retired S p e.0 e.1 now) now p es

pub at-without_live : (m : PairMap Release) (p : Text) (es : List (Text × ℕ)) (q u : Text) → at (without_live m p es) (q, u) ≡ cond (is p q && among is (keys es) u) None (at m (q, u))
at-without_live m p [] q u = none_here (is p q) _ _
at-without_live m p (e ∷ es) q u =
    at-without_live (erase m (p, e.0)) p es q u
    ∙ ap (λ (o : Option Release). cond (is p q && among is (keys es) u) None o) (at-erase pair_key m (p, e.0) (q, u))
    ∙ gone_joined (is p q) (is e.0 u) (among is (keys es) u) (at m (q, u))

-- the version was published at its moment; and each of these
abbrev IsSince : (Text → Option ℕ) → Text × ℕ → Type 0
IsSince since e = since e.0 ≡ Some e.1

abbrev AreSince : (Text → Option ℕ) → List (Text × ℕ) → Type 0
AreSince since es = All (IsSince since) es

module _ (now : ℕ) (p : Text) (since : Text → Option ℕ) where
  spent_joined : (e : Text × ℕ) (q u : Text) (later : Bool) (old : Option Withdrawal) → since e.0 ≡ Some e.1 → (here first : Bool) → is e.0 u ≡ first
      → cond (here && later) (option_map (moments_at now) (since u)) (cond (here && first) (Some (moments_at now e.1)) old) ≡ cond (here && (first || later)) (option_map (moments_at now) (since u)) old
  spent_joined e q u true old is_since true true named = refl
  spent_joined e q u false old is_since true true named = sym (ap (option_map (moments_at now)) (ap since (sym (same_true text_key e.0 u named)) ∙ is_since))
  spent_joined e q u later old is_since true false named = refl
  spent_joined e q u later old is_since false first named = refl

  pub at-with_spent : (m : PairMap Withdrawal) (es : List (Text × ℕ)) → AreSince since es → (q u : Text)
      → at (with_spent m now p es) (q, u) ≡ cond (is p q && among is (keys es) u) (option_map (moments_at now) (since u)) (at m (q, u))
  at-with_spent m [] are q u = none_here (is p q) _ _
  at-with_spent m (e ∷ es) are q u =
      at-with_spent (put m (p, e.0) (moments_at now e.1)) es (All-tail (IsSince since) e es are) q u
      ∙ ap (λ (o : Option Withdrawal). cond (is p q && among is (keys es) u) (option_map (moments_at now) (since u)) o) (at-put pair_key m (p, e.0) (moments_at now e.1) (q, u))
      ∙ spent_joined e q u (among is (keys es) u) (at m (q, u)) (All-head (IsSince since) e es are) (is p q) (is e.0 u) refl

-- ---- all of it

module _ (S : State) (now : ℕ) (p : Text) where
  abbrev pub whole_left : State
  whole_left = record S { live = without_live S.live p (live_since S p); spent = with_spent S.spent now p (live_since S p); tags = without_tags S.tags p (all_tags S p) }

  pub whole_is : all_made S (withdrawal_of_all now p (live_since S p) (all_tags S p)) ≡ whole_left
  whole_is =
      made_then S (map (DropTag p) (all_tags S p)) (map (λ (e : Text × ℕ). RetireVersion p e.0 e.1 now) (live_since S p))
      ∙ ap (λ T. all_made T (map (λ (e : Text × ℕ). RetireVersion p e.0 e.1 now) (live_since S p))) (tags_dropped S p (all_tags S p))
      ∙ all_retired (record S { tags = without_tags S.tags p (all_tags S p) }) now p (live_since S p)

  -- when a version was published, if it lives
  abbrev pub since_when : Text → Option ℕ
  since_when u = option_map (λ (r : Release). r.at) (at S.live (p, u))

  keys_since : (es : List (Text × Release)) → keys (map (λ (e : Text × Release). (e.0, e.1.at)) es) ≡ keys es
  keys_since [] = refl
  keys_since (e ∷ es) = ap (λ l. e.0 ∷ l) (keys_since es)

  pub among_since : (u : Text) → among is (keys (live_since S p)) u ≡ is_live S p u
  among_since u = ap (λ l. among is l u) (keys_since (of S.live p)) ∙ any-part text_key S.live p u

  abbrev LivesAs : Text × Release → Type 0
  LivesAs e = at S.live (p, e.0) ≡ Some e.1

  since_each : (es : List (Text × Release)) → All LivesAs es → AreSince since_when (map (λ (e : Text × Release). (e.0, e.1.at)) es)
  since_each [] all = All-nil (IsSince since_when)
  since_each (e ∷ es) all = All-cons (IsSince since_when) (e.0, e.1.at) (map (λ (x : Text × Release). (x.0, x.1.at)) es) (ap (option_map (λ (r : Release). r.at)) {y = Some e.1} (All-head LivesAs e es all)) (since_each es (All-tail LivesAs e es all))

  cond_stood : {X : Type 0} (b : Bool) (o : Option X) → cond (b && is_some o) None o ≡ cond b None o
  cond_stood true (Some x) = refl
  cond_stood true None = refl
  cond_stood false o = refl

  -- a key of this package, or of another
  pub here_or : {X : Type 0} (q u : Text) (m : PairMap X) (b : Bool) → is p q ≡ b → cond (b && is_some (at m (p, u))) None (at m (q, u)) ≡ cond b None (at m (q, u))
  here_or q u m true e = ap (λ r. cond (is_some (at m (r, u))) None (at m (q, u))) (same_true text_key p q e) ∙ cond_stood true (at m (q, u))
  here_or q u m false e = refl

  -- nothing of the package lives
  pub whole_live : (q u : Text) → at whole_left.live (q, u) ≡ cond (is p q) None (at S.live (q, u))
  whole_live q u =
      at-without_live S.live p (live_since S p) q u ∙ ap (λ b. cond (is p q && b) None (at S.live (q, u))) (among_since u) ∙ here_or q u S.live (is p q) refl

  -- and no tag of it is left
  pub whole_tags : (q u : Text) → at whole_left.tags (q, u) ≡ cond (is p q) None (at S.tags (q, u))
  whole_tags q u =
      at-without_tags S.tags p (all_tags S p) q u ∙ ap (λ b. cond (is p q && b) None (at S.tags (q, u))) (any-part text_key S.tags p u) ∙ here_or q u S.tags (is p q) refl

  -- each that lived is spent
  pub whole_spent : (q u : Text) → at whole_left.spent (q, u) ≡ cond (is p q && is_live S p u) (option_map (moments_at now) (since_when u)) (at S.spent (q, u))
  whole_spent q u =
      at-with_spent now p since_when S.spent (live_since S p) (since_each (of S.live p) (part_found text_key S.live p)) q u
      ∙ ap (λ b. cond (is p q && b) (option_map (moments_at now) (since_when u)) (at S.spent (q, u))) (among_since u)

-- ---- what is kept

module _ (S : State) (now : ℕ) (p : Text) (moment : now ≤ last_second) (kept : IsKept S) where
  left_from : {X : Type 0} (b : Bool) (o : Option X) (x : X) → cond b None o ≡ Some x → o ≡ Some x
  left_from true o x e = cc
  left_from false o x e = e

  left_other : {X : Type 0} (b : Bool) (o : Option X) (x : X) → cond b None o ≡ Some x → b ≡ false
  left_other true o x e = cc
  left_other false o x e = refl

  lives_from : (b : Bool) (o : Option Release) → is_some (cond b None o) ≡ true → is_some o ≡ true
  lives_from true o e = absurd (true≢false (sym e))
  lives_from false o e = e

  lives_other : (b : Bool) (o : Option Release) → is_some (cond b None o) ≡ true → b ≡ false
  lives_other true o e = absurd (true≢false (sym e))
  lives_other false o e = refl

  gone_still : (b : Bool) (o : Option Release) → is_some o ≡ false → is_some (cond b None o) ≡ false
  gone_still true o e = refl
  gone_still false o e = e

  abbrev T : State
  T = whole_left S now p

  lived_before : (q v : Text) → IsTrue (is_live T q v) → IsTrue (is_live S q v)
  lived_before q v h = lives_from (is p q) (at S.live (q, v)) (sym (ap is_some (whole_live S now p q v)) ∙ h)

  lives_still : (q v : Text) → is p q ≡ false → IsTrue (is_live S q v) → IsTrue (is_live T q v)
  lives_still q v e h = ap is_some (whole_live S now p q v ∙ ap (λ b. cond b None (at S.live (q, v))) e) ∙ h

  tag_still : (q t : Text) → is p q ≡ false → at T.tags (q, t) ≡ at S.tags (q, t)
  tag_still q t e = whole_tags S now p q t ∙ ap (λ b. cond b None (at S.tags (q, t))) e

  -- a version that was withdrawn now
  spent_now : (q v : Text) (release : Release) (w : Withdrawal) → p ≡ q → at S.live (p, v) ≡ Some release → moments_at now release.at ≡ w → IsWithdrawalOf T q v w
  spent_now q v release w here stood same =
      subst (λ r. IsWithdrawalOf T r v w) here (subst (IsWithdrawalOf T p v) same (let was = kept.live p v release stood in record {
        name = was.name;
        version = (was.version, was.is_version);
        published = was.at;
        withdrawn = moment;
        status = kept.status p v (ap is_some stood);
        gone = ap is_some (whole_live S now p p v ∙ ap (λ b. cond b None (at S.live (p, v))) (same_self text_key p));
      }))

  spent_left : (q v : Text) (w : Withdrawal) (here : Bool) → is p q ≡ here → (old : Option Release) → at S.live (p, v) ≡ old
      → cond (here && is_some old) (option_map (moments_at now) (option_map (λ (r : Release). r.at) old)) (at S.spent (q, v)) ≡ Some w → IsWithdrawalOf T q v w
  spent_left q v w true e (Some release) stood h = spent_now q v release w (same_true text_key p q e) stood (let same : moments_at now release.at ≡ w = cc in same)
  spent_left q v w true e None stood h = spent_before q v w h
    where
      spent_before : (q v : Text) (w : Withdrawal) → at S.spent (q, v) ≡ Some w → IsWithdrawalOf T q v w
      spent_before q v w h = let was = kept.spent q v w h in record {
        name = was.name;
        version = was.version;
        published = was.published;
        withdrawn = was.withdrawn;
        status = was.status;
        gone = ap is_some (whole_live S now p q v) ∙ gone_still (is p q) (at S.live (q, v)) was.gone;
      }
  spent_left q v w false e old stood h = let was = kept.spent q v w h in record {
    name = was.name;
    version = was.version;
    published = was.published;
    withdrawn = was.withdrawn;
    status = was.status;
    gone = ap is_some (whole_live S now p q v) ∙ gone_still (is p q) (at S.live (q, v)) was.gone;
  }

  pub whole_kept : IsKept T
  whole_kept = record {
    live = λ q v r h. kept.live q v r (left_from (is p q) (at S.live (q, v)) r (sym (whole_live S now p q v) ∙ h));
    spent = λ q v w h. spent_left q v w (is p q) refl (at S.live (p, v)) refl (sym (whole_spent S now p q v) ∙ h);
    tags = λ q t v h.
        let named = left_from (is p q) (at S.tags (q, t)) v (sym (whole_tags S now p q t) ∙ h) in
        let other = left_other (is p q) (at S.tags (q, t)) v (sym (whole_tags S now p q t) ∙ h) in
        let tag = kept.tags q t v named in
        record { name = tag.name; tag = tag.tag; live = lives_still q v other tag.live };
    status = λ q v h. kept.status q v (lived_before q v h);
    latest = λ q v h.
        let other = lives_other (is p q) (at S.live (q, v)) (sym (ap is_some (whole_live S now p q v)) ∙ h) in
        ap is_some (tag_still q latest other) ∙ kept.latest q v (lived_before q v h);
    spelled = kept.spelled;
    sound = kept.sound;
  }
