-- What a publish needs, and what is at each key after commands.
use Rattle.std.proofs.Common.{◌≡◌, ℕ, Bool, true, false, cond, ◌&&◌, ◌||◌, refl, ap, ◌∙◌, Some, None, Option, option_map, is_none, is_some}
use Rattle.registry_names.specs.Tags.{latest}
use Rattle.registry_names.specs.Texts.{Text, is}
use Rattle.registry_names.specs.Versions.{VersionParts, text_of_version}
use Rattle.registry_names.specs.Keys.{Pair, pair_is}
use Rattle.registry_names.specs.Maps.{TextMap, PairMap, at}
use Rattle.registry_names.specs.Names.{scope_of}
use Rattle.registry_names.specs.declared.refusal.Refusal.{Refusal}
use Rattle.registry_names.specs.declared.status.Status.{Status}
use Rattle.registry_names.proofs.KeyFacts.{text_key, pair_key}
use Rattle.registry_names.proofs.MapFacts.{at-put}
use Rattle.registry_access.specs.declared.caller.Caller.{Caller}
use Rattle.registry_publish.specs.Form.{FormParts}
use Rattle.registry_rules.specs.Actions.{version_of}
use Rattle.registry_rules.specs.Changes.{release_of}
use Rattle.registry_rules.specs.Effects.{new_status}
use Rattle.registry_rules.specs.Refusals.{refuse, is_restricted, publish_refusal, refusal_by, withdraw_refusal}
use Rattle.registry_rules.specs.State.{State, Release, is_live, is_spent, stands}
use Rattle.registry_rules.specs.Withdrawals.{published_at}
use Rattle.registry_rules.specs.declared.request.Action.TheVariants.{Publish, Withdraw}
use Rattle.registry_rules.proofs.AllowedFacts.{state_passed}
use Rattle.registry_rules.proofs.PublishedFacts.{latest_put, statuses_after}
use Rattle.registry_laws_history.specs.Readings.{or_before}
use Rattle.registry_laws_history.proofs.LeftFacts.{left_by}

-- ---- what no refusal says

pub passes : (b : Bool) (r : Refusal) (rest : Option Refusal) → refuse b r rest ≡ None → (b ≡ false) × (rest ≡ None)
passes true r rest e = absurd (cc)
passes false r rest e = (refl, e)

-- The version neither lives nor was withdrawn, and the package isn't restricted without a scope.
pub publish_passes : (S : State) (now : ℕ) (f : FormParts) → publish_refusal S now f ≡ None
    → (is_live S f.name (version_of f) ≡ false) × (is_spent S f.name (version_of f) ≡ false) × ((is_restricted f.access && is_none (scope_of f.name)) ≡ false)
publish_passes S now f ok =
    let free = passes _ _ _ ok in
    let unspent = passes _ _ _ free.1 in
    (free.0, unspent.0, (passes _ _ _ unspent.1).0)

-- a version that may be withdrawn lives
withdraw_passes : (now : ℕ) (published : Option ℕ) (depended : Bool) → withdraw_refusal now published depended ≡ None → is_some published ≡ true
withdraw_passes now None depended ok = cc
withdraw_passes now (Some published) depended ok = refl

has_moment : (old : Option Release) → is_some (option_map (λ (r : Release). r.at) old) ≡ true → is_some old ≡ true
has_moment None e = e
has_moment (Some r) e = refl

pub may_withdraw : (S : State) (now : ℕ) (who : Caller) (p : Text) (v : VersionParts) → refusal_by S now who (Withdraw p v) ≡ None → is_some (at S.live (p, text_of_version v)) ≡ true
may_withdraw S now who p v ok = has_moment _ (withdraw_passes now (published_at S p (text_of_version v)) _ (state_passed S now who (Withdraw p v) ok))

-- ---- what is left

at-statuses_after : (m : TextMap Status) (p : Text) (o : Option Status) (q : Text) → at (statuses_after m p o) q ≡ or_before (cond (is p q) o None) (at m q)
at-statuses_after m p None q = unsaid (is p q) (at m q)
  where
    unsaid : (b : Bool) (old : Option Status) → old ≡ or_before (cond b None None) old
    unsaid true old = refl
    unsaid false old = refl
at-statuses_after m p (Some status) q = at-put text_key m p status q ∙ said (is p q) (at m q)
  where
    said : (b : Bool) (old : Option Status) → cond b (Some status) old ≡ or_before (cond b (Some status) None) old
    said true old = refl
    said false old = refl

at-latest_put : (m : PairMap Text) (p v : Text) (kept : Bool) (k : Pair) → at (latest_put m p v kept) k ≡ cond kept (at m k) (cond (pair_is (p, latest) k) (Some v) (at m k))
at-latest_put m p v true k = refl
at-latest_put m p v false k = at-put pair_key m (p, latest) v k

-- what a tag names once `latest` is set where it is missing, and then the tag of the form
abbrev pub tagged : State → Text → Text → Text → Pair → Option Text
tagged S p v t k =
    cond (pair_is (p, t) k) (Some v) (cond (stands S p latest || is t latest) (at S.tags k) (cond (pair_is (p, latest) k) (Some v) (at S.tags k)))

module _ (S : State) (now : ℕ) (who : Caller) (f : FormParts) where
  -- what a publish leaves
  abbrev pub left : State
  left = left_by S now who (Publish f)

  pub at-live : (k : Pair) → at left.live k ≡ cond (pair_is (f.name, version_of f) k) (Some (release_of f now)) (at S.live k)
  at-live k = at-put pair_key S.live (f.name, version_of f) (release_of f now) k

  pub at-statuses : (p : Text) → at left.access.statuses p ≡ or_before (cond (is f.name p) (new_status f.access (at S.access.statuses f.name) f.name) None) (at S.access.statuses p)
  at-statuses p = at-statuses_after S.access.statuses f.name _ p

  pub at-tags : (k : Pair) → at left.tags k ≡ tagged S f.name (version_of f) f.tag k
  at-tags k =
      at-put pair_key (latest_put S.tags f.name (version_of f) _) (f.name, f.tag) (version_of f) k
      ∙ ap (cond (pair_is (f.name, f.tag) k) (Some (version_of f))) (at-latest_put S.tags f.name (version_of f) _ k)
