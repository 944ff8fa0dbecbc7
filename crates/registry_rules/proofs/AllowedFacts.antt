-- What is known of a command in form that nothing refuses.
use Rattle.std.proofs.Common.{◌≡◌, ◌≢◌, ℕ, ◌≤◌, Bool, true, false, ◌&&◌, ◌||◌, not, is_none, is_some, Option, Some, None, refl, sym, ap, ◌∙◌, true≢false, if◌then◌else◌}
use Rattle.std.specs.Prelude.{IsSome, IsTrue}
use Rattle.registry_names.specs.Maps.{TextMap, at}
use Rattle.registry_names.specs.Moments.{last_second}
use Rattle.registry_names.specs.Tags.{is_tag}
use Rattle.registry_names.specs.Texts.{Text}
use Rattle.std.specs.Option.{option_or}
use Rattle.registry_names.specs.declared.refusal.Refusal.{Refusal}
use Rattle.registry_names.specs.declared.refusal.Refusal.TheVariants.{NotFound, Published, Spent, KeepsLatest, OtherScope, AlwaysPublic, Waiting}
use Rattle.registry_names.specs.declared.status.Status.{Status}
use Rattle.registry_names.specs.declared.status.Status.TheVariants.{Public, Restricted}
use Rattle.registry_names.proofs.KeyFacts.{text_key, same_true}
use Rattle.registry_names.specs.Names.{scope_of}
use Rattle.registry_names.specs.declared.refusal.Rule.TheVariants.{A5, A6}
use Rattle.registry_access.specs.Policy.{Verdict, for_known, where_found, by_rule, may_publish, may_publish_scoped, may_publish_unscoped}
use Rattle.registry_access.specs.Access.{Access}
use Rattle.registry_access.specs.Callers.{is_user}
use Rattle.registry_access.specs.Levels.{reads, writes}
use Rattle.registry_access.specs.Positions.{has_scope, level_by, level_at, position_in}
use Rattle.registry_access.specs.declared.grant.Grant.{Grant}
use Rattle.registry_access.specs.declared.caller.Caller.{Caller}
use Rattle.registry_access.specs.declared.caller.Caller.TheVariants.{Operator, User, Anonymous}
use Rattle.registry_publish.specs.Form.{FormParts}
use Rattle.registry_rules.specs.Actions.{version_of}
use Rattle.registry_rules.specs.Changes.{release_of}
use Rattle.registry_rules.specs.Effects.{new_status}
use Rattle.registry_rules.specs.Kept.{IsReleaseOf}
use Rattle.registry_rules.specs.Refusals.{is_restricted, publish_refusal, refuse, grant_refusal, is_scope, unless_allowed, unless_new, unless_there, refusal_by, state_refusal}
use Rattle.registry_rules.specs.Permissions.{permission}
use Rattle.registry_rules.specs.declared.request.Action.{Action}
use Rattle.registry_rules.specs.Requests.{ArePartsInForm}
use Rattle.registry_rules.specs.State.{State, Release, is_spent}
use Rattle.registry_names.proofs.PutFacts.{put_there}
use Rattle.registry_rules.proofs.PublishedFacts.{statuses_after, status_of}

pub record IsAllowed (S : State) (p v t : Text) (release : Release) (status : Option Status) : Type 0 where
  pub is_release : IsReleaseOf p v release
  pub is_tagged : IsTrue (is_tag t)
  pub is_new : is_spent S p v ≡ false
  pub has_status : IsSome (at (statuses_after S.access.statuses p status) p)
  pub is_public : scope_of p ≡ None → status ≢ Some Restricted

has_new_status : (m : TextMap Status) (p : Text) (asked old : Option Status) → at m p ≡ old → IsSome (at (statuses_after m p (new_status asked old p)) p)
has_new_status m p (Some s) old e = put_there text_key m p s
has_new_status m p None (Some s) e = ap is_some e
has_new_status m p None None e = put_there text_key m p _

-- a version that may be published was never withdrawn, and its package isn't restricted where it
-- has no scope
publish_passed : (live spent closed waits : Bool) → refuse live Published (refuse spent Spent (refuse closed AlwaysPublic (refuse waits Waiting None))) ≡ None → (spent ≡ false) × (closed ≡ false)
publish_passed true b c d h = cc
publish_passed false true c d h = cc
publish_passed false false true d h = cc
publish_passed false false false true h = cc
publish_passed false false false false h = (refl, refl)

new_is_public : (p : Text) (asked old : Option Status) → (is_restricted asked && is_none (scope_of p)) ≡ false → scope_of p ≡ None → new_status asked old p ≢ Some Restricted
new_is_public p (Some Restricted) old may u e = true≢false (sym (ap is_none u) ∙ may)
new_is_public p (Some Public) old may u e = cc
new_is_public p None (Some s) may u e = cc
new_is_public p None None may u e = public (scope_of p) u e
  where
    public : (o : Option Text) → o ≡ None → Some (if is_some o then Restricted else Public) ≢ Some Restricted
    public None h e = cc
    public (Some s) h e = cc

-- a publish leaves its package with a status, and one that nothing refuses restricts no package
-- without a scope
pub published_has_status : (S : State) (f : FormParts) → IsSome (at (statuses_after S.access.statuses f.name (status_of S f)) f.name)
published_has_status S f = has_new_status S.access.statuses f.name f.access _ refl

pub may_be_public : (S : State) (now : ℕ) (f : FormParts) → publish_refusal S now f ≡ None → scope_of f.name ≡ None → status_of S f ≢ Some Restricted
may_be_public S now f may = new_is_public f.name f.access _ (publish_passed _ (is_spent S f.name (version_of f)) _ _ may).1

pub allowed_publish : (S : State) (f : FormParts) (now : ℕ) → ArePartsInForm f → now ≤ last_second → publish_refusal S now f ≡ None
    → IsAllowed S f.name (version_of f) f.tag (release_of f now) (status_of S f)
allowed_publish S f now form moment may = let passed = publish_passed _ (is_spent S f.name (version_of f)) _ _ may in record {
  is_release = record { name = form.name; version = f.version; is_version = form.version; manifest = form.manifest; at = moment; message = refl };
  is_tagged = form.tag;
  is_new = passed.0;
  has_status = published_has_status S f;
  is_public = may_be_public S now f may;
}

-- what is asked for is there
pub is_there : (found : Bool) → unless_there found ≡ None → found ≡ true
is_there true h = refl
is_there false h = cc

-- a tag that may go isn't `latest`
pub isnt_kept : (there latest : Bool) → refuse (not there) NotFound (refuse latest KeepsLatest None) ≡ None → latest ≡ false
isnt_kept false b h = cc
isnt_kept true true h = cc
isnt_kept true false h = refl

-- a user whose token may be added is there
pub user_there : (there taken : Bool) → refuse (not there) NotFound (unless_new taken) ≡ None → there ≡ true
user_there true b h = refl
user_there false b h = cc

-- what isn't refused passes the test, and the tests after it
pub passed : (b : Bool) (r : Refusal) (rest : Option Refusal) → refuse b r rest ≡ None → (b ≡ false) × (rest ≡ None)
passed true r rest h = cc
passed false r rest h = (refl, h)

pub not_false : (b : Bool) → not b ≡ false → b ≡ true
not_false true h = refl
not_false false h = cc

-- for whom the policy has a rule where something is found, for them it is there
pub found_there : (who : Caller) (there : Bool) (rest : Verdict) → unless_allowed (for_known who (where_found there rest)) ≡ None → there ≡ true
found_there who true rest h = refl
found_there Operator false rest h = cc
found_there (User u) false rest h = cc
found_there Anonymous false rest h = cc

-- a package that somebody reads was published
readable : (status : Option Status) (may_write : Bool) (grant : Option Grant) → reads (level_by status may_write grant) ≡ true → IsSome status
readable None may_write grant h = absurd (true≢false (sym h))
readable (Some s) may_write grant h = refl

pub published_where_read : (A : Access) (who : Caller) (p : Text) → reads (level_at (position_in A who p)) ≡ true → IsSome (at A.statuses p)
published_where_read A who p h = readable (at A.statuses p) _ _ h

-- the organisation of a publish's scope is there
pub scope_there : (A : Access) (who : Caller) (p o : Text) → scope_of p ≡ Some o → unless_allowed (may_publish who (is_some (scope_of p)) (position_in A who p)) ≡ None → IsSome (at A.organisations o)
scope_there A who p o scoped may =
    sym (ap (has_scope A) scoped)
    ∙ found_there who (has_scope A (scope_of p)) _
    (sym (ap (λ b. unless_allowed (if b then may_publish_scoped who (position_in A who p) else may_publish_unscoped who (position_in A who p))) (ap is_some scoped)) ∙ may)

-- who publishes a new package without a scope is a user
a_user : (who : Caller) → unless_allowed (for_known who (by_rule A5 (is_user who))) ≡ None → (u : Text) × (who ≡ User u)
a_user Operator h = cc
a_user (User u) h = (u, refl)
a_user Anonymous h = cc

pub publisher_is_user : (A : Access) (who : Caller) (p : Text) → scope_of p ≡ None → at A.statuses p ≡ None → unless_allowed (may_publish who (is_some (scope_of p)) (position_in A who p)) ≡ None
    → (u : Text) × (who ≡ User u)
publisher_is_user A who p unscoped none may =
    a_user who
    (sym (ap (λ o. unless_allowed (for_known who (if is_some o then by_rule A6 (writes (level_at (position_in A who p))) else by_rule A5 (is_user who)))) none)
    ∙ sym (ap (λ b. unless_allowed (if b then may_publish_scoped who (position_in A who p) else may_publish_unscoped who (position_in A who p))) (ap is_some unscoped)) ∙ may)

-- ---- grants

pub scope_is : (o : Text) (scope : Option Text) → is_scope o scope ≡ true → scope ≡ Some o
scope_is o None h = absurd (true≢false (sym h))
scope_is o (Some s) h = ap (λ (x : Text). Some x) (same_true text_key s o h)

grantable : (team published inside : Bool) → refuse (not team || (inside && not published)) NotFound (refuse (not inside) OtherScope None) ≡ None → (team ≡ true) × (published ≡ true) × (inside ≡ true)
grantable true true true h = (refl, refl, refl)
grantable true true false h = cc
grantable true false true h = cc
grantable true false false h = cc
grantable false published inside h = cc

pub may_grant : (team published : Bool) (o p : Text) → grant_refusal team published o p ≡ None → (team ≡ true) × (published ≡ true) × (scope_of p ≡ Some o)
may_grant team published o p h = let all = grantable team published (is_scope o (scope_of p)) h in (all.0, all.1, scope_is o (scope_of p) all.2)

-- a status that may be set is no restricted one of a package without a scope
pub status_allowed : (p : Text) (status : Status) → (is_restricted (Some status) && is_none (scope_of p)) ≡ false → scope_of p ≡ None → status ≢ Restricted
status_allowed p Restricted may unscoped e = true≢false (sym (ap is_none unscoped) ∙ may)
status_allowed p Public may unscoped e = cc

-- what neither of two reasons refuses isn't refused by one
pub first_passed : (a b : Option Refusal) → option_or a b ≡ None → a ≡ None
first_passed None b h = refl
first_passed (Some r) b h = cc

pub second_passed : (a b : Option Refusal) → option_or a b ≡ None → b ≡ None
second_passed None b h = h
second_passed (Some r) b h = cc

-- an action that nothing refuses is allowed by the policy, and nothing conflicts with it
pub policy_passed : (S : State) (now : ℕ) (who : Caller) (what : Action) → refusal_by S now who what ≡ None → unless_allowed (permission S.access who what) ≡ None
policy_passed S now who what = first_passed (unless_allowed (permission S.access who what)) (state_refusal S now what)

pub state_passed : (S : State) (now : ℕ) (who : Caller) (what : Action) → refusal_by S now who what ≡ None → state_refusal S now what ≡ None
state_passed S now who what = second_passed (unless_allowed (permission S.access who what)) (state_refusal S now what)
