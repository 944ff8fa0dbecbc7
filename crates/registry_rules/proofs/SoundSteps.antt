-- References hold, from nothing on, through each action that nothing refuses.
-- Nothing is asked of how names are spelled.
use Rattle.std.proofs.Common.{◌≡◌, ℕ, Bool, true, false, not, ◌&&◌, List, is_none, is_some, Option, Some, None, sym, ap, ◌∙◌, subst, true≢false}
use Rattle.std.proofs.lemmas.Bool.{and_parts, and_right}
use Rattle.std.specs.Prelude.{IsSome}
use Rattle.registry_names.specs.Maps.{at, put, erase}
use Rattle.registry_names.specs.Names.{scope_of}
use Rattle.registry_names.specs.Texts.{Text, is}
use Rattle.registry_names.specs.Versions.{text_of_version}
use Rattle.registry_names.specs.declared.status.Status.{Status}
use Rattle.registry_names.specs.declared.refusal.Refusal.TheVariants.{NotFound, LastOwner, KeepsDevelopers, AlwaysPublic}
use Rattle.registry_names.specs.declared.refusal.Rule.TheVariants.{A2, A3, A6}
use Rattle.registry_names.proofs.KeyFacts.{text_key, pair_key, triple_key}
use Rattle.registry_names.proofs.MapFacts.{at-empty, at-put_same, at-put_other, at-erase_other}
use Rattle.registry_access.specs.Callers.{role_of}
use Rattle.registry_access.specs.Levels.{is_owner, is_owner_or_admin, reads, writes}
use Rattle.registry_access.specs.Policy.{by_rule, may_publish, may_write}
use Rattle.registry_access.specs.Positions.{has_organisation, level_at, position_in}
use Rattle.registry_access.specs.declared.caller.Caller.{Caller}
use Rattle.registry_access.specs.declared.grant.Grant as granted
use Rattle.registry_access.specs.declared.role.Role.{Role}
use Rattle.registry_access.specs.declared.role.Role.TheVariants.{Owner, Admin, Developer}
use Rattle.registry_publish.specs.Form.{FormParts}
use Rattle.registry_rules.specs.Callers.{is_known}
use Rattle.registry_rules.specs.Changes.{all_made}
use Rattle.registry_rules.specs.Effects.{ending, joining, maintaining, membership, publication, step_by}
use Rattle.registry_rules.specs.Operations.{with_grant, with_status, without_maintainer, without_member, without_team}
use Rattle.registry_rules.specs.Kept.{IsSound}
use Rattle.registry_rules.specs.Permissions.{permission}
use Rattle.registry_rules.specs.Refusals.{grant_refusal, is_restricted, publish_refusal, refusal_by, refuse, state_refusal, unless_allowed}
use Rattle.registry_rules.specs.State.{State, nothing, developers, tokens_of, has_other_maintainer, has_team, has_user, is_in_team, is_last_owner, is_member, has_maintainer, is_published}
use Rattle.registry_rules.specs.declared.request.Action.{Action}
use Rattle.registry_rules.specs.declared.request.Action.TheVariants as asked
use Rattle.registry_rules.specs.declared.request.Action.TheVariants.{UserAdd, TokenAdd, TokenRemove, TokensRemove, OrgCreate, OrgSet, OrgRemove, TeamCreate, TeamDestroy, TeamAdd, TeamRemove, Revoke, SetAccess, OwnerAdd, OwnerRemove, Publish, Withdraw, WithdrawAll, Deprecate}
use Rattle.registry_rules.proofs.AllowedFacts.{found_there, is_there, may_be_public, may_grant, not_false, passed, policy_passed, publisher_is_user, published_has_status, published_where_read, scope_there, state_passed, status_allowed, user_there}
use Rattle.registry_rules.proofs.OtherFacts.{not_the_last, other_maintainer}
use Rattle.registry_rules.proofs.PublishedFacts.{status_of, published_is}
use Rattle.registry_rules.specs.Withdrawals.{live_versions, selected}
use Rattle.registry_rules.proofs.SoundFacts as change
use Rattle.registry_rules.proofs.TokenFacts.{ended_all, ended_is, ended_left}
use Rattle.registry_rules.proofs.WholeFacts.{whole_is}
use Rattle.registry_rules.proofs.WithdrawnFacts.{deprecated_is, withdrawn_access}
use Rattle.registry_names.proofs.PutFacts.{each_left}
use Rattle.registry_rules.proofs.SoundFacts.{HasOwner, HasPublisher, user_added, token_added, tokens_left, organisation_created, role_given, member_joined, member_removed, team_created, team_destroyed, team_joined, team_left}

-- ---- nothing

pub none_there : {X : Type 0} (o : Option X) → o ≡ None → IsSome o → ⊥
none_there o e h = true≢false (sym h ∙ ap is_some e)

pub nothing_sound : IsSound nothing.access
nothing_sound = record {
  tokens = λ digest u h. absurd (none_there _ (at-empty text_key digest) (ap is_some h));
  roles = λ o u h. absurd (none_there _ (at-empty pair_key (o, u)) h);
  owners = λ o h. absurd (none_there _ (at-empty text_key o) h);
  first_teams = λ o h. absurd (none_there _ (at-empty text_key o) h);
  teams = λ o t h. absurd (none_there _ (at-empty pair_key (o, t)) h);
  team_members = λ o t u h. absurd (none_there _ (at-empty triple_key (o, (t, u))) h);
  grants = λ o t p h. absurd (none_there _ (at-empty triple_key (o, (t, p))) h);
  maintainers = λ p u h. absurd (none_there _ (at-empty pair_key (p, u)) h);
  unscoped = λ p u h. none_there _ (at-empty text_key p) (ap is_some h);
  maintained = λ p h. absurd (none_there _ (at-empty text_key p) h);
}

-- ---- tokens

pub ended_sound : (S : State) (ds : List Text) → IsSound S.access → IsSound (all_made S (ending ds)).access
ended_sound S ds sound = subst (λ (T : State). IsSound T.access) (sym (ended_is S ds)) (tokens_left S.access (ended_all S.access.tokens ds) (ended_left S.access.tokens ds) sound)

-- ---- members

-- an owner is left where the role is an owner's, or another one is
owner_given : (S : State) (o u : Text) (role : Role) → (not (is_owner (Some role)) && is_last_owner S o u) ≡ false → at S.access.roles (o, u) ≡ Some Owner → HasOwner (put S.access.roles (o, u) role) o
owner_given S o u Owner may e = (u, at-put_same pair_key S.access.roles (o, u) Owner)
owner_given S o u Admin may e = let other = not_the_last S o u may e in
    (other.0, at-put_other pair_key S.access.roles (o, u) Admin (o, other.0) (and_right (is o o) (is u other.0) other.1) ∙ other.2)
owner_given S o u Developer may e = let other = not_the_last S o u may e in
    (other.0, at-put_other pair_key S.access.roles (o, u) Developer (o, other.0) (and_right (is o o) (is u other.0) other.1) ∙ other.2)

owner_stays : (S : State) (o u : Text) → is_last_owner S o u ≡ false → at S.access.roles (o, u) ≡ Some Owner → HasOwner (erase S.access.roles (o, u)) o
owner_stays S o u may e = let other = not_the_last S o u may e in
    (other.0, at-erase_other pair_key S.access.roles (o, u) (o, other.0) (and_right (is o o) (is u other.0) other.1) ∙ other.2)

role_sound : (S : State) (o u : Text) (role : Role) (old : Option Role) → IsSome (at S.access.organisations o) → IsSome (at S.access.users u)
    → (at S.access.roles (o, u) ≡ Some Owner → HasOwner (put S.access.roles (o, u) role) o) → IsSound S.access → IsSound (all_made S (membership o u role old)).access
role_sound S o u role (Some r) organisation user left sound = role_given S.access o u role organisation user left sound
role_sound S o u role None organisation user left sound = member_joined S.access o u role organisation user left sound

set_sound : (S : State) (now : ℕ) (who : Caller) (o u : Text) (role : Role) → unless_allowed (permission S.access who (OrgSet o u role)) ≡ None → state_refusal S now (OrgSet o u role) ≡ None
    → IsSound S.access → IsSound (all_made S (membership o u role (at S.access.roles (o, u)))).access
set_sound S now who o u role policy may sound =
    let user = passed (not (has_user S u)) NotFound _ may in
    let owner = passed (not (is_owner (Some role)) && is_last_owner S o u) LastOwner None user.1 in
    role_sound S o u role (at S.access.roles (o, u)) (found_there who (has_organisation S.access o) (by_rule A2 (is_owner (role_of S.access who o))) policy) (not_false _ user.0)
    (owner_given S o u role owner.0) sound

removed_sound : (S : State) (now : ℕ) (o u : Text) → state_refusal S now (OrgRemove o u) ≡ None → IsSound S.access → IsSound (without_member S o u).access
removed_sound S now o u may sound =
    let member = passed (is_none (at S.access.roles (o, u))) NotFound _ may in
    let owner = passed (is_last_owner S o u) LastOwner None member.1 in
    member_removed S.access o u (owner_stays S o u owner.0) sound

-- ---- teams

team_sound : (S : State) (now : ℕ) (who : Caller) (o t : Text) → unless_allowed (permission S.access who (TeamCreate o t)) ≡ None → IsSound S.access → IsSound (record S.access { teams = put S.access.teams (o, t) tt })
team_sound S now who o t policy sound =
    team_created S.access o t (found_there who (has_organisation S.access o) (by_rule A3 (is_owner_or_admin (role_of S.access who o))) policy) sound

joined_sound : (S : State) (o t u : Text) (inside : Bool) → (has_team S o t && is_member S o u) ≡ true → IsSound S.access → IsSound (all_made S (joining o t u inside)).access
joined_sound S o t u true there sound = sound
joined_sound S o t u false there sound = let both = and_parts (has_team S o t) (is_member S o u) there in team_joined S.access o t u both.0 both.1 sound

destroyed_sound : (S : State) (now : ℕ) (o t : Text) → state_refusal S now (TeamDestroy o t) ≡ None → IsSound S.access → IsSound (without_team S o t).access
destroyed_sound S now o t may sound =
    let team = passed (not (has_team S o t)) NotFound _ may in
    let other = passed (is t developers) KeepsDevelopers None team.1 in
    team_destroyed S.access o t other.0 sound

-- ---- rights to a package

grant_sound : (S : State) (o t p : Text) (grant : granted.Grant) → grant_refusal (has_team S o t) (is_published S p) o p ≡ None → IsSound S.access → IsSound (with_grant S o t p grant).access
grant_sound S o t p grant may sound =
    let is = may_grant (has_team S o t) (is_published S p) o p may in
    change.grant_put S.access o t p grant (record { team = is.0; status = is.1; scope = is.2 }) sound

status_sound : (S : State) (who : Caller) (p : Text) (status : Status) → unless_allowed (may_write who (position_in S.access who p)) ≡ None
    → refuse (is_restricted (Some status) && is_none (scope_of p)) AlwaysPublic None ≡ None → IsSound S.access → IsSound (with_status S p status).access
status_sound S who p status policy may sound =
    let shut = passed (is_restricted (Some status) && is_none (scope_of p)) AlwaysPublic None may in
    let read = found_there who (reads (level_at (position_in S.access who p))) (by_rule A6 (writes (level_at (position_in S.access who p)))) policy in
    change.status_put S.access p status (published_where_read S.access who p read) (status_allowed p status shut.0) sound

owning_sound : (S : State) (p u : Text) (already : Bool) → IsSome (at S.access.statuses p) → IsSome (at S.access.users u) → IsSound S.access → IsSound (all_made S (maintaining p u already)).access
owning_sound S p u true was there sound = sound
owning_sound S p u false was there sound = change.owner_put S.access p u was there sound

disowned_sound : (S : State) (p u : Text) → refuse (not (has_maintainer S p u)) NotFound (refuse (not (has_other_maintainer S p u)) LastOwner None) ≡ None → IsSound S.access → IsSound (without_maintainer S p u).access
disowned_sound S p u may sound =
    let owner = passed (not (has_maintainer S p u)) NotFound _ may in
    let more = passed (not (has_other_maintainer S p u)) LastOwner None owner.1 in
    let other = other_maintainer S p u (not_false _ more.0) in
    change.owner_dropped S.access p u (other.0, ap is_some (at-erase_other pair_key S.access.maintainers (p, u) (p, other.0) (and_right (is p p) (is u other.0) other.1)) ∙ other.2) sound

-- ---- a publish

-- who publishes a new package may, and is known
publisher_there : (S : State) (who : Caller) (p : Text) → is_known S who ≡ true → unless_allowed (may_publish who (is_some (scope_of p)) (position_in S.access who p)) ≡ None → IsSound S.access → HasPublisher S.access who p
publisher_there S who p known policy sound = record {
  team = λ o scoped. sound.first_teams o (scope_there S.access who p o scoped policy);
  user = λ none unscoped. let user = publisher_is_user S.access who p unscoped none policy in (user.0, user.1, sym (ap (is_known S) user.1) ∙ known);
}

publish_sound : (S : State) (who : Caller) (f : FormParts) (now : ℕ) → is_known S who ≡ true → unless_allowed (permission S.access who (Publish f)) ≡ None → publish_refusal S now f ≡ None
    → IsSound S.access → IsSound (all_made S (publication S now who f)).access
publish_sound S who f now known policy may sound =
    subst (λ (T : State). IsSound T.access) (sym (published_is S who f now))
    (change.published S.access who f.name (status_of S f) (published_has_status S f) (may_be_public S now f may) (publisher_there S who f.name known policy sound) sound)

-- ---- all actions

pub step_sound : (S : State) (now : ℕ) (who : Caller) (what : Action) → is_known S who ≡ true → refusal_by S now who what ≡ None → IsSound S.access → IsSound (step_by S now who what).access
step_sound S now who (UserAdd u) known may sound = user_added S.access u sound
step_sound S now who (TokenAdd u digest) known may sound = token_added S.access digest u (user_there _ _ (state_passed S now who (TokenAdd u digest) may)) sound
step_sound S now who (TokenRemove digest) known may sound = tokens_left S.access (erase S.access.tokens digest) (λ d u h. each_left text_key S.access.tokens digest d u h) sound
step_sound S now who (TokensRemove u) known may sound = ended_sound S (tokens_of S u) sound
step_sound S now who (OrgCreate o u) known may sound = organisation_created S.access o u (user_there _ _ (state_passed S now who (OrgCreate o u) may)) sound
step_sound S now who (OrgSet o u role) known may sound =
    set_sound S now who o u role (policy_passed S now who (OrgSet o u role) may) (state_passed S now who (OrgSet o u role) may) sound
step_sound S now who (OrgRemove o u) known may sound = removed_sound S now o u (state_passed S now who (OrgRemove o u) may) sound
step_sound S now who (TeamCreate o t) known may sound = team_sound S now who o t (policy_passed S now who (TeamCreate o t) may) sound
step_sound S now who (TeamDestroy o t) known may sound = destroyed_sound S now o t (state_passed S now who (TeamDestroy o t) may) sound
step_sound S now who (TeamAdd o t u) known may sound = joined_sound S o t u (is_in_team S o t u) (is_there _ (state_passed S now who (TeamAdd o t u) may)) sound
step_sound S now who (TeamRemove o t u) known may sound = team_left S.access o t u sound
step_sound S now who (asked.Grant o t p grant) known may sound = grant_sound S o t p grant (state_passed S now who (asked.Grant o t p grant) may) sound
step_sound S now who (Revoke o t p) known may sound = change.grant_dropped S.access o t p sound
step_sound S now who (SetAccess p status) known may sound =
    status_sound S who p status (policy_passed S now who (SetAccess p status) may) (state_passed S now who (SetAccess p status) may) sound
step_sound S now who (OwnerAdd p u) known may sound =
    owning_sound S p u (has_maintainer S p u) (published_where_read S.access who p (found_there who (reads (level_at (position_in S.access who p))) _ (policy_passed S now who (OwnerAdd p u) may)))
    (is_there _ (state_passed S now who (OwnerAdd p u) may)) sound
step_sound S now who (OwnerRemove p u) known may sound = disowned_sound S p u (state_passed S now who (OwnerRemove p u) may) sound
step_sound S now who (Publish f) known may sound =
    publish_sound S who f now known (policy_passed S now who (Publish f) may) (state_passed S now who (Publish f) may) sound
step_sound S now who (Withdraw p v) known may sound = subst IsSound (sym (withdrawn_access S now p (text_of_version v) (at S.live (p, text_of_version v)))) sound
step_sound S now who (WithdrawAll p) known may sound = subst (λ (T : State). IsSound T.access) (sym (whole_is S now p)) sound
step_sound S now who (Deprecate p selector message) known may sound =
    subst (λ (T : State). IsSound T.access) (sym (deprecated_is S p message (selected (live_versions S p) selector))) sound
step_sound S now who _ known may sound = sound
