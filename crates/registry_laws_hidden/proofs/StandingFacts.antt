-- Who doesn't read a package, and is neither an owner nor an admin of its scope, gains nothing by
-- what they ask: neither a level on it nor a role in its scope.
use Rattle.std.proofs.Common.{◌≡◌, ℕ, Bool, true, false, cond, not, ◌&&◌, ◌||◌, refl, sym, ap, ap₂, ◌∙◌, subst, true≢false, Some, None, Option, is_some, if◌then◌else◌}
use Rattle.std.specs.Prelude.{IsSome}
use Rattle.registry_names.specs.Keys.{Triple, triple_is}
use Rattle.registry_names.specs.Maps.{TripleMap, at}
use Rattle.registry_names.specs.Names.{scope_of}
use Rattle.registry_names.specs.Texts.{Text, is}
use Rattle.registry_names.proofs.KeyFacts.{text_key, pair_key, triple_key, same_self, same_true}
use Rattle.registry_names.proofs.MapFacts.{at-put_other, at-erase_other, at-keep}
use Rattle.registry_access.specs.Access.{Access}
use Rattle.registry_access.specs.Callers.{granted, is_maintainer, role_of, team_grant}
use Rattle.registry_access.specs.Levels.{is_owner_or_admin}
use Rattle.registry_access.specs.Policy.{may_manage_members, may_manage_teams}
use Rattle.registry_access.specs.Positions.{has_organisation, level_by, level_in, scope_role}
use Rattle.registry_access.specs.declared.caller.Caller.{Caller}
use Rattle.registry_access.specs.declared.caller.Caller.TheVariants.{Operator, User, Anonymous}
use Rattle.registry_access.specs.declared.grant.Grant.{Grant}
use Rattle.registry_access.specs.declared.levels.Level.TheVariants.{Nothing}
use Rattle.registry_access.specs.declared.role.Role.{Role}
use Rattle.registry_access.specs.declared.role.Role.TheVariants.{Owner, Admin, Developer}
use Rattle.registry_access.proofs.GrantFacts.{granted_alike}
use Rattle.registry_access.proofs.LevelFacts.{greatest_alike}
use Rattle.registry_rules.specs.Actions.{ends_team, names_package}
use Rattle.registry_rules.specs.Effects.{step_by}
use Rattle.registry_rules.specs.Kept.{IsSound}
use Rattle.registry_rules.specs.Laws.{IsApart}
use Rattle.registry_rules.specs.Refusals.{refusal_by, unless_allowed}
use Rattle.registry_rules.specs.State.{State, developers, is_in_team}
use Rattle.registry_rules.specs.declared.request.Action.{Action}
use Rattle.registry_rules.specs.declared.request.Action.TheVariants.{OrgCreate, OrgSet, OrgRemove, TeamDestroy, TeamAdd, TeamRemove}
use Rattle.registry_rules.proofs.AllowedFacts.{policy_passed}
use Rattle.registry_rules.proofs.LawFacts.{commands_leave_other_packages}
use Rattle.registry_laws_history.proofs.LeftFacts.{left_by, left_is, joined}
use Rattle.registry_laws_hidden.specs.Concerns.{queried_package}
use Rattle.registry_laws_hidden.specs.Without.{state_without}
use Rattle.registry_laws_hidden.proofs.RefusedFacts.{AreRefused, concerned_refused, is_member_publish}
use Rattle.registry_laws_hidden.proofs.Subjects.{concerns, is_about, names_none}

-- ---- levels

-- the level depends on the status, on the role in the scope, on whether they are a maintainer, and
-- on what their teams are granted
level_alike : (A B : Access) (who : Caller) (p : Text) → at A.statuses p ≡ at B.statuses p → scope_role A who (scope_of p) ≡ scope_role B who (scope_of p) → is_maintainer A who p ≡ is_maintainer B who p
    → ((o t : Text) → team_grant A who o t p ≡ team_grant B who o t p) → level_in A who p ≡ level_in B who p
level_alike A B who p status role maintainer grants =
    let grant = greatest_alike (granted A who p) (granted B who p) (granted_alike A B who p grants) in
    λ i. level_by (status i) (is_owner_or_admin (role i) || maintainer i) (grant i)

-- ---- what a user's commands leave them in an organisation of which they are neither an owner nor
-- an admin

-- their role and their teams there
record KeepsPlace (S T : State) (what : Action) (o u : Text) : Type 0 where
  role : at T.access.roles (o, u) ≡ at S.access.roles (o, u)
  teams : (t : Text) → at T.access.team_members (o, (t, u)) ≡ at S.access.team_members (o, (t, u))
  ended : (t : Text) → ends_team what o t ≡ false

managing_members : (u : Text) (there : Bool) (role : Option Role) → unless_allowed (may_manage_members (User u) there role) ≡ None → is_owner_or_admin role ≡ true
managing_members u false role may = absurd cc
managing_members u true (Some Owner) may = refl
managing_members u true (Some Admin) may = absurd cc
managing_members u true (Some Developer) may = absurd cc
managing_members u true None may = absurd cc

managing_teams : (u : Text) (there : Bool) (role : Option Role) → unless_allowed (may_manage_teams (User u) there role) ≡ None → is_owner_or_admin role ≡ true
managing_teams u false role may = absurd cc
managing_teams u true (Some Owner) may = refl
managing_teams u true (Some Admin) may = refl
managing_teams u true (Some Developer) may = absurd cc
managing_teams u true None may = absurd cc

joined_other : (m : TripleMap (Unit {0})) (there : Bool) (q k : Triple) → triple_is q k ≡ false → at (joined m there q) k ≡ at m k
joined_other m true q k differ = refl
joined_other m false q k differ = at-put_other triple_key m q tt k differ

module _ (S : State) (now : ℕ) (u o : Text) (unmanaging : is_owner_or_admin (at S.access.roles (o, u)) ≡ false) where
  -- an organisation that they manage is another
  another : (r : Text) → is_owner_or_admin (at S.access.roles (r, u)) ≡ true → (b : Bool) → is r o ≡ b → b ≡ false
  another r managing true same = absurd (true≢false (sym managing ∙ ap (λ x. is_owner_or_admin (at S.access.roles (x, u))) (same_true text_key r o same) ∙ unmanaging))
  another r managing false same = refl

  managed : (r : Text) → unless_allowed (may_manage_teams (User u) (has_organisation S.access r) (at S.access.roles (r, u))) ≡ None → is r o ≡ false
  managed r passed = another r (managing_teams u (has_organisation S.access r) (at S.access.roles (r, u)) passed) (is r o) refl

  managed_members : (r : Text) → unless_allowed (may_manage_members (User u) (has_organisation S.access r) (at S.access.roles (r, u))) ≡ None → is r o ≡ false
  managed_members r passed = another r (managing_members u (has_organisation S.access r) (at S.access.roles (r, u)) passed) (is r o) refl

  left_place : (what : Action) → refusal_by S now (User u) what ≡ None → KeepsPlace S (left_by S now (User u) what) what o u
  left_place (OrgCreate r w) may = absurd cc
  left_place (OrgSet r w role) may =
      let apart = managed_members r (policy_passed S now (User u) (OrgSet r w role) may) in
      record {
        role = at-put_other pair_key S.access.roles (r, w) role (o, u) (ap (λ b. b && is w u) apart);
        teams = λ t. joined_other S.access.team_members (is_some (at S.access.roles (r, w))) (r, (developers, w)) (o, (t, u)) (ap (λ b. b && (is developers t && is w u)) apart);
        ended = λ t. refl;
      }
  left_place (OrgRemove r w) may =
      let apart = managed_members r (policy_passed S now (User u) (OrgRemove r w) may) in
      record {
        role = at-erase_other pair_key S.access.roles (r, w) (o, u) (ap (λ b. b && is w u) apart);
        teams = λ t. at-keep triple_key S.access.team_members (λ k. not (is r k.0 && is w k.1.1)) (o, (t, u)) ∙ ap (λ b. cond (not (b && is w u)) (at S.access.team_members (o, (t, u))) None) apart;
        ended = λ t. refl;
      }
  left_place (TeamDestroy r s) may =
      let apart = managed r (policy_passed S now (User u) (TeamDestroy r s) may) in
      record {
        role = refl;
        teams = λ t. at-keep triple_key S.access.team_members (λ k. not (is r k.0 && is s k.1.0)) (o, (t, u)) ∙ ap (λ b. cond (not (b && is s t)) (at S.access.team_members (o, (t, u))) None) apart;
        ended = λ t. ap (λ b. b && is s t) apart;
      }
  left_place (TeamAdd r s w) may =
      let apart = managed r (policy_passed S now (User u) (TeamAdd r s w) may) in
      record {
        role = refl;
        teams = λ t. joined_other S.access.team_members (is_in_team S r s w) (r, (s, w)) (o, (t, u)) (ap (λ b. b && (is s t && is w u)) apart);
        ended = λ t. refl;
      }
  left_place (TeamRemove r s w) may =
      let apart = managed r (policy_passed S now (User u) (TeamRemove r s w) may) in
      record {
        role = refl;
        teams = λ t. at-erase_other triple_key S.access.team_members (r, (s, w)) (o, (t, u)) (ap (λ b. b && (is s t && is w u)) apart);
        ended = λ t. refl;
      }
  left_place _ may = record { role = refl; teams = λ t. refl; ended = λ t. refl }

  keeps_place : (what : Action) → refusal_by S now (User u) what ≡ None → KeepsPlace S (step_by S now (User u) what) what o u
  keeps_place what may = subst (λ T. KeepsPlace S T what o u) (sym (left_is S now (User u) what)) (left_place what may)

-- ---- what they have after a command

-- they have no level on the package, and have the role in its scope that they had
pub record KeepsStanding (S T : State) (p o : Text) (who : Caller) : Type 0 where
  pub nothing : level_in T.access who p ≡ Nothing
  pub role : role_of T.access who o ≡ role_of S.access who o

unnamed : (what : Action) (p : Text) → concerns what p ≡ false → names_package what p ≡ false
unnamed what p other = by (queried_package what) refl other
  where
    by : (o : Option Text) → queried_package what ≡ o → is_about o (names_package what p) p ≡ false → names_package what p ≡ false
    by None asks apart = apart
    by (Some q) asks apart = names_none what q p asks

role_in : (A B : Access) (who : Caller) (o : Text) (s : Option Text) → s ≡ Some o → role_of A who o ≡ role_of B who o → scope_role A who s ≡ scope_role B who s
role_in A B who o s scoped same = ap (scope_role A who) scoped ∙ same ∙ sym (ap (scope_role B who) scoped)

none_or_none : (b : Bool) → ◌≡◌ {A = Option Grant} (if b then None else None) None
none_or_none true = refl
none_or_none false = refl

none_left : (o : Option Grant) → (IsSome o → ⊥) → o ≡ None
none_left None h = refl
none_left (Some x) h = absurd (h refl)

module _ (S : State) (now : ℕ) (u : Text) (p o : Text) (what : Action) (sound : IsSound S.access) (scoped : scope_of p ≡ Some o)
    (place : KeepsPlace S (step_by S now (User u) what) what o u) (apart : IsApart S (step_by S now (User u) what) what p) where
  abbrev T : State
  T = step_by S now (User u) what

  -- of another organisation no team is granted anything on the package
  ungranted : (r t : Text) → is o r ≡ false → at S.access.grants (r, (t, p)) ≡ None
  ungranted r t other = none_left (at S.access.grants (r, (t, p))) (λ there.
      let one : ◌≡◌ {A = Option Text} (Some o) (Some r) = sym scoped ∙ (sound.grants r t p there).scope in
      let same : o ≡ r = cc in
      true≢false (sym (same_self text_key o) ∙ ap (is o) same ∙ other))

  grant_by : (r t : Text) (b : Bool) → is o r ≡ b → team_grant T.access (User u) r t p ≡ team_grant S.access (User u) r t p
  grant_by r t true here =
      ap (λ x. team_grant T.access (User u) x t p) (sym (same_true text_key o r here))
      ∙ ap₂ (λ (m : Option (Unit {0})) (g : Option Grant). if is_some m then g else None) (place.teams t)
      (apart.grants o t ∙ ap (λ b. if b then None else at S.access.grants (o, (t, p))) (place.ended t))
      ∙ ap (λ x. team_grant S.access (User u) x t p) (same_true text_key o r here)
  grant_by r t false other =
      let there : at T.access.grants (r, (t, p)) ≡ None = apart.grants r t ∙ ap (λ g. if ends_team what r t then None else g) (ungranted r t other) ∙ none_or_none (ends_team what r t) in
      ap (λ g. if is_some (at T.access.team_members (r, (t, u))) then g else None) there ∙ none_or_none (is_some (at T.access.team_members (r, (t, u))))
      ∙ sym (ap (λ g. if is_some (at S.access.team_members (r, (t, u))) then g else None) (ungranted r t other) ∙ none_or_none (is_some (at S.access.team_members (r, (t, u)))))

  user_standing : level_in S.access (User u) p ≡ Nothing → KeepsStanding S T p o (User u)
  user_standing nothing = record {
    nothing = level_alike T.access S.access (User u) p apart.status (role_in T.access S.access (User u) o (scope_of p) scoped place.role) (ap is_some (apart.maintainers u))
        (λ r t. grant_by r t (is o r) refl) ∙ nothing;
    role = place.role;
  }

module _ (S T : State) (p o : Text) (what : Action) (scoped : scope_of p ≡ Some o) (apart : IsApart S T what p) where
  operator_standing : level_in S.access Operator p ≡ Nothing → KeepsStanding S T p o Operator
  operator_standing nothing = record {
    nothing = level_alike T.access S.access Operator p apart.status (role_in T.access S.access Operator o (scope_of p) scoped refl) refl (λ r t. refl) ∙ nothing;
    role = refl;
  }

  anonymous_standing : level_in S.access Anonymous p ≡ Nothing → KeepsStanding S T p o Anonymous
  anonymous_standing nothing = record {
    nothing = level_alike T.access S.access Anonymous p apart.status (role_in T.access S.access Anonymous o (scope_of p) scoped refl) refl (λ r t. refl) ∙ nothing;
    role = refl;
  }

-- what isn't refused doesn't concern the package
uncalled : (S : State) (now : ℕ) (who : Caller) (what : Action) (p : Text) → (concerns what p ≡ true → AreRefused S (state_without S p) now who what) → refusal_by S now who what ≡ None → (b : Bool) → concerns what p ≡ b → b ≡ false
uncalled S now who what p refused may true here = let why = refused here in let both : None ≡ Some why.0 = sym may ∙ why.1 in absurd cc
uncalled S now who what p refused may false here = refl

pub standing_kept : (S : State) (now : ℕ) (who : Caller) (what : Action) (p o : Text) → IsSound S.access → scope_of p ≡ Some o → is_owner_or_admin (role_of S.access who o) ≡ false
    → level_in S.access who p ≡ Nothing → is_member_publish S who what p ≡ false → refusal_by S now who what ≡ None → KeepsStanding S (step_by S now who what) p o who
standing_kept S now who what p o sound scoped unmanaging nothing stranger may = by_caller who unmanaging nothing may apart
  where
    other : concerns what p ≡ false
    other = uncalled S now who what p (λ here. concerned_refused S now who p o sound scoped unmanaging what here nothing stranger) may (concerns what p) refl

    apart : IsApart S (step_by S now who what) what p
    apart = commands_leave_other_packages S now who what p (unnamed what p other)

    by_caller : (c : Caller) → is_owner_or_admin (role_of S.access c o) ≡ false → level_in S.access c p ≡ Nothing → refusal_by S now c what ≡ None → IsApart S (step_by S now c what) what p
        → KeepsStanding S (step_by S now c what) p o c
    by_caller Operator unmanages none allowed stands = operator_standing S (step_by S now Operator what) p o what scoped stands none
    by_caller (User u) unmanages none allowed stands = user_standing S now u p o what sound scoped (keeps_place S now u o unmanages what allowed) stands none
    by_caller Anonymous unmanages none allowed stands = anonymous_standing S (step_by S now Anonymous what) p o what scoped stands none
