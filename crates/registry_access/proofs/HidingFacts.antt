-- What a caller may not read looks to them as if it had never been published.
use Rattle.std.proofs.Common.{◌≡◌, Bool, true, false, cond, not, ◌&&◌, is_some, Some, None, Option, Ok, Err, refl, sym, ap, ◌∙◌, true≢false, if◌then◌else◌}
use Rattle.registry_names.specs.Texts.{Text, is}
use Rattle.registry_names.specs.Maps.{at}
use Rattle.registry_names.specs.Names.{scope_of}
use Rattle.registry_names.specs.declared.refusal.Rule.TheVariants.{A4, A5, A6, A7, A8}
use Rattle.registry_names.specs.declared.refusal.Refusal.TheVariants.{NotFound, Denied}
use Rattle.registry_names.specs.declared.status.Status.{Status}
use Rattle.registry_names.proofs.TextFacts.{is_true, is_self, is_sym}
use Rattle.registry_names.proofs.KeyFacts.{text_key, pair_key, triple_key}
use Rattle.registry_names.proofs.MapFacts.{at-erase, at-keep}
use Rattle.registry_access.specs.Access.{Access}
use Rattle.registry_access.specs.Agreement.{SamePackage}
use Rattle.registry_access.specs.Callers.{role_of, is_maintainer, team_grant, is_user}
use Rattle.registry_access.specs.Hiding.{access_without, UnscopedArePublic, UnreadAreHidden}
use Rattle.registry_access.specs.Levels.{reads, writes}
use Rattle.registry_access.specs.Policy.{for_known, where_found, by_rule, may_manage_maintainers, may_publish, may_manage_members, may_manage_teams, may_see_organisation}
use Rattle.registry_access.specs.Positions.{has_organisation, has_scope, scope_role, position_in, level_at, level_in}
use Rattle.registry_access.specs.declared.role.Role.{Role}
use Rattle.registry_access.specs.declared.levels.Level.{Level}
use Rattle.registry_access.specs.declared.levels.Level.TheVariants.{Nothing}
use Rattle.registry_access.specs.declared.caller.Caller.{Caller}
use Rattle.registry_access.specs.declared.caller.Caller.TheVariants.{Operator, User, Anonymous}
use Rattle.registry_access.specs.declared.ask.Ask.TheVariants.{Operate, OrgMembers, OrgTeams, Publish, Write, Owners, Read, OrgRead}
use Rattle.registry_access.specs.declared.position.Position.{Position}
use Rattle.registry_access.proofs.AgreementFacts.{position_alike}
use Rattle.registry_access.proofs.LevelFacts.{never_published}

-- ---- other packages stay

same_role : (S : Access) (caller : Caller) (p o : Text) → role_of S caller o ≡ role_of (access_without S p) caller o
same_role S Operator p o = refl
same_role S (User u) p o = refl
same_role S Anonymous p o = refl

kept_test : (p q : Text) → is q p ≡ false → not (is q p) ≡ true
kept_test p q apart = ap not apart

same_maintainer : (S : Access) (caller : Caller) (p q : Text) → is q p ≡ false → is_maintainer S caller q ≡ is_maintainer (access_without S p) caller q
same_maintainer S Operator p q apart = refl
same_maintainer S (User u) p q apart =
    sym (ap is_some (at-keep pair_key S.maintainers (λ k. not (is k.0 p)) (q, u) ∙ ap (λ b. cond b (at S.maintainers (q, u)) None) (kept_test p q apart)))
same_maintainer S Anonymous p q apart = refl

kept_grant : (S : Access) (o t p q : Text) → is q p ≡ false → at S.grants (o, (t, q)) ≡ at (access_without S p).grants (o, (t, q))
kept_grant S o t p q apart = sym (at-keep triple_key S.grants (λ k. not (is k.1.1 p)) (o, (t, q)) ∙ ap (λ b. cond b (at S.grants (o, (t, q))) None) (kept_test p q apart))

same_grant : (S : Access) (caller : Caller) (p q o t : Text) → is q p ≡ false → team_grant S caller o t q ≡ team_grant (access_without S p) caller o t q
same_grant S Operator p q o t apart = refl
same_grant S (User u) p q o t apart = ap (λ g. if is_some (at S.team_members (o, (t, u))) then g else None) (kept_grant S o t p q apart)
same_grant S Anonymous p q o t apart = refl

other_package : (S : Access) (caller : Caller) (p q : Text) → is q p ≡ false → SamePackage S (access_without S p) caller q
other_package S caller p q apart = record {
  scope = λ o e. record { organisation = refl; role = same_role S caller p o };
  status = sym (at-erase text_key S.statuses p q ∙ ap (λ b. cond b None (at S.statuses q)) (is_sym p q ∙ apart));
  maintainer = same_maintainer S caller p q apart;
  grants = λ o t. same_grant S caller p q o t apart;
}

apart_position : (S : Access) (caller : Caller) (p q : Text) → is q p ≡ false → position_in S caller q ≡ position_in (access_without S p) caller q
apart_position S caller p q apart = position_alike S (access_without S p) caller q (other_package S caller p q apart)

-- ---- the package itself

gone : (S : Access) (p : Text) → at (access_without S p).statuses p ≡ None
gone S p = at-erase text_key S.statuses p p ∙ ap (λ b. cond b None (at S.statuses p)) (is_self p)

nothing_left : (S : Access) (caller : Caller) (p : Text) → level_in (access_without S p) caller p ≡ Nothing
nothing_left S caller p = ap (λ s. level_at (record (position_in (access_without S p) caller p) { status = s })) (gone S p)

not_found : (caller : Caller) (l : Level) (b : Level → Bool) (rule : _) → l ≡ Nothing → for_known caller (where_found (reads l) (by_rule rule (b l))) ≡ for_known caller (Err NotFound)
not_found caller l b rule h = ap (λ x. for_known caller (where_found (reads x) (by_rule rule (b x)))) h

no_role : (o : Option Role) → is_some o ≡ false → o ≡ None
no_role None h = refl
no_role (Some r) h = absurd (true≢false h)

-- two positions without a role in the scope, or with no status and no scope
same_publish : (caller : Caller) (s : Option Text) (P Q : Position) → P.organisation ≡ Q.organisation → P.role ≡ None → Q.role ≡ None → (s ≡ None → P.status ≡ None) → Q.status ≡ None
    → may_publish caller (is_some s) P ≡ may_publish caller (is_some s) Q
same_publish caller (Some o) P Q organisation role role' status status' =
    let verdict = λ (b : Bool) (r : Option Role) (next : _). for_known caller (where_found b (if is_some r then next else Err (Denied A4))) in
    ap (λ r. verdict P.organisation r (if is_some P.status then by_rule A6 (writes (level_at P)) else Ok A4)) role
    ∙ ap (λ b. for_known caller (where_found b (Err (Denied A4)))) organisation
    ∙ sym (ap (λ r. verdict Q.organisation r (if is_some Q.status then by_rule A6 (writes (level_at Q)) else Ok A4)) role')
same_publish caller None P Q organisation role role' status status' =
    ap (λ (s : Option Status). for_known caller (if is_some s then by_rule A6 (writes (level_at P)) else by_rule A5 (is_user caller))) (status refl)
    ∙ sym (ap (λ (s : Option Status). for_known caller (if is_some s then by_rule A6 (writes (level_at Q)) else by_rule A5 (is_user caller))) status')

member_role : (q p : Text) (o : Option Role) → is q p ≡ true → (is q p && is_some o) ≡ false → o ≡ None
member_role q p o e h = no_role o (sym (ap (λ b. b && is_some o) e) ∙ h)

-- the level is the same with the package and without it, where it is nothing
same_level : (S : Access) (caller : Caller) (p : Text) → level_in S caller p ≡ Nothing → (q : Text) (b : Bool) → is q p ≡ b → level_in S caller q ≡ level_in (access_without S p) caller q
same_level S caller p nothing q true e = ap (level_in S caller) (is_true q p e) ∙ nothing ∙ sym (ap (level_in (access_without S p) caller) (is_true q p e) ∙ nothing_left S caller p)
same_level S caller p nothing q false e = ap level_at (apart_position S caller p q e)

same_owners : (S : Access) (caller : Caller) (p : Text) → level_in S caller p ≡ Nothing → (q : Text) (b : Bool) → is q p ≡ b
    → may_manage_maintainers caller (position_in S caller q) ≡ may_manage_maintainers caller (position_in (access_without S p) caller q)
same_owners S caller p nothing q true e =
    not_found caller _ (λ _. is_maintainer S caller q) A7 (ap (level_in S caller) (is_true q p e) ∙ nothing)
    ∙ sym (not_found caller _ (λ _. is_maintainer (access_without S p) caller q) A7 (ap (level_in (access_without S p) caller) (is_true q p e) ∙ nothing_left S caller p))
same_owners S caller p nothing q false e = ap (may_manage_maintainers caller) (apart_position S caller p q e)

here_published : (S : Access) (caller : Caller) (p : Text) → UnscopedArePublic S → level_in S caller p ≡ Nothing → scope_role S caller (scope_of p) ≡ None
    → may_publish caller (is_some (scope_of p)) (position_in S caller p) ≡ may_publish caller (is_some (scope_of p)) (position_in (access_without S p) caller p)
here_published S caller p public nothing role =
    same_publish caller (scope_of p) (position_in S caller p) (position_in (access_without S p) caller p)
    (scope_kept (scope_of p)) role (scope_role_kept (scope_of p) ∙ role) (λ e. never_published _ _ _ (public p e) nothing) (gone S p)
  where
    scope_kept : (s : Option Text) → has_scope S s ≡ has_scope (access_without S p) s
    scope_kept None = refl
    scope_kept (Some o) = refl

    scope_role_kept : (s : Option Text) → scope_role (access_without S p) caller s ≡ scope_role S caller s
    scope_role_kept None = refl
    scope_role_kept (Some o) = sym (same_role S caller p o)

same_published : (S : Access) (caller : Caller) (p : Text) → UnscopedArePublic S → level_in S caller p ≡ Nothing
    → (q : Text) (b : Bool) → is q p ≡ b → (is q p && is_some (scope_role S caller (scope_of p))) ≡ false
    → may_publish caller (is_some (scope_of q)) (position_in S caller q) ≡ may_publish caller (is_some (scope_of q)) (position_in (access_without S p) caller q)
same_published S caller p public nothing q true e member =
    let at = λ (T : Access) (r : Text). may_publish caller (is_some (scope_of r)) (position_in T caller r) in
    ap (at S) (is_true q p e) ∙ here_published S caller p public nothing (member_role q p _ e member) ∙ sym (ap (at (access_without S p)) (is_true q p e))
same_published S caller p public nothing q false e member = ap (may_publish caller (is_some (scope_of q))) (apart_position S caller p q e)

pub hidden : UnreadAreHidden
hidden S caller p public nothing Operate member = refl
hidden S caller p public nothing (OrgMembers o) member = ap (may_manage_members caller (has_organisation S o.now)) (same_role S caller p o.now)
hidden S caller p public nothing (OrgTeams o) member = ap (may_manage_teams caller (has_organisation S o.now)) (same_role S caller p o.now)
hidden S caller p public nothing (Publish q) member = same_published S caller p public nothing q.now _ refl member
hidden S caller p public nothing (Write q) member =
    ap (λ l. for_known caller (where_found (reads l) (by_rule A6 (writes l)))) (same_level S caller p nothing q.now _ refl)
hidden S caller p public nothing (Owners q) member = same_owners S caller p nothing q.now _ refl
hidden S caller p public nothing (Read q) member =
    let verdict = λ (l : Level). where_found (reads l) (Ok A8) in ap verdict (same_level S caller p nothing q.now _ refl)
hidden S caller p public nothing (OrgRead o) member = ap (may_see_organisation caller (has_organisation S o.now)) (same_role S caller p o.now)
