-- States that agree on what an ask concerns allow the same, and a standing that agrees with a state
-- says what the state says.
use Rattle.std.proofs.Common.{◌≡◌, Bool, true, false, ◌||◌, Some, None, Option, Ok, Err, is_some, refl, ap, ap₂, sym, ◌∙◌, true≢false, if◌then◌else◌}
use Rattle.registry_names.specs.Texts.{Text}
use Rattle.registry_names.specs.Names.{scope_of}
use Rattle.registry_names.specs.declared.refusal.Refusal.TheVariants.{Denied}
use Rattle.registry_names.specs.declared.refusal.Rule.TheVariants.{A4, A5, A6, A7, A8}
use Rattle.registry_names.specs.declared.status.Status.{Status}
use Rattle.registry_names.specs.declared.status.Status.TheVariants.{Public, Restricted}
use Rattle.registry_access.specs.Access.{Access}
use Rattle.registry_access.specs.Agreement.{SameOrganisation, SamePackage, SameFor}
use Rattle.registry_access.specs.Callers.{is_maintainer, is_user, granted}
use Rattle.registry_access.specs.Levels.{greatest_grant, is_owner_or_admin, reads, writes}
use Rattle.registry_access.specs.Policy.{may_manage_members, may_manage_teams, may_see_organisation, may_read, may_write, may_manage_maintainers, may_publish, allowed_at, allowed_in, by_rule, for_known, where_found}
use Rattle.registry_access.specs.Positions.{has_scope, scope_role, position_in, level_at, level_by, level_in}
use Rattle.registry_access.specs.RowsFor.{StandingTells, TellsFor, TellsReader, asked_package, is_public}
use Rattle.registry_access.specs.Standings.{is_listed, position_of}
use Rattle.registry_access.specs.declared.grant.Grant.{Grant}
use Rattle.registry_access.specs.declared.grant.Grant.TheVariants.{ReadOnly, ReadWrite}
use Rattle.registry_access.specs.declared.position.Position.{Position}
use Rattle.registry_access.specs.declared.role.Role.{Role}
use Rattle.registry_access.specs.declared.caller.Caller.{Caller}
use Rattle.registry_access.specs.declared.caller.Caller.TheVariants.{Operator, User, Anonymous}
use Rattle.registry_access.specs.declared.ask.Ask.{Ask}
use Rattle.registry_access.specs.declared.ask.Ask.TheVariants.{Operate, OrgMembers, OrgTeams, Publish, Write, Owners, Read, OrgRead}
use Rattle.registry_access.specs.declared.standing.Standing.{Standing}
use Rattle.registry_access.proofs.GrantFacts.{granted_alike}
use Rattle.registry_access.proofs.LevelFacts.{greatest_alike}

scope_alike : (S T : Access) (caller : Caller) (s : Option Text) → ((o : Text) → s ≡ Some o → SameOrganisation S T caller o)
    → (has_scope S s ≡ has_scope T s) × (scope_role S caller s ≡ scope_role T caller s)
scope_alike S T caller None h = (refl, refl)
scope_alike S T caller (Some o) h = let same = h o refl in (same.organisation, same.role)

pub position_alike : (S T : Access) (caller : Caller) (p : Text) → SamePackage S T caller p → position_in S caller p ≡ position_in T caller p
position_alike S T caller p same =
    let scope = scope_alike S T caller (scope_of p) same.scope in
    let grant = greatest_alike (granted S caller p) (granted T caller p) (granted_alike S T caller p same.grants) in
    λ i. record { organisation = scope.0 i; role = scope.1 i; status = same.status i; maintainer = same.maintainer i; grant = grant i }

pub allowed_alike : (S T : Access) (caller : Caller) (ask : Ask) → SameFor S T caller ask → allowed_in S caller ask ≡ allowed_in T caller ask
allowed_alike S T caller Operate same = refl
allowed_alike S T caller (OrgMembers o) same = ap₂ (may_manage_members caller) same.organisation same.role
allowed_alike S T caller (OrgTeams o) same = ap₂ (may_manage_teams caller) same.organisation same.role
allowed_alike S T caller (Publish p) same = ap (may_publish caller (is_some (scope_of p.now))) (position_alike S T caller p.now same)
allowed_alike S T caller (Write p) same = ap (may_write caller) (position_alike S T caller p.now same)
allowed_alike S T caller (Owners p) same = ap (may_manage_maintainers caller) (position_alike S T caller p.now same)
allowed_alike S T caller (Read p) same = ap may_read (position_alike S T caller p.now same)
allowed_alike S T caller (OrgRead o) same = ap₂ (may_see_organisation caller) same.organisation same.role

-- who is no user has no role
operator_role : (S : Access) (s : Option Text) → ◌≡◌ {A = Option Role} None (scope_role S Operator s)
operator_role S None = refl
operator_role S (Some o) = refl

anonymous_role : (S : Access) (s : Option Text) → ◌≡◌ {A = Option Role} None (scope_role S Anonymous s)
anonymous_role S None = refl
anonymous_role S (Some o) = refl

-- positions that are alike in all that lets a caller read and write: of what a maintainer and a grant
-- add, the level
record AreAlike (P Q : Position) : Type 0 where
  organisation : P.organisation ≡ Q.organisation
  role : P.role ≡ Q.role
  status : P.status ≡ Q.status
  level : level_at P ≡ level_at Q

same_alike : (P Q : Position) → P ≡ Q → AreAlike P Q
same_alike P Q e = record {
  organisation = ap (λ (R : Position). R.organisation) e;
  role = ap (λ (R : Position). R.role) e;
  status = ap (λ (R : Position). R.status) e;
  level = ap level_at e;
}

-- a maintainer counts only where they are neither owner nor admin
writer_alike : (leads maintainer other : Bool) → (leads ≡ false → maintainer ≡ other) → (leads || maintainer) ≡ (leads || other)
writer_alike true maintainer other same = refl
writer_alike false maintainer other same = same refl

-- a grant counts only of one who doesn't write already
level_alike : (status : Option Status) (writer : Bool) (g h : Option Grant) → (writer ≡ false → g ≡ h) → level_by status writer g ≡ level_by status writer h
level_alike None writer g h same = refl
level_alike (Some status) true g h same = refl
level_alike (Some status) false g h same = ap (level_by (Some status) false) (same refl)

standing_alike : (s : Standing) (S : Access) (caller : Caller) (p : Text) → StandingTells s S caller p → AreAlike (position_of s caller) (position_in S caller p)
standing_alike s S Operator p h = same_alike _ _
    (λ i. record { organisation = h.organisation i; role = operator_role S (scope_of p) i; status = h.status i; maintainer = is_maintainer S Operator p; grant = (position_in S Operator p).grant })
standing_alike s S (User u) p h =
    let maintains = is_maintainer S (User u) p in
    let writer = writer_alike (is_owner_or_admin s.role) s.maintainer maintains h.maintainer ∙ ap (λ (r : Option Role). is_owner_or_admin r || maintains) h.role in
    record {
      organisation = h.organisation;
      role = h.role;
      status = h.status;
      level =
          level_alike s.status (is_owner_or_admin s.role || s.maintainer) _ _ (λ other. greatest_alike (is_listed s.grants.items) (granted S (User u) p) (h.grants other))
          ∙ (λ i. level_by (h.status i) (writer i) (greatest_grant (granted S (User u) p)));
    }
standing_alike s S Anonymous p h = same_alike _ _
    (λ i. record { organisation = h.organisation i; role = anonymous_role S (scope_of p) i; status = h.status i; maintainer = is_maintainer S Anonymous p; grant = (position_in S Anonymous p).grant })

pub standing_level : (s : Standing) (S : Access) (caller : Caller) (p : Text) → StandingTells s S caller p → level_at (position_of s caller) ≡ level_in S caller p
standing_level s S caller p h = (standing_alike s S caller p h).level

-- what a standing says of the status, and of a maintainer, whoever asks
status_of : (s : Standing) (caller : Caller) → (position_of s caller).status ≡ s.status
status_of s Operator = refl
status_of s (User u) = refl
status_of s Anonymous = refl

maintainer_of : (s : Standing) (S : Access) (caller : Caller) (p : Text) → s.maintainer ≡ is_maintainer S caller p → (position_of s caller).maintainer ≡ is_maintainer S caller p
maintainer_of s S Operator p h = refl
maintainer_of s S (User u) p h = h
maintainer_of s S Anonymous p h = refl

-- everybody reads a public package
public_reads : (status : Option Status) (writer : Bool) (g : Option Grant) → is_public status ≡ true → reads (level_by status writer g) ≡ true
public_reads None writer g h = absurd (true≢false (sym h))
public_reads (Some Restricted) writer g h = absurd (true≢false (sym h))
public_reads (Some Public) true g h = refl
public_reads (Some Public) false None h = refl
public_reads (Some Public) false (Some ReadOnly) h = refl
public_reads (Some Public) false (Some ReadWrite) h = refl

reader_alike : (s : Standing) (S : Access) (caller : Caller) (p : Text) → TellsReader s S caller p → reads (level_at (position_of s caller)) ≡ reads (level_in S caller p)
reader_alike s S caller p h = go (is_public s.status) refl
  where
    go : (b : Bool) → is_public s.status ≡ b → reads (level_at (position_of s caller)) ≡ reads (level_in S caller p)
    go true e = public_reads _ _ _ (ap is_public (status_of s caller) ∙ e) ∙ sym (public_reads _ _ _ (ap is_public (sym h.status) ∙ e))
    go false e = ap reads (standing_level s S caller p (h.restricted e))

-- ---- the policy says the same where positions are alike

publish_alike : (caller : Caller) (P Q : Position) → AreAlike P Q → (scoped : Bool) → may_publish caller scoped P ≡ may_publish caller scoped Q
publish_alike caller P Q same true = λ i. for_known caller (where_found (same.organisation i) (if is_some (same.role i)
    then (if is_some (same.status i) then by_rule A6 (writes (same.level i)) else Ok A4)
    else Err (Denied A4)))
publish_alike caller P Q same false = λ i. for_known caller (if is_some (same.status i) then by_rule A6 (writes (same.level i)) else by_rule A5 (is_user caller))

module _ (s : Standing) (S : Access) (caller : Caller) (p : Text) where
  verdict_alike : (ask : Ask) → TellsFor ask s S caller p → allowed_at caller ask (position_of s caller) ≡ allowed_at caller ask (position_in S caller p)
  verdict_alike Operate h = refl
  verdict_alike (OrgMembers o) h = refl
  verdict_alike (OrgTeams o) h = refl
  verdict_alike (Publish q) h = publish_alike caller _ _ (standing_alike s S caller p h) (is_some (scope_of q.now))
  verdict_alike (Write q) h = let level = standing_level s S caller p h in λ i. for_known caller (where_found (reads (level i)) (by_rule A6 (writes (level i))))
  verdict_alike (Owners q) h =
      let level = standing_level s S caller p h.standing_tells in
      let maintainer = maintainer_of s S caller p h.maintainer in
      λ i. for_known caller (where_found (reads (level i)) (by_rule A7 (maintainer i)))
  verdict_alike (Read q) h = ap (λ (b : Bool). where_found b (Ok A8)) (reader_alike s S caller p h)
  verdict_alike (OrgRead o) h = refl

-- an ask about a package is decided by what the caller is to it
pub asked_at : (S : Access) (caller : Caller) (ask : Ask) (p : Text) → asked_package ask ≡ Some p → allowed_at caller ask (position_in S caller p) ≡ allowed_in S caller ask
asked_at S caller Operate p e = cc
asked_at S caller (OrgMembers o) p e = cc
asked_at S caller (OrgTeams o) p e = cc
asked_at S caller (Publish q) p e = let same : p ≡ q.now = cc in ap (λ r. may_publish caller (is_some (scope_of q.now)) (position_in S caller r)) same
asked_at S caller (Write q) p e = let same : p ≡ q.now = cc in ap (λ r. may_write caller (position_in S caller r)) same
asked_at S caller (Owners q) p e = let same : p ≡ q.now = cc in ap (λ r. may_manage_maintainers caller (position_in S caller r)) same
asked_at S caller (Read q) p e = let same : p ≡ q.now = cc in ap (λ r. may_read (position_in S caller r)) same
asked_at S caller (OrgRead o) p e = cc

pub standing_allowed : (s : Standing) (S : Access) (caller : Caller) (ask : Ask) (p : Text) → asked_package ask ≡ Some p → TellsFor ask s S caller p
    → allowed_at caller ask (position_of s caller) ≡ allowed_in S caller ask
standing_allowed s S caller ask p e h = verdict_alike s S caller p ask h ∙ asked_at S caller ask p e
