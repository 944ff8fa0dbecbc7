-- What is granted to a caller, as it is asked for, and in which organisation they have a role.
use Rattle.registry_tables.proofs.Words.{◌≡◌, ℤ, Bool, true, false, not, ◌&&◌, ◌||◌, List, [], Option, Some, None, is_some, refl, sym, ap, subst, ◌∙◌, true≢false, Shown, scope_of, Text}
use Rattle.registry_tables.proofs.Words.{granted, is_maintainer, has_scope, scope_role, Caller, Operator, User, Anonymous, Grant, Role, Developer, Admin, Owner, at, pair_key, IsReady, Contents}
use Rattle.registry_tables.proofs.Words.{access_of, stored, schema, AreGranted, AreGrantedTo, role_of}
use Rattle.registry_access.specs.Access.{Access}
use Rattle.registry_access.specs.RowsFor.{StandingTells, TellsFor, is_owners, is_public, is_read}
use Rattle.registry_access.specs.Standings.{is_listed}
use Rattle.registry_access.specs.declared.ask.Ask.{Ask}
use Rattle.registry_access.specs.declared.ask.Ask.TheVariants.{Operate, OrgMembers, OrgTeams, Publish, Write, Owners, Read, OrgRead}
use Rattle.registry_access.specs.declared.standing.Standing.{Standing}
use Rattle.registry_tables.proofs.JoinedFacts.{scoped_are_all, strangers_have_none, unscoped_have_none}
use Rattle.registry_tables.proofs.ParentFacts.{organisation_there}
use Rattle.registry_tables.proofs.ReadFacts.{some-read}

-- those of their teams in the organisation of the scope
pub members_grants : (c : Contents) (o u p : Text) (role : Option Role) (maintainer : Bool) (gs : List Grant) → scope_of p ≡ Some o → AreGranted c o u p gs → AreGrantedTo c (User u) p role maintainer gs
members_grants c o u p role maintainer gs scope are sound is other g = are g ∙ scoped_are_all c sound.grants u p g o scope

-- who is no member has none
strangers_grants : (c : Contents) (u p : Text) (maintainer : Bool) → AreGrantedTo c (User u) p None maintainer []
strangers_grants c u p maintainer sound is other g = go (scope_of p) refl
  where
    go : (o : Option Text) → scope_of p ≡ o → is_listed [] g ≡ granted (access_of c) (User u) p g
    go None scope = sym (unscoped_have_none c sound.grants u p g scope)
    go (Some o) scope = sym (strangers_have_none c sound o u p g scope (sym (ap is_some (subst (λ s. ◌≡◌ {A = Option Role} None (scope_role (access_of c) (User u) s)) scope is))))

-- nobody has any on a package without a scope
unscoped_grants : (c : Contents) (u p : Text) (role : Option Role) (maintainer : Bool) → scope_of p ≡ None → AreGrantedTo c (User u) p role maintainer []
unscoped_grants c u p role maintainer scope sound is other g = sym (unscoped_have_none c sound.grants u p g scope)

-- a list with none is right where they are no developer, where they maintain the package, and where
-- it has no scope
pub no_grants : (c : Contents) (who : Caller) (p : Text) (role : Option Role) (maintainer : Bool)
    → ((u : Text) → who ≡ User u → role ≡ Some Developer → maintainer ≡ false → scope_of p ≡ None) → AreGrantedTo c who p role maintainer []
no_grants c Operator p role maintainer scope = λ sound is other g. refl
no_grants c (User u) p None maintainer scope = strangers_grants c u p maintainer
no_grants c (User u) p (Some Developer) false scope = unscoped_grants c u p (Some Developer) false (scope u refl refl refl)
no_grants c (User u) p (Some Developer) true scope = λ sound is other g. absurd (true≢false other)
no_grants c (User u) p (Some Admin) maintainer scope = λ sound is other g. absurd (true≢false other)
no_grants c (User u) p (Some Owner) maintainer scope = λ sound is other g. absurd (true≢false other)
no_grants c Anonymous p role maintainer scope = λ sound is other g. refl

-- ---- what an ask rests on

module _ (s : Standing) (S : Access) (who : Caller) (p : Text) where
  -- to see a public package, the status alone
  pub public_told : (ask : Ask) → (is_read ask && is_public s.status) ≡ true → s.status ≡ at S.statuses p → TellsFor ask s S who p
  public_told Operate h is = absurd (true≢false (sym h))
  public_told (OrgMembers o) h is = absurd (true≢false (sym h))
  public_told (OrgTeams o) h is = absurd (true≢false (sym h))
  public_told (Publish q) h is = absurd (true≢false (sym h))
  public_told (Write q) h is = absurd (true≢false (sym h))
  public_told (Owners q) h is = absurd (true≢false (sym h))
  public_told (Read q) h is = record { status = is; restricted = λ other. absurd (true≢false (sym h ∙ other)) }
  public_told (OrgRead o) h is = absurd (true≢false (sym h))

  -- otherwise all of it, and to manage maintainers whether they are one
  pub all_told : (ask : Ask) → (is_owners ask ≡ true → s.maintainer ≡ is_maintainer S who p) → StandingTells s S who p → TellsFor ask s S who p
  all_told Operate is tells = tells
  all_told (OrgMembers o) is tells = tells
  all_told (OrgTeams o) is tells = tells
  all_told (Publish q) is tells = tells
  all_told (Write q) is tells = tells
  all_told (Owners q) is tells = record { standing_tells = tells; maintainer = is refl }
  all_told (Read q) is tells = record { status = tells.status; restricted = λ other. tells }
  all_told (OrgRead o) is tells = tells

-- where it counts whether they are a maintainer
pub counts_asked : (asks leads : Bool) → asks ≡ true → (asks || not leads) ≡ true
counts_asked true leads h = refl
counts_asked false leads h = absurd (true≢false (sym h))

pub counts_follower : (asks leads : Bool) → leads ≡ false → (asks || not leads) ≡ true
counts_follower true leads h = refl
counts_follower false true h = absurd (true≢false h)
counts_follower false false h = refl

-- the organisation of each member is there
abbrev pub MembersHaveTheirs : Contents → Type 0
MembersHaveTheirs c = (o u : Text) (role : ℤ) → at c.members (o, u) ≡ Some role → is_some (at c.organisations o) ≡ true

pub have_theirs : (s : Shown) → IsReady schema s → MembersHaveTheirs (stored s)
have_theirs s ready o u role e = organisation_there s ready o u role e

-- so is the organisation of a scope in which they have a role
pub scope_there : (c : Contents) → MembersHaveTheirs c → (who : Caller) (scope : Option Text) → is_some (scope_role (access_of c) who scope) ≡ true → has_scope (access_of c) scope ≡ true
scope_there c have who None h = h
scope_there c have Operator (Some o) h = absurd (true≢false (sym h))
scope_there c have (User u) (Some o) h = go (at c.members (o, u)) refl (sym (some-read pair_key c.members (λ _ n. role_of n) (o, u)) ∙ h)
  where
    go : (role : Option ℤ) → at c.members (o, u) ≡ role → is_some role ≡ true → is_some (at c.organisations o) ≡ true
    go None e h = absurd (true≢false (sym h))
    go (Some role) e h = have o u role e
scope_there c have Anonymous (Some o) h = absurd (true≢false (sym h))
