-- Rows that say all that a state says agree with it, whatever is asked.
use Rattle.std.proofs.Common.{◌≡◌, is_some, None, refl, ap, ap₂, if◌then◌else◌}
use Rattle.registry_names.specs.Texts.{Text}
use Rattle.registry_names.specs.Maps.{at}
use Rattle.registry_access.specs.Access.{Access}
use Rattle.registry_access.specs.Agreement.{SameOrganisation, SamePackage}
use Rattle.registry_access.specs.Callers.{role_of, is_maintainer, team_grant}
use Rattle.registry_access.specs.Laws.{WholeRowsStand}
use Rattle.registry_access.specs.RowMaps.{state_of}
use Rattle.registry_access.specs.RowsFor.{RowsTellAll}
use Rattle.registry_access.specs.declared.caller.Caller.{Caller}
use Rattle.registry_access.specs.declared.caller.Caller.TheVariants.{Operator, User, Anonymous}
use Rattle.registry_access.specs.declared.ask.Ask.TheVariants.{Operate, OrgMembers, OrgTeams, Publish, Write, Owners, Read, OrgRead}
use Rattle.registry_access.specs.declared.rows.AccessRows.{AccessRows}

module _ (r : AccessRows) (S : Access) (all : RowsTellAll r S) where
  whole_role : (caller : Caller) (o : Text) → role_of (state_of r) caller o ≡ role_of S caller o
  whole_role Operator o = refl
  whole_role (User u) o = ap (λ m. at m (o, u)) all.roles
  whole_role Anonymous o = refl

  whole_maintainer : (caller : Caller) (p : Text) → is_maintainer (state_of r) caller p ≡ is_maintainer S caller p
  whole_maintainer Operator p = refl
  whole_maintainer (User u) p = ap (λ m. is_some (at m (p, u))) all.maintainers
  whole_maintainer Anonymous p = refl

  whole_grant : (caller : Caller) (o t p : Text) → team_grant (state_of r) caller o t p ≡ team_grant S caller o t p
  whole_grant Operator o t p = refl
  whole_grant (User u) o t p = ap₂ (λ members grants. if is_some (at members (o, (t, u))) then at grants (o, (t, p)) else None) all.team_members all.grants
  whole_grant Anonymous o t p = refl

  whole_organisation : (caller : Caller) (o : Text) → SameOrganisation (state_of r) S caller o
  whole_organisation caller o = record { organisation = ap (λ m. is_some (at m o)) all.organisations; role = whole_role caller o }

  whole_package : (caller : Caller) (p : Text) → SamePackage (state_of r) S caller p
  whole_package caller p = record {
    scope = λ o e. whole_organisation caller o;
    status = ap (λ m. at m p) all.statuses;
    maintainer = whole_maintainer caller p;
    grants = λ o t. whole_grant caller o t p;
  }

pub whole_stand : WholeRowsStand
whole_stand r S all caller Operate = tt
whole_stand r S all caller (OrgMembers o) = whole_organisation r S all caller o.now
whole_stand r S all caller (OrgTeams o) = whole_organisation r S all caller o.now
whole_stand r S all caller (Publish p) = whole_package r S all caller p.now
whole_stand r S all caller (Write p) = whole_package r S all caller p.now
whole_stand r S all caller (Owners p) = whole_package r S all caller p.now
whole_stand r S all caller (Read p) = whole_package r S all caller p.now
whole_stand r S all caller (OrgRead o) = whole_organisation r S all caller o.now
