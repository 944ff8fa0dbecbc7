-- How a package looks to a caller who may not read it.
use Rattle.std.specs.Prelude.{◌≡◌, ◌≢◌, Bool, false, not, ◌&&◌, is_some, Some, None}
use Rattle.registry_names.specs.Texts.{Text, is}
use Rattle.registry_names.specs.Maps.{at, erase, keep}
use Rattle.registry_names.specs.Names.{scope_of}
use Rattle.registry_names.specs.declared.status.Status.TheVariants.{Restricted}
use Rattle.registry_access.specs.Access.{Access}
use Rattle.registry_access.specs.Policy.{allowed_in}
use Rattle.registry_access.specs.Positions.{scope_role, level_in}
use Rattle.registry_access.specs.declared.levels.Level.TheVariants.{Nothing}
use Rattle.registry_access.specs.declared.caller.Caller.{Caller}
use Rattle.registry_access.specs.declared.ask.Ask.{Ask}
use Rattle.registry_access.specs.declared.ask.Ask.TheVariants.{Operate, OrgMembers, OrgTeams, Publish, Write, Owners, Read, OrgRead}

-- the state in which the package was never published
abbrev pub access_without : Access → Text → Access
access_without S p = record S {
  statuses = erase S.statuses p;
  grants = keep S.grants (λ k. not (is k.1.1 p));
  maintainers = keep S.maintainers (λ k. not (is k.0 p));
}

-- each package without a scope is public
abbrev pub UnscopedArePublic : Access → Type 0
UnscopedArePublic S = (q : Text) → scope_of q ≡ None → at S.statuses q ≢ Some Restricted

-- whether a member of the package's scope asks to publish it
abbrev pub publishes_as_member : Access → Caller → Text → Ask → Bool
publishes_as_member S caller p Operate = false
publishes_as_member S caller p (OrgMembers o) = false
publishes_as_member S caller p (OrgTeams o) = false
publishes_as_member S caller p (Publish q) = is q.now p && is_some (scope_role S caller (scope_of p))
publishes_as_member S caller p (Write q) = false
publishes_as_member S caller p (Owners q) = false
publishes_as_member S caller p (Read q) = false
publishes_as_member S caller p (OrgRead o) = false

-- whatever else the caller asks, they get what they would get if the package had never been
-- published
abbrev pub IsHidden : Access → Caller → Text → Type 0
IsHidden S caller p = (ask : Ask) → publishes_as_member S caller p ask ≡ false → allowed_in S caller ask ≡ allowed_in (access_without S p) caller ask

-- what a caller may not read is hidden from them
abbrev pub UnreadAreHidden : Type 0
UnreadAreHidden = (S : Access) (caller : Caller) (p : Text) → UnscopedArePublic S → level_in S caller p ≡ Nothing → IsHidden S caller p
