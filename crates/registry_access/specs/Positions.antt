-- What a caller is to a package, and the level that follows from it.
use Rattle.std.specs.Prelude.{Bool, false, ◌||◌, is_some, Option, Some, None, if◌then◌else◌}
use Rattle.registry_names.specs.Texts.{Text}
use Rattle.registry_names.specs.Maps.{at}
use Rattle.registry_names.specs.declared.status.Status.{Status}
use Rattle.registry_access.specs.Access.{Access}
use Rattle.registry_access.specs.Callers.{role_of, is_maintainer, granted}
use Rattle.registry_access.specs.Levels.{larger, level_granted, greatest_grant, open_level, is_owner_or_admin}
use Rattle.registry_names.specs.Names.{scope_of}
use Rattle.registry_access.specs.declared.grant.Grant.{Grant}
use Rattle.registry_access.specs.declared.role.Role.{Role}
use Rattle.registry_access.specs.declared.levels.Level.{Level}
use Rattle.registry_access.specs.declared.levels.Level.TheVariants.{Nothing, Write}
use Rattle.registry_access.specs.declared.caller.Caller.{Caller}
use Rattle.registry_access.specs.declared.position.Position.{Position}

abbrev pub has_organisation : Access → Text → Bool
has_organisation S o = is_some (at S.organisations o)

-- whether there is an organisation of the scope
abbrev pub has_scope : Access → Option Text → Bool
has_scope S None = false
has_scope S (Some o) = has_organisation S o

-- their role in the organisation of the scope
abbrev pub scope_role : Access → Caller → Option Text → Option Role
scope_role S caller None = None
scope_role S caller (Some o) = role_of S caller o

-- what the caller is to the package
abbrev pub position_in : Access → Caller → Text → Position
position_in S caller p = record {
  organisation = has_scope S (scope_of p);
  role = scope_role S caller (scope_of p);
  status = at S.statuses p;
  maintainer = is_maintainer S caller p;
  grant = greatest_grant (granted S caller p);
}

-- Nothing on a package that was never published. Otherwise what a writer has, or the greater of
-- what everybody has and what is granted
abbrev pub level_by : Option Status → Bool → Option Grant → Level
level_by None may_write grant = Nothing
level_by (Some status) may_write grant = if may_write then Write else larger (open_level status) (level_granted grant)

-- Owners and admins of its scope, and its maintainers, write a package
abbrev pub level_at : Position → Level
level_at at = level_by at.status (is_owner_or_admin at.role || at.maintainer) at.grant

-- the caller's level on the package
abbrev pub level_in : Access → Caller → Text → Level
level_in S caller p = level_at (position_in S caller p)
