-- Levels, grants and roles.
use Rattle.std.specs.Prelude.{Bool, true, false, Option, Some, None, if◌then◌else◌}
use Rattle.registry_names.specs.declared.status.Status.{Status}
use Rattle.registry_names.specs.declared.status.Status.TheVariants.{Public, Restricted}
use Rattle.registry_access.specs.declared.grant.Grant.{Grant}
use Rattle.registry_access.specs.declared.grant.Grant.TheVariants.{ReadOnly, ReadWrite}
use Rattle.registry_access.specs.declared.role.Role.{Role}
use Rattle.registry_access.specs.declared.role.Role.TheVariants.{Admin, Owner}
use Rattle.registry_access.specs.declared.levels.Level.{Level}
use Rattle.registry_access.specs.declared.levels.Level.TheVariants.{Nothing, Read, Write}

abbrev pub reads : Level → Bool
reads Nothing = false
reads Read = true
reads Write = true

abbrev pub writes : Level → Bool
writes Nothing = false
writes Read = false
writes Write = true

abbrev pub larger : Level → Level → Level
larger Nothing b = b
larger Read Nothing = Read
larger Read Read = Read
larger Read Write = Write
larger Write b = Write

-- the level that is granted, if anything is
abbrev pub level_granted : Option Grant → Level
level_granted None = Nothing
level_granted (Some ReadOnly) = Read
level_granted (Some ReadWrite) = Write

abbrev pub is_grant : Grant → Grant → Bool
is_grant ReadOnly ReadOnly = true
is_grant ReadWrite ReadWrite = true
is_grant _ _ = false

-- whether the first grants all that the second does
abbrev pub covers : Grant → Grant → Bool
covers ReadWrite g = true
covers ReadOnly g = is_grant ReadOnly g

-- the greatest of the grants that pass a test, if one does
abbrev pub greatest_grant : (Grant → Bool) → Option Grant
greatest_grant test = if test ReadWrite then Some ReadWrite else (if test ReadOnly then Some ReadOnly else None)

-- what everybody has on a package of this status
abbrev pub open_level : Status → Level
open_level Public = Read
open_level Restricted = Nothing

abbrev pub is_owner : Option Role → Bool
is_owner (Some Owner) = true
is_owner _ = false

abbrev pub is_owner_or_admin : Option Role → Bool
is_owner_or_admin (Some Owner) = true
is_owner_or_admin (Some Admin) = true
is_owner_or_admin _ = false
