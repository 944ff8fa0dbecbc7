-- What all users and all packages are listed with.
use Rattle.std.specs.Prelude.{Bool, not, ◌&&◌, List, [], ◌∷◌, ◌++◌, filter, length, map}
use Rattle.std.specs.Ordering.{is_lt}
use Rattle.registry_names.specs.Maps.{at, entries, keys}
use Rattle.registry_names.specs.Tags.{latest}
use Rattle.registry_names.specs.Names.{scope_of}
use Rattle.registry_names.specs.Texts.{Text, text_cmp}
use Rattle.registry_names.specs.declared.status.Status.{Status}
use Rattle.registry_packument.specs.declared.list.Overview.{Overview}
use Rattle.registry_packument.specs.declared.list.TokenCount.{TokenCount}
use Rattle.registry_rules.specs.Refusals.{is_scope}
use Rattle.registry_rules.specs.State.{tokens_of}
use Rattle.sqlite_value.specs.Order.{Row, column}
use Rattle.registry_rows.specs.Columns.{int_in, text_in}
use Rattle.registry_tables.specs.Contents.{Contents, access_of, registry_of}
use Rattle.registry_tables.specs.Numbers.{status_of}
use Rattle.registry_tables.specs.declared.packages.ListedPackage.{ListedPackage}

-- a user, with the number of the tokens that name them
abbrev pub counted : Contents → Text → TokenCount
counted c u = record { user = u; tokens = length (tokens_of (registry_of c) u) }

-- a package, with its status, and what `latest` names
abbrev pub viewed : Contents → Text × Status → Overview
viewed c e = record { name = e.0; status = e.1; latest = at c.tags (e.0, latest) }

-- all users, in byte order
abbrev pub users_counted : Contents → List TokenCount
users_counted c = map (counted c) (keys (entries c.users))

-- all packages that have a status, in byte order
abbrev pub packages_viewed : Contents → List Overview
packages_viewed c = map (viewed c) (entries (access_of c).statuses)

-- not below `@o/`, and below `@o0`, as the byte 48 follows the slash
abbrev pub is_after_scope : Text → Text → Bool
is_after_scope o t = not (is_lt (text_cmp t (64 ∷ (o ++ 47 ∷ [])))) && is_lt (text_cmp t (64 ∷ (o ++ 48 ∷ [])))

-- the packages of the scope of an organisation, each with its status, in byte order
abbrev pub scope_statuses : Contents → Text → List (Text × Status)
scope_statuses c o = filter (λ (e : Text × Status). is_scope o (scope_of e.0)) (entries (access_of c).statuses)

-- a package and its status
abbrev pub package_spelled : Row → Text × Status
package_spelled r = (text_in (column r 0), status_of (int_in (column r 1)))

abbrev pub package_entry : ListedPackage → Text × Status
package_entry p = (p.name, p.status)
