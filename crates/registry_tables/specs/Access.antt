-- What rows say to the policy of an organisation.
use Rattle.std.specs.Prelude.{◌≡◌, List}
use Rattle.registry_names.specs.Texts.{Text}
use Rattle.registry_access.specs.Callers.{role_of}
use Rattle.registry_access.specs.Positions.{has_organisation}
use Rattle.registry_access.specs.RowMaps.{state_of}
use Rattle.registry_access.specs.declared.caller.Caller.{Caller}
use Rattle.registry_access.specs.declared.rows.AccessRows.{AccessRows}
use Rattle.registry_access.specs.declared.rows.MemberRow.{MemberRow}
use Rattle.registry_tables.specs.Contents.{Contents, access_of}

-- rows with these organisations have this one exactly where it is stored
abbrev pub TellOrganisation : List Text → Contents → Text → Type 0
TellOrganisation organisations c o = (rows : AccessRows) → rows.organisations.items ≡ organisations
    → has_organisation (state_of rows) o ≡ has_organisation (access_of c) o

-- rows with these members give the caller the role in the organisation that is stored
abbrev pub RowsGiveStoredRole : List MemberRow → Contents → Caller → Text → Type 0
RowsGiveStoredRole members c who o = (rows : AccessRows) → rows.members.items ≡ members
    → role_of (state_of rows) who o ≡ role_of (access_of c) who o
