-- What the rows of answers spell, column by column.
use Rattle.std.specs.Prelude.{ℕ, ℤ, List, Option, option_map}
use Rattle.std.specs.List.{find}
use Rattle.sqlite_value.specs.Order.{Row, column}
use Rattle.registry_names.specs.Texts.{Text, is}
use Rattle.registry_names.specs.declared.dist_tag.DistTag.{DistTag}
use Rattle.registry_names.specs.declared.status.Status.{Status}
use Rattle.registry_access.specs.declared.role.Role.{Role}
use Rattle.registry_packument.specs.declared.list.Member.{Member}
use Rattle.registry_packument.specs.declared.packument.VersionRow.{VersionRow}
use Rattle.registry_rules.specs.State.{Release}
use Rattle.registry_rows.specs.Columns.{text_in, number_in, int_in, blob_in}
use Rattle.registry_tables.specs.Numbers.{role_of, status_of}
use Rattle.registry_tables.specs.declared.versions.DocumentRow.{DocumentRow}

-- bytes alone
abbrev pub blob_of_row : Row → List ℕ
blob_of_row r = blob_in (column r 0)

-- a status alone
abbrev pub status_spelled : Row → Status
status_spelled r = status_of (int_in (column r 0))

-- a role alone
abbrev pub role_spelled : Row → Role
role_spelled r = role_of (int_in (column r 0))

-- a member and their role
abbrev pub member_spelled : Row → Text × Role
member_spelled r = (text_in (column r 0), role_of (int_in (column r 1)))

abbrev pub member_entry : Member → Text × Role
member_entry m = (m.user, m.role)

-- a tag and its version
abbrev pub tag_spelled : Row → Text × Text
tag_spelled r = (text_in (column r 0), text_in (column r 1))

abbrev pub tag_entry : DistTag → Text × Text
tag_entry t = (t.tag, t.version)

-- a version, its manifest and its message
abbrev pub row_spelled : Row → Text × (Text × Text)
row_spelled r = (text_in (column r 0), (text_in (column r 1), text_in (column r 2)))

abbrev pub row_entry : VersionRow → Text × (Text × Text)
row_entry v = (v.version, (v.manifest, v.message))

-- of a live version, when it was published
abbrev pub published : Release → ℕ
published r = r.at

-- a version, and when it was published
abbrev pub time_spelled : Row → Text × ℕ
time_spelled r = (text_in (column r 0), number_in (column r 1))

-- a version, and nothing of it
abbrev pub version_spelled : Row → Text × Unit {0}
version_spelled r = (text_in (column r 0), tt)

-- of a live version, its manifest and its message
abbrev pub document : Release → Text × Text
document r = (r.manifest, r.message)

-- a manifest and its message
abbrev pub document_spelled : Row → Text × Text
document_spelled r = (text_in (column r 0), text_in (column r 1))

abbrev pub document_entry : DocumentRow → Text × Text
document_entry d = (d.manifest, d.message)

-- a version that a tag names, alone
abbrev pub named_spelled : Row → Text
named_spelled r = text_in (column r 0)

-- a number alone
abbrev pub number_spelled : Row → ℕ
number_spelled r = number_in (column r 0)

-- a number that comes second
abbrev pub second_spelled : Row → ℕ
second_spelled r = number_in (column r 1)

-- the numbers in the second, the third and the fourth column, as they stand there
abbrev pub second_number : Row → ℤ
second_number r = int_in (column r 1)

abbrev pub third_number : Row → ℤ
third_number r = int_in (column r 2)

abbrev pub fourth_number : Row → ℤ
fourth_number r = int_in (column r 3)

-- the number of an archive, alone
abbrev pub held_spelled : Row → ℤ
held_spelled r = int_in (column r 0)

-- the number of an archive and its bytes
abbrev pub archive_spelled : Row → ℤ × List ℕ
archive_spelled r = (int_in (column r 0), blob_in (column r 1))

-- the number of the first of some archives with these bytes
abbrev pub number_among : List ℕ → List (ℤ × List ℕ) → Option ℤ
number_among bytes es = option_map (λ (e : ℤ × List ℕ). e.0) (find (λ (e : ℤ × List ℕ). is bytes e.1) es)
