-- How the key and the value of a row of each table are spelled, column by column.
use Rattle.std.specs.Prelude.{ℕ, ℤ, List}
use Rattle.sqlite_value.specs.Order.{Row, column}
use Rattle.registry_names.specs.Keys.{Pair, Triple}
use Rattle.registry_names.specs.Texts.{Text}
use Rattle.registry_names.specs.declared.status.Status.{Status}
use Rattle.registry_access.specs.declared.grant.Grant.{Grant}
use Rattle.registry_access.specs.declared.role.Role.{Role}
use Rattle.registry_rows.specs.Columns.{blob_in, int_in, text_in}
use Rattle.registry_tables.specs.Contents.{LiveVersion, version_in}
use Rattle.registry_tables.specs.Numbers.{grant_of, role_of, status_of}
use Rattle.registry_check.specs.Rows.{NeedKey}

abbrev pub name_spelled : Row → Text × Unit {0}
name_spelled r = (text_in (column r 0), tt)

abbrev pub token_spelled : Row → Text × Text
token_spelled r = (blob_in (column r 0), text_in (column r 1))

abbrev pub pair_spelled : Row → Pair × Unit {0}
pair_spelled r = ((text_in (column r 0), text_in (column r 1)), tt)

abbrev pub triple_spelled : Row → Triple × Unit {0}
triple_spelled r = ((text_in (column r 0), (text_in (column r 1), text_in (column r 2))), tt)

abbrev pub member_spelled : Row → Pair × Role
member_spelled r = ((text_in (column r 0), text_in (column r 1)), role_of (int_in (column r 2)))

abbrev pub package_spelled : Row → Text × Status
package_spelled r = (text_in (column r 0), status_of (int_in (column r 1)))

abbrev pub grant_spelled : Row → Triple × Grant
grant_spelled r = ((text_in (column r 0), (text_in (column r 1), text_in (column r 2))), grant_of (int_in (column r 3)))

abbrev pub live_spelled : Row → Pair × LiveVersion
live_spelled r = ((text_in (column r 0), text_in (column r 1)), version_in r)

abbrev pub need_spelled : Row → NeedKey × Unit {0}
need_spelled r = ((text_in (column r 0), (text_in (column r 1), (text_in (column r 2), text_in (column r 3)))), tt)

abbrev pub held_spelled : Row → Pair × ℤ
held_spelled r = ((text_in (column r 0), text_in (column r 1)), int_in (column r 2))

abbrev pub archive_spelled : Row → ℤ × Text
archive_spelled r = (int_in (column r 0), text_in (column r 1))

-- the number and the bytes of an archive
abbrev pub like_spelled : Row → ℤ × List ℕ
like_spelled r = (int_in (column r 0), blob_in (column r 1))

abbrev pub tag_spelled : Row → Pair × Text
tag_spelled r = ((text_in (column r 0), text_in (column r 1)), text_in (column r 2))

abbrev pub role_spelled : Row → Pair × ℤ
role_spelled r = ((text_in (column r 0), text_in (column r 1)), int_in (column r 2))

abbrev pub status_spelled : Row → Text × ℤ
status_spelled r = (text_in (column r 0), int_in (column r 1))

abbrev pub level_spelled : Row → Triple × ℤ
level_spelled r = ((text_in (column r 0), (text_in (column r 1), text_in (column r 2))), int_in (column r 3))

abbrev pub spent_spelled : Row → Pair × (ℤ × ℤ)
spent_spelled r = ((text_in (column r 0), text_in (column r 1)), (int_in (column r 2), int_in (column r 3)))
