-- The scopes of the packages of grants.
use Rattle.std.specs.Prelude.{Bool}
use Rattle.sqlite_value.specs.Order.{Row, column}
use Rattle.registry_names.specs.Names.{scope_of}
use Rattle.registry_rules.specs.Refusals.{is_scope}
use Rattle.registry_rows.specs.Columns.{text_in}

-- of a row that has the whole key of a grant: its package's scope is its organisation's
abbrev pub is_in_its_scope : Row → Bool
is_in_its_scope r = is_scope (text_in (column r 0)) (scope_of (text_in (column r 2)))
