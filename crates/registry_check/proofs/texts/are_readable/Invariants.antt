use Rattle.std.proofs.Common.{◌≡◌, drop}
use Rattle.std.specs.List.{list_all}
use Rattle.registry_check.specs.Readable.{is_readable}
use Rattle.registry_check.proofs.texts.are_readable.Given as goal

-- the values from here on decide
abbrev pub invariant-loop-at : goal.invariant-loop-at
invariant-loop-at l = list_all is_readable (drop 1 l.row) ≡ list_all is_readable (drop l.at l.row)
