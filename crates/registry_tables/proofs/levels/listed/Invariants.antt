use Rattle.registry_tables.proofs.Words.{◌≡◌, ◌++◌, map, level_entry}
use Rattle.registry_tables.proofs.levels.listed.Given as goal

-- the entries so far are listed, and those that are left come after them
abbrev pub invariant-loop-name : goal.invariant-loop-name
invariant-loop-name l = map level_entry l.packages.items ++ l.name-iterator ≡ l.fn.levels.entries
