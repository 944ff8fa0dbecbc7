use Rattle.registry_tables.proofs.Words.{◌≡◌, map, take, number_spelled, last_number}
use Rattle.registry_tables.proofs.moments.last_moment.Given as goal

-- the last of the moments so far
abbrev pub invariant-loop-row : goal.invariant-loop-row
invariant-loop-row l = l.last ≡ last_number (map number_spelled (take l.row-index l.rows))
