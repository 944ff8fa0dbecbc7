use Rattle.registry_tables.proofs.Words.{◌≡◌, drop, map, archive_spelled, number_among}
use Rattle.registry_tables.proofs.archives.first_with.Given as goal

-- none of the archives so far has the bytes
abbrev pub invariant-loop-row : goal.invariant-loop-row
invariant-loop-row l = record {
  rest : number_among l.bytes (map archive_spelled l.rows) ≡ number_among l.bytes (map archive_spelled (drop l.row-index l.rows));
}
