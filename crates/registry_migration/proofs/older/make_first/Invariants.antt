use Rattle.std.proofs.Common.{◌≡◌, ◌<◌}
use Rattle.registry_rows.specs.Frames.{Stays}
use Rattle.registry_tables.specs.Fresh.{HasMade}
use Rattle.registry_migration.proofs.older.make_first.Given as goal

-- the tables so far are made
abbrev pub invariant-loop-at : goal.invariant-loop-at
invariant-loop-at g l = record {
  stays : Stays g.S.Store l.fn.tx l.tx;
  idle : l.at ≡ 0 → l.tx ≡ l.fn.tx;
  made : 0 < l.at → HasMade g.S.Store l.at l.tx;
}
