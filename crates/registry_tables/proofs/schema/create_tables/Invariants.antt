use Rattle.registry_tables.proofs.Words.{◌≡◌, ◌<◌, HasCleanDisk, Stays, HasNoTables, InForm, shown, HasMade, HasRun}
use Rattle.registry_tables.proofs.schema.create_tables.Given as goal

-- the tables so far are made, where there was none at first
abbrev pub invariant-loop-text : goal.invariant-loop-text
invariant-loop-text g l = record {
  stays : Stays g.S.Store l.fn.tx l.tx;
  ran : HasRun g.S.Store l.text-index l.fn.tx l.tx;
  idle : l.text-index ≡ 0 → l.tx ≡ l.fn.tx;
  made : 0 < l.text-index → HasNoTables g.S.Store l.fn.tx → HasMade g.S.Store l.text-index l.tx;
  refused : 0 < l.text-index → InForm g.S.Store l.fn.tx → ¬ HasCleanDisk (shown g.S.Store l.tx);
}
