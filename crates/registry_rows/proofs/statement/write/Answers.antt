use Rattle.std.proofs.Common.{rules}
use Rattle.registry_rows.proofs.QuietFacts.{executed_keeps}
use Rattle.registry_rows.proofs.statement.write.Goals as goal

pub returns-in-Err-clause-stays : goal.returns-in-Err-clause-stays
returns-in-Err-clause-stays g c = record {
  same_reference = search rules;
  committed = executed_keeps g.S.Store _ _ c.args.tx.now.conn.now c.execute.new.self.conn.now _ _ c.execute.ensures.ended c.execute.ensures.runs;
  survives = search rules;
}
