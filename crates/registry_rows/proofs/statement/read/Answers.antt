use Rattle.std.proofs.Common.{rules}
use Rattle.registry_rows.proofs.QueryFacts.{failed_keeps}
use Rattle.registry_rows.proofs.statement.read.Goals as goal

pub returns-in-Err-clause-failed : goal.returns-in-Err-clause-failed
returns-in-Err-clause-failed g c = record {
  same_reference = search rules;
  committed = λ clean. failed_keeps _ _ _ _ _ (c.in-Err.ensures.err clean);
  survives = search rules;
}
