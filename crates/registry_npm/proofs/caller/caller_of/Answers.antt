use Rattle.registry_npm.proofs.CallFacts.{once}
use Rattle.registry_npm.proofs.caller.caller_of.Goals as goal

pub returns-in-Once : goal.returns-in-Once
returns-in-Once c = rw c.in-Once.is (once c.in-Once.value c.bearer.result (rw c.as_slice.ensures at c.bearer.ensures))
