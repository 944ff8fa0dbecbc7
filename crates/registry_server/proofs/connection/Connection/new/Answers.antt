use Rattle.std.proofs.Common.{ap}
use Rattle.std.proofs.lemmas.Bool.{false≢true}
use Rattle.registry_server.specs.declared.phase.Phase.{Phase}
use Rattle.registry_server.proofs.OrderFacts.{fresh-in-order}
use Rattle.registry_server.proofs.connection.Connection.new.Goals as goal

pub invariant_of-result : goal.invariant_of-result
invariant_of-result g c = (
  fresh-in-order c.new-2.result.stage c.new.result (ap (λ (p : Phase). p.stage) c.new-2.ensures) c.new.ensures,
  λ over. absurd (false≢true over),
)
