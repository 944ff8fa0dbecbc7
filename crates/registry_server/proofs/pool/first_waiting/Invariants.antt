use Rattle.registry_server.specs.Pools.{IsEarliestOf, waiting_times}
use Rattle.registry_server.proofs.pool.first_waiting.Given as goal

abbrev pub invariant-loop-number : goal.invariant-loop-number
invariant-loop-number g l = IsEarliestOf (waiting_times l.places) l.number l.first
