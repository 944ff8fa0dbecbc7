use Rattle.std.proofs.Common.{◌≡◌, length}
use Rattle.registry_tests_requests.proofs.outcomes.unanswered.Given as goal

-- a place for each number so far
abbrev pub invariant-loop : goal.invariant-loop
invariant-loop l = length l.places.items ≡ l.counter
