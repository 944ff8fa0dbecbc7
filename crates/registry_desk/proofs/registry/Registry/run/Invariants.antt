use Rattle.registry_desk.proofs.Words.{◌≡◌, ◌≤◌, length, take, vec_capacity, state, SurvivesRun}
use Rattle.registry_desk.proofs.StoredFacts.{RunsTo}
use Rattle.registry_desk.proofs.registry.Registry.run.Given as goal

-- the outcomes so far are those of the requests so far, and there is room for the others
abbrev pub invariant-loop-request : goal.invariant-loop-request
invariant-loop-request g l = record {
  room : length l.requests ≤ vec_capacity l.outcomes;
  count : length l.outcomes.items ≡ l.request-index;
  run : RunsTo (state g.S.Store l.fn.self) (state g.S.Store l.self) (take l.request-index l.requests) l.outcomes.items;
  survives : SurvivesRun (state g.S.Store l.fn.self) (state g.S.Store l.self) (take l.request-index l.requests) l.outcomes.items;
}
