use Rattle.registry_server.specs.Rounds.{no_round_yet}
use Rattle.registry_server.proofs.RoundFacts.{all-asked-round}
use Rattle.registry_server.proofs.server.Server.serve_all.Goals as goal

pub returns-in_err-stop-clause-asks : goal.returns-in_err-stop-clause-asks
returns-in_err-stop-clause-asks g c = no_round_yet

pub returns-then-not-end_round-clause-asks : goal.returns-then-not-end_round-clause-asks
returns-then-not-end_round-clause-asks g c = all-asked-round _ _ _ _ _ _ _ _ _ _ _ c.args.now _ _ _ c.args.service.now c.visit_all.new.service c.visit.new.service _ _ _ _ _ _ c.visit_all.ensures c.visit.ensures.visits c.end_round.ensures.looks

pub returns-in_err-let_in-clause-asks : goal.returns-in_err-let_in-clause-asks
returns-in_err-let_in-clause-asks g c = all-asked-round _ _ _ _ _ _ _ _ _ _ _ c.args.now _ _ _ c.args.service.now c.visit_all.new.service c.visit.new.service _ _ _ _ _ _ c.visit_all.ensures c.visit.ensures.visits c.end_round.ensures.looks

pub returns-then-not-is_empty-clause-asks : goal.returns-then-not-is_empty-clause-asks
returns-then-not-is_empty-clause-asks g c = all-asked-round _ _ _ _ _ _ _ _ _ _ _ c.args.now _ _ _ c.args.service.now c.visit_all.new.service c.visit.new.service _ _ _ _ _ _ c.visit_all.ensures c.visit.ensures.visits c.end_round.ensures.looks

pub returns-else-not-is_empty-clause-asks : goal.returns-else-not-is_empty-clause-asks
returns-else-not-is_empty-clause-asks g c = all-asked-round _ _ _ _ _ _ _ _ _ _ _ c.args.now _ _ _ c.args.service.now c.visit_all.new.service c.visit.new.service _ _ _ _ _ _ c.visit_all.ensures c.visit.ensures.visits c.end_round.ensures.looks
