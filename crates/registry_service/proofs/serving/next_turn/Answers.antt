use Rattle.std.proofs.Common.{refl}
use Rattle.registry_service.proofs.CourseFacts.{gave-nothing}
use Rattle.registry_service.proofs.ResponseFacts.{responds-away}
use Rattle.registry_service.specs.Turns.{bad_input, no_memory, profile, spoken}
use Rattle.registry_service.proofs.serving.next_turn.Goals as goal

pub returns-in-Bad-clause-turns : goal.returns-in-Bad-clause-turns
returns-in-Bad-clause-turns g c = record {
  cause = bad_input c.in-Bad.refusal;
  got = c.in-Bad.ensures.takes.got;
  gave = c.in-Bad.ensures.takes.gave;
  lean = c.in-Bad.ensures.takes.lean;
  took = c.in-Bad.ensures.takes.took;
  responds = responds-away (spoken profile g.D.Service.answers) _ (bad_input c.in-Bad.refusal) _ _ _ _ _ _ c.turn_away.ensures c.respond.ensures.responds;
  asked = gave-nothing (g.C.Clock.readings c.args.clock.now);
}

pub returns-in-Faulted-clause-turns : goal.returns-in-Faulted-clause-turns
returns-in-Faulted-clause-turns g c = record {
  cause = no_memory;
  got = c.in-Faulted.ensures.takes.got;
  gave = c.in-Faulted.ensures.takes.gave;
  lean = c.in-Faulted.ensures.takes.lean;
  took = (c.in-Faulted.ensures.takes.took.0, refl);
  responds = responds-away (spoken profile g.D.Service.answers) _ no_memory _ _ _ _ _ _ c.turn_starved.ensures c.respond-in-Faulted.ensures.responds;
  asked = gave-nothing (g.C.Clock.readings c.args.clock.now);
}
