use Rattle.registry_service.proofs.ResponseFacts.{responds-to}
use Rattle.registry_service.proofs.responding.answer.Goals as goal

pub returns-in_default : goal.returns-in_default
returns-in_default g c = record {
  responds = responds-to g.D.Service.answers _ _ c.args.request.now c.args.is_last c.args.closes _ _ _ _ _ _ c.answer-outcome.ensures c.turn_with.ensures c.respond.ensures.responds;
  counted = c.respond.ensures.counted;
  unknown = c.respond.ensures.unknown;
}
