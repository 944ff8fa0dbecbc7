use Rattle.std.proofs.Common.{◌∙◌}
use Rattle.registry_service.proofs.TogetherFacts.{next-answered}
use Rattle.registry_service.proofs.turning.Service.answer_together.Goals as goal

pub loop-i-preserved : goal.loop-i-preserved
loop-i-preserved g c = next-answered g.Self.Service.answers c.args.self.now c.loop-i.self c.answer.new.self c.args.requests.now c.loop-i.outcomes c.loop-i.i c.index-requests-i.result c.answer.result
    (c.loop-i.auto.outcomes ∙ c.requires.each) c.loop-i-test.true c.index-requests-i.is c.loop-i.invariant c.answer.ensures
