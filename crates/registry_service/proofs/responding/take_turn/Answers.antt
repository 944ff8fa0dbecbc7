use Rattle.std.proofs.Common.{[], subst, sym}
use Rattle.registry_service.proofs.ResponseFacts.{none-asked, responds-request}
use Rattle.registry_service.specs.HttpAnswers.{Outcome}
use Rattle.registry_service.specs.Turns.{IsAnswered, profile, spoken}
use Rattle.registry_service.proofs.responding.take_turn.Goals as goal

pub returns-in-Err-clause-responds : goal.returns-in-Err-clause-responds
returns-in-Err-clause-responds g c =
    let dialogue = spoken profile g.D.Service.answers in
    let none = none-asked g.D.Service.answers c.args.service.now c.args.wanted.now c.args.at c.in-Err.stop c.in-Err.ensures in
    responds-request g.D.Service.answers _ _ c.args.wanted.now c.args.at c.args.is_last [] _ _ _ _ _ _
    (subst (λ (o : Outcome). IsAnswered dialogue c.args.service.now c.args.wanted.now c.args.at [] o c.args.service.now) (sym c.stopped.ensures) none) c.turn_with.ensures c.respond.ensures.responds
