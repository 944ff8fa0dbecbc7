use Rattle.std.proofs.Common.{◌∷◌, [], subst, sym}
use Rattle.registry_service.proofs.ResponseFacts.{none-asked, one-asked}
use Rattle.registry_service.specs.HttpAnswers.{Outcome}
use Rattle.registry_service.specs.Turns.{IsAnswered, exchange, profile, spoken}
use Rattle.registry_service.proofs.turning.answered.Goals as goal

pub returns-in-Ok : goal.returns-in-Ok
returns-in-Ok g c = (
  exchange c.in-Ok.request c.answer.result ∷ [],
  one-asked g.D.Service.answers c.args.service.now _ c.args.wanted.now c.args.at c.in-Ok.request c.answer.result c.in-Ok.ensures c.answer.ensures,
)

pub returns-in-Err : goal.returns-in-Err
returns-in-Err g c =
    let none = none-asked g.D.Service.answers c.args.service.now c.args.wanted.now c.args.at c.in-Err.stop c.in-Err.ensures in (
      [],
      subst (λ (o : Outcome). IsAnswered (spoken profile g.D.Service.answers) c.args.service.now c.args.wanted.now c.args.at [] o c.args.service.now) (sym c.stopped.ensures) none,
    )
