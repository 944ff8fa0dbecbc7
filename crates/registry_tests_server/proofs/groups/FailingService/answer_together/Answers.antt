use Rattle.std.proofs.Common.{◌∷◌, [], List, refl}
use Rattle.registry_service.specs.Turns.{AnswersEach, Exchange, exchanges}
use Rattle.registry_tests_server.proofs.groups.FailingService.answer_together.Goals as goal

-- a service that promises nothing, and stays as it is, answers each
each-done : {D : Type 0} (M : D) (es : List Exchange) → AnswersEach (λ M r o N. Unit {0}) M es M
each-done M [] = refl
each-done M (e ∷ es) = (M, tt, each-done M es)

pub returns-clause-answers : goal.returns-clause-answers
returns-clause-answers c = each-done c.args.self.now (exchanges c.args.requests.now c.loop-place.outcomes)
