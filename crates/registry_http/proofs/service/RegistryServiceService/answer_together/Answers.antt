use Rattle.std.proofs.Common.{subst}
use Rattle.sqlite.specs.State.{Survives}
use Rattle.registry_desk.specs.Together.{LeavesTogether}
use Rattle.registry_service.specs.Turns.{AnswersEach, exchanges}
use Rattle.registry_http.specs.Services.{EachEndsByFault, applied, serving, shown}
use Rattle.registry_http.proofs.service.RegistryServiceService.answer_together.Goals as goal

pub returns-clause-answers : goal.returns-clause-answers
returns-clause-answers g c =
    subst (λ was. AnswersEach (applied (shown g.S.Store)) was (exchanges c.args.requests.now c.told_together.new.outcomes) (serving c.told_together.new.registry c.told_together.new.is_over)) c.self.view_is c.told_together.ensures.answers

pub returns-clause-survives : goal.returns-clause-survives
returns-clause-survives g c =
    subst (λ was. Survives (shown g.S.Store was) (shown g.S.Store (serving c.told_together.new.registry c.told_together.new.is_over)) (LeavesTogether c.args.requests.now (shown g.S.Store was))) c.self.view_is c.told_together.ensures.survives

pub returns-clause-ends : goal.returns-clause-ends
returns-clause-ends g c =
    subst (λ was. EachEndsByFault g.S.Store was (serving c.told_together.new.registry c.told_together.new.is_over) c.told_together.new.outcomes) c.self.view_is c.told_together.ensures.ends
