use Rattle.std.proofs.Common.{Err, subst}
use Rattle.sqlite.specs.Held.{state}
use Rattle.registry_desk.specs.Promises.{Applied}
use Rattle.registry_http.specs.Services.{EndsBy, shown}
use Rattle.registry_http.proofs.LookFacts.{ends-later, leaves-alone, looked-applies}
use Rattle.registry_http.proofs.service.RegistryServiceService.answer.Goals as goal

pub returns-in-Err-Database-clause-answers : goal.returns-in-Err-Database-clause-answers
returns-in-Err-Database-clause-answers g c =
    let new = state g.S.Store c.look.new.registry in
    subst (λ was. Applied (shown g.S.Store was) new c.args.request.now (Err c.look.result)) c.self.view_is
    (looked-applies (state g.S.Store c.asked.new.registry) new (record { opened = c.look.ensures.opened; stored = c.look.ensures.stored; survives = c.look.ensures.survives; idle = c.look.ensures.idle })
    (state g.S.Store c.self.inside.registry) c.args.request.now _ c.look.result (leaves-alone _ _ c.args.request.now c.in-Err-Database.ensures.1) c.in-Err-Database.ensures.0)

pub returns-in-Err-Database-clause-ends : goal.returns-in-Err-Database-clause-ends
returns-in-Err-Database-clause-ends g c =
    let new = state g.S.Store c.look.new.registry in
    subst (λ was. EndsBy (shown g.S.Store was) new was.is_over c.look.new.is_over c.look.result) c.self.view_is
    (ends-later (state g.S.Store c.self.inside.registry) (state g.S.Store c.asked.new.registry) new c.self.inside.is_over c.look.new.is_over c.look.result c.asked.ensures.1.counts c.look.ensures.ends)
