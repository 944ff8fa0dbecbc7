use Rattle.std.proofs.Common.{arith, subst}
use Rattle.sqlite.specs.State.{HasCleanDisk}
use Rattle.registry_http.specs.Services.{shown}
use Rattle.registry_log.specs.Logs.{Logging, Remembers}
use Rattle.registry_log.proofs.EndFacts.{looks-same, sought-ends}
use Rattle.registry_log.proofs.KnownFacts.{named-before}
use Rattle.registry_log.proofs.logged_service.asked.Goals as goal

pub returns-clause-answers : goal.returns-clause-answers
returns-clause-answers g c = c.user_of-user.ensures.before c.args.request.now c.answer-outcome.result c.answer-outcome.new.self c.answer-outcome.ensures.answers

pub returns-clause-ends : goal.returns-clause-ends
returns-clause-ends g c =
    sought-ends g.S.Store c.args.inner.now c.user_of-user.new.inner c.answer-outcome.new.self c.answer-outcome.result
    c.user_of-user.ensures.over c.user_of-user.ensures.looks.survives.counts c.answer-outcome.ensures.ends

pub returns-clause-names : goal.returns-clause-names
returns-clause-names g c =
    let old = shown g.S.Store c.args.inner.now in
    let mid = shown g.S.Store c.user_of-user.new.inner in
    let new = shown g.S.Store c.answer-outcome.new.self in
    let were : HasCleanDisk new → HasCleanDisk mid = λ clean. omega (arith, c.answer-outcome.ensures.answers.survives.closes.clean, clean) in
    record {
      user = c.user_of-user.result;
      named = λ clean. named-before old old mid c.args.request.now.who c.user_of-user.result (looks-same old) (λ after. omega (arith, c.user_of-user.ensures.looks.survives.clean, after)) c.user_of-user.ensures.finds (were clean);
      begun = c.start_micros-begun.result;
      remembers = subst (λ (l : Logging). Remembers c.args.request.now.at c.user_of-user.result c.start_micros-begun.result l c.answered.new.self) c.start_micros-begun.ensures c.answered.ensures;
    }
