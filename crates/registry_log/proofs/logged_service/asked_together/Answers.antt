use Rattle.std.proofs.Common.{◌∙◌, arith, subst, sym}
use Rattle.registry_http.specs.Services.{applied, shown}
use Rattle.registry_log.specs.Logs.{Logging, RemembersAll}
use Rattle.registry_log.proofs.EndFacts.{each-sought-ends, sought-together, survives-same}
use Rattle.registry_log.proofs.KnownFacts.{each-before, no-request, some-asked}
use Rattle.registry_log.proofs.logged_service.asked_together.Goals as goal

pub returns-clause-answers : goal.returns-clause-answers
returns-clause-answers g c =
    each-before (applied (shown g.S.Store)) c.args.inner.now c.known-asked.new.inner c.answer_together.new.self c.args.requests.now c.answer_together.new.outcomes
    c.known-asked.ensures.before c.answer_together.ensures.many (some-asked c.args.requests.now (sym c.is_empty.ensures ∙ c.if-is_empty.false)) c.answer_together.ensures.answers

pub returns-clause-ends : goal.returns-clause-ends
returns-clause-ends g c =
    each-sought-ends g.S.Store c.args.inner.now c.known-asked.new.inner c.answer_together.new.self c.answer_together.new.outcomes
    c.known-asked.ensures.over c.known-asked.ensures.looks.survives.counts c.answer_together.ensures.ends

pub returns-clause-survives : goal.returns-clause-survives
returns-clause-survives g c =
    sought-together (shown g.S.Store c.args.inner.now) (shown g.S.Store c.known-asked.new.inner) (shown g.S.Store c.answer_together.new.self) c.known-asked.ensures.looks c.args.requests.now c.answer_together.ensures.survives

pub returns-then-is_empty-clause-survives : goal.returns-then-is_empty-clause-survives
returns-then-is_empty-clause-survives g c = survives-same (shown g.S.Store c.args.inner.now) _

pub returns-clause-names : goal.returns-clause-names
returns-clause-names g c = λ some. record {
  asked = c.known-asked.result.items;
  first = c.known-asked.ensures.first;
  named = λ clean. c.known-asked.ensures.named (omega (arith, c.answer_together.ensures.survives.clean, clean));
  begun = c.start_micros-begun.result;
  remembers = subst (λ (l : Logging). RemembersAll c.known-asked.result.items c.start_micros-begun.result l c.answered_together.new.self) c.start_micros-begun.ensures c.answered_together.ensures;
}

pub returns-then-is_empty-clause-names : goal.returns-then-is_empty-clause-names
returns-then-is_empty-clause-names g c = λ some. absurd (no-request c.args.requests.now (sym c.is_empty.ensures ∙ c.if-is_empty.true) some)
