use Rattle.std.proofs.Common.{refl, arith, ◌∙◌}
use Rattle.registry_wire.proofs.InboxFacts.{counts-none}
use Rattle.registry_service.proofs.CountFacts.{counts-append, fails-append, fails-none}
use Rattle.registry_service.proofs.CourseFacts.{break-on, cut-on, end-on, ended-unread, go-on, going-first, rest-on, within}
use Rattle.registry_service.specs.Turns.{profile, spoken}
use Rattle.registry_service.proofs.serving.serve.Goals as goal

pub turns-init : goal.turns-init
turns-init g c = record {
  going = going-first (spoken profile g.D.Service.answers) _ _ _;
  few = omega arith;
  counted = counts-none _ _;
  failures = refl;
}

pub returns-in-Err-clause-served : goal.returns-in-Err-clause-served
returns-in-Err-clause-served g c =
    rw c.in-Err.ensures.unasked (rest-on (spoken profile g.D.Service.answers) _ _ _ _ _ _ _ _ c.turns.invariant.going c.in-Err.ensures.unread c.in-Err.ensures.turns)

pub returns-in-Err-clause-counted : goal.returns-in-Err-clause-counted
returns-in-Err-clause-counted g c = fails-append c.in-Err.end _ _ _ _ _ _ c.turns.invariant.counted c.in-Err.ensures.counted

pub returns-in-Ok-BrokenOff-clause-served : goal.returns-in-Ok-BrokenOff-clause-served
returns-in-Ok-BrokenOff-clause-served g c =
    let turns = rw c.in-Ok-BrokenOff.field-0-is at c.in-Ok-BrokenOff.ensures.turns in
    break-on (spoken profile g.D.Service.answers) _ _ _ _ _ _ _ _ _ _ c.turns.invariant.going c.in-Ok-BrokenOff.ensures.unread c.in-Ok-BrokenOff.ensures.unknown refl turns

pub returns-in-Ok-BrokenOff-clause-counted : goal.returns-in-Ok-BrokenOff-clause-counted
returns-in-Ok-BrokenOff-clause-counted g c = counts-append _ _ _ _ _ _ c.turns.invariant.counted c.in-Ok-BrokenOff.ensures.counted

pub returns-in-Ok-CutShort-clause-served : goal.returns-in-Ok-CutShort-clause-served
returns-in-Ok-CutShort-clause-served g c =
    let turns = rw c.in-Ok-CutShort.field-0-is at c.in-Ok-CutShort.ensures.turns in
    cut-on (spoken profile g.D.Service.answers) _ _ _ _ _ _ _ _ _ _ _ c.turns.invariant.going c.in-Ok-CutShort.ensures.unread c.in-Ok-CutShort.ensures.unknown refl turns

pub returns-in-Ok-CutShort-clause-counted : goal.returns-in-Ok-CutShort-clause-counted
returns-in-Ok-CutShort-clause-counted g c = counts-append _ _ _ _ _ _ c.turns.invariant.counted c.in-Ok-CutShort.ensures.counted

pub returns-in-Some-clause-served : goal.returns-in-Some-clause-served
returns-in-Some-clause-served g c =
    let turns = rw c.in-Ok-Whole.field-0-is at c.in-Ok-Whole.ensures.turns in
    end-on (spoken profile g.D.Service.answers) _ _ _ _ _ _ _ _ _ _ _ _ _ _ c.turns.invariant.going c.in-Ok-Whole.ensures.unread c.in-Ok-Whole.ensures.unknown refl turns c.from-requests.ensures c.in-Some.is

pub returns-in-Some-clause-counted : goal.returns-in-Some-clause-counted
returns-in-Some-clause-counted g c =
    let turns = rw c.in-Ok-Whole.field-0-is at c.in-Ok-Whole.ensures.turns in
    fails-none c.in-Some.end _ _ _ _ (ended-unread (spoken profile g.D.Service.answers) _ _ _ _ _ _ _ _ _ turns c.in-Some.is) (counts-append _ _ _ _ _ _ c.turns.invariant.counted c.in-Ok-Whole.ensures.counted)

pub turns-preserved : goal.turns-preserved
turns-preserved g c =
    let turns = rw c.in-Ok-Whole.field-0-is at c.in-Ok-Whole.ensures.turns in
    let written = rw c.in-Ok-Whole.field-0-is at c.in-Ok-Whole.ensures.written in
    let on = go-on (spoken profile g.D.Service.answers) _ _ _ _ _ _ _ _ _ _ _ _ _ c.turns.invariant.going c.in-Ok-Whole.ensures.unread c.in-Ok-Whole.ensures.unknown refl turns c.from-requests.ensures c.in-None.is in
    record {
      going = on.0;
      few = within c.turns.requests c.from-requests.result c.turns.invariant.few on.1 on.2;
      counted = counts-append _ _ _ _ _ _ c.turns.invariant.counted c.in-Ok-Whole.ensures.counted;
      failures = written ∙ c.turns.invariant.failures;
    }
