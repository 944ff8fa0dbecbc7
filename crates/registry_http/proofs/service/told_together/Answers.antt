use Rattle.std.proofs.Common.{◌∙◌, inr, refl, sym}
use Rattle.sqlite.proofs.StateLemmas.{survives_then}
use Rattle.sqlite.specs.Held.{state}
use Rattle.registry_http.specs.Services.{serving}
use Rattle.registry_http.proofs.LookFacts.{ends-later}
use Rattle.registry_http.proofs.TogetherFacts.{answered-each, answered-ends, answered-shut, told-each, told-ends, told-shut}
use Rattle.registry_http.proofs.service.told_together.Goals as goal

pub returns-then-not-failed-clause-answers : goal.returns-then-not-failed-clause-answers
returns-then-not-failed-clause-answers g c =
    answered-each g.S.Store c.args.registry.now c.asked_together.new.registry c.args.is_over.now c.args.requests.now c.asked_together.new.outcomes c.asked_together.ensures.together

pub returns-then-not-failed-clause-one : goal.returns-then-not-failed-clause-one
returns-then-not-failed-clause-one g c = c.asked_together.ensures.together.one

pub returns-then-not-failed-clause-survives : goal.returns-then-not-failed-clause-survives
returns-then-not-failed-clause-survives g c = c.asked_together.ensures.together.survives

pub returns-then-not-failed-clause-shut : goal.returns-then-not-failed-clause-shut
returns-then-not-failed-clause-shut g c =
    answered-shut g.S.Store (serving c.asked_together.new.registry c.args.is_over.now) c.asked_together.new.outcomes (sym c.failed.ensures ∙ c.if-not-failed.true) c.asked_together.ensures.together.one

pub returns-then-not-failed-clause-ends : goal.returns-then-not-failed-clause-ends
returns-then-not-failed-clause-ends g c =
    answered-ends g.S.Store (serving c.args.registry.now c.args.is_over.now) (serving c.asked_together.new.registry c.args.is_over.now) c.asked_together.new.outcomes refl

pub returns-clause-answers : goal.returns-clause-answers
returns-clause-answers g c =
    told-each g.S.Store c.args.registry.now c.asked_together.new.registry c.look-fault.new.registry c.args.is_over.now c.look-fault.new.is_over c.args.requests.now c.asked_together.new.outcomes c.tell_all.new.outcomes c.look-fault.result
    (record { opened = c.look-fault.ensures.opened; stored = c.look-fault.ensures.stored; survives = c.look-fault.ensures.survives; idle = c.look-fault.ensures.idle }) c.requires.commands c.asked_together.ensures.together
    (sym c.failed.ensures ∙ c.if-not-failed.false) c.asked_together.ensures.many c.tell_all.ensures.many c.tell_all.ensures.told

pub returns-clause-one : goal.returns-clause-one
returns-clause-one g c = inr (c.look-fault.result, c.tell_all.ensures.told)

pub returns-clause-survives : goal.returns-clause-survives
returns-clause-survives g c =
    survives_then (state g.S.Store c.args.registry.now) (state g.S.Store c.asked_together.new.registry) (state g.S.Store c.look-fault.new.registry) _ _ _ (λ _ _ may. may) (λ _ _ none. absurd none)
    c.asked_together.ensures.together.survives c.look-fault.ensures.survives

pub returns-clause-shut : goal.returns-clause-shut
returns-clause-shut g c = told-shut g.S.Store (serving c.look-fault.new.registry c.look-fault.new.is_over) c.look-fault.result c.tell_all.new.outcomes c.tell_all.ensures.told c.look-fault.ensures.shut

pub returns-clause-ends : goal.returns-clause-ends
returns-clause-ends g c =
    told-ends g.S.Store (serving c.args.registry.now c.args.is_over.now) (serving c.look-fault.new.registry c.look-fault.new.is_over) c.look-fault.result c.tell_all.new.outcomes c.tell_all.ensures.told
    (ends-later (state g.S.Store c.args.registry.now) (state g.S.Store c.asked_together.new.registry) (state g.S.Store c.look-fault.new.registry) c.args.is_over.now c.look-fault.new.is_over c.look-fault.result
    c.asked_together.ensures.together.survives.counts c.look-fault.ensures.ends)
