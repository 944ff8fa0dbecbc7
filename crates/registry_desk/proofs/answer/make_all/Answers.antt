use Rattle.registry_desk.proofs.Words.{err_from_is_err_and, map, refl, subst, take_all, change_of}
use Rattle.registry_desk.specs.Answering.{AreMade}
use Rattle.registry_desk.proofs.InsideFacts.{does_fail, does_nothing, does_so, made_next, makes_does}
use Rattle.registry_desk.proofs.answer.make_all.Goals as goal

pub loop-change-init : goal.loop-change-init
loop-change-init g c = does_nothing (λ d. record { made = refl; in_range = λ were. were })

pub loop-change-preserved : goal.loop-change-preserved
loop-change-preserved g c =
    made_next c.args.changes.now c.loop-change.change-index c.change-item.result c.loop-change-test.true c.change-item.is c.loop-change.invariant c.in_ok-make.ensures.makes c.in_ok-make.ensures.in_time

pub returns-in_err-make : goal.returns-in_err-make
returns-in_err-make g c =
    let fault = err_from_is_err_and c.from_residual.result c.from_residual.ensures.1 in
    does_fail c.from_residual.result fault.0 fault.1 c.loop-change.invariant (makes_does c.make.result c.make.ensures.makes)

pub returns : goal.returns
returns g c = does_so c.loop-change.invariant
    (λ d e it. subst (λ changes. AreMade (map change_of changes) d e) (take_all c.loop-change.change-index c.args.changes.now c.loop-change-test.false) it)
