use Rattle.registry_desk.proofs.Words.{map, rules, Ok, Fault, change_of}
use Rattle.registry_desk.specs.Answering.{Does, IsReplied}
use Rattle.registry_desk.proofs.InsideFacts.{does_so, known_then}
use Rattle.registry_desk.proofs.answer.reply_and_apply.Goals as goal

pub returns-in_err-make_all-clause-answers : goal.returns-in_err-make_all-clause-answers
returns-in_err-make_all-clause-answers g c =
    let it : Does {R = Unit {0}} {E = Fault} g.S.Store c.args.tx.now c.make_all.new.tx c.make_all.result (λ _ _ _. Unit {0}) = known_then c.make_all.result c.in_ok-reply.ensures.knows c.make_all.ensures (λ _ _ _ _ _. tt) in
    record { since = it.since; clean = it.clean; ran = search rules; done = search rules }

pub returns-clause-answers : goal.returns-clause-answers
returns-clause-answers g c =
    let given = c.in_ok-reply.reply in
    does_so (known_then {R = λ _ d e. IsReplied c.args.caller.now c.args.what.now (map change_of c.args.changes.now) c.args.caches.now given d e} (Ok tt) c.in_ok-reply.ensures.knows c.in_ok-make_all.ensures
    (λ _ d e told made. record { answer = told; made = made })) (λ d e it. it)
