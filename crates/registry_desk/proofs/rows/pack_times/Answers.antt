use Rattle.registry_desk.proofs.Words.{◌∙◌, registry_of}
use Rattle.registry_desk.proofs.AnswerFacts.{times_are}
use Rattle.registry_desk.proofs.InsideFacts.{both, found}
use Rattle.registry_desk.proofs.rows.pack_times.Goals as goal

pub returns : goal.returns
returns g c = found (both c.in_ok-withdrawn.ensures c.in_ok-last.ensures) (λ d it live.
    times_are c.in-Some.times (registry_of d) c.args.name.now c.args.live.items c.deref.result.now c.in_ok-last.last
    c.in-Some.ensures.versions c.in-Some.ensures.created c.in-Some.ensures.modified live (c.deref.ensures.value ∙ it.0) it.1)
