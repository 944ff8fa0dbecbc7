use Rattle.registry_desk.proofs.Words.{◌∙◌, sym, NoCaller, registry_of}
use Rattle.registry_desk.proofs.AnswerFacts.{nobody_is_refused, refused}
use Rattle.registry_desk.proofs.InsideFacts.{found, known_found, known_ran, then_known}
use Rattle.registry_desk.proofs.QueryFacts.{shown_is_from}
use Rattle.registry_desk.proofs.SendingFacts.{origin_is, query_denied}
use Rattle.registry_desk.proofs.sending.find_origin.Goals as goal

pub returns-in_default : goal.returns-in_default
returns-in_default g c = known_ran c.in_ok-caller.ensures.knows (c.in_ok-caller.ensures.nobody c.in_default.is) (λ d known. record {
  told = λ sound right. refused (registry_of d) c.args.request.now NoCaller (nobody_is_refused (registry_of d) c.args.request.now (sym c.in_default.is ∙ known));
  shows = λ right. tt;
})

-- the policy refuses it
pub returns : goal.returns
returns g c = found (known_found c.in_ok-caller.ensures.knows c.in_ok-_standing.ensures.finds) (λ d it. record {
  told = λ sound right. query_denied c.args.view (registry_of d) c.args.request.now c.args.name.now c.in-Some.caller c.requires.asks (sym c.in-Some.is ∙ it.0) c.in-Err.refusal (rw c.in-Err.is at (it.1 sound));
  shows = λ right. tt;
})

-- or not
pub returns-in-Ok : goal.returns-in-Ok
returns-in-Ok g c = then_known c.shown_from.result (known_found c.in_ok-caller.ensures.knows c.in_ok-_standing.ensures.finds) c.shown_from.ensures (λ from d it shown. record {
  told = λ sound right. origin_is c.args.view (registry_of d) c.args.request.now c.args.name.now c.in-Some.caller c.requires.asks (sym c.in-Some.is ∙ it.0) (rw c.in-Ok.is at (it.1 sound)).0 from (shown right);
  shows = λ right. shown_is_from c.args.view from (registry_of d) c.args.name.now (shown right);
})
