use Rattle.registry_desk.proofs.Words.{◌∙◌, Option, IfOk-weaker, ap, sym, Caller, registry_of}
use Rattle.registry_laws_history.specs.Answers as answers
use Rattle.registry_desk.proofs.InsideFacts.{known_of}
use Rattle.registry_desk.proofs.answer.load_reply.Goals as goal

-- the reply that is made of the rows is the one to the caller
pub returns-clause-knows : goal.returns-clause-knows
returns-clause-knows g c = known_of c.reply_from_rows.result c.in_ok-rows.ensures
    (λ d known. IfOk-weaker c.reply_from_rows.result _ _
    (λ given made sound. made (registry_of d) c.in-Some.caller (known sound) ∙ ap (λ (by : Option Caller). answers.reply_to (registry_of d) by c.args.what.now) (sym c.in-Some.is))
    c.reply_from_rows.ensures.is)
