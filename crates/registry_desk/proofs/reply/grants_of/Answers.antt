use Rattle.registry_desk.proofs.Words.{IfOk-weaker}
use Rattle.registry_desk.proofs.AnswerFacts.{grants_text_is}
use Rattle.registry_desk.proofs.reply.grants_of.Goals as goal

pub returns : goal.returns
returns c = IfOk-weaker c.list_text.result _ _ (λ text written S who o t shown. grants_text_is S who o t c.args.granted.items text written shown) c.list_text.ensures.ok
