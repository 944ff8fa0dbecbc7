use Rattle.registry_desk.proofs.Words.{IfOk-weaker}
use Rattle.registry_desk.proofs.AnswerFacts.{members_text_is}
use Rattle.registry_desk.proofs.reply.members_of.Goals as goal

pub returns : goal.returns
returns c = IfOk-weaker c.list_text.result _ _ (λ text written S p shown. members_text_is S p c.args.members.items text written shown) c.list_text.ensures.ok
