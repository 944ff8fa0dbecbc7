use Rattle.std.proofs.Common.{Ok}
use Rattle.registry_rules.specs.declared.reply.Reply.TheVariants.{Doc, Refused}
use Rattle.registry_service.specs.HttpAnswers.{document_head}
use Rattle.registry_service.proofs.ResponseFacts.{responds-later, sent-none, sent-off, sent-short, sent-whole}
use Rattle.registry_service.proofs.responding.send.Goals as goal

pub returns-in-Whole-clause-responds : goal.returns-in-Whole-clause-responds
returns-in-Whole-clause-responds g c =
    let (text, answered, wrote) = c.in-Whole.ensures.sends in
    sent-whole g.D.Service.answers _ _ _ _ _ _ text _ _ _ _ (c.end_after_reply-end.ensures (Doc text)) c.is_some.ensures answered wrote

pub returns-in-WriteFault-clause-responds : goal.returns-in-WriteFault-clause-responds
returns-in-WriteFault-clause-responds g c =
    let (text, answered, wrote) = c.in-WriteFault.ensures.sends in
    sent-off g.D.Service.answers _ _ _ _ _ _ text _ _ _ _ (c.end_after_reply-end.ensures (Doc text)) c.is_some.ensures answered wrote

pub returns-in-Broken-default-true-clause-responds : goal.returns-in-Broken-default-true-clause-responds
returns-in-Broken-default-true-clause-responds g c =
    sent-short g.D.Service.answers _ _ _ _ _ _ _ _ _ _ _ _ (λ text. c.end_after_reply-end.ensures (Doc text)) c.is_some.ensures c.requires c.in-Broken-default-true.has_started-test c.in-Broken-default-true.ensures.sends

pub returns-in-Broken-default-false-clause-responds : goal.returns-in-Broken-default-false-clause-responds
returns-in-Broken-default-false-clause-responds g c =
    sent-none g.D.Service.answers (document_head c.is_some.result) _ _ _ _ _ _ _ c.turn_with.result _ _ _ _ _ c.respond.result c.in-Broken-default-false.has_started-test c.in-Broken-default-false.ensures.sends c.turn_with.ensures c.respond.ensures.unknown c.respond.ensures.responds

pub returns-in-Refused-clause-responds : goal.returns-in-Refused-clause-responds
returns-in-Refused-clause-responds g c =
    let (answered, nothing) = c.in-Refused.ensures.sends in
    responds-later g.D.Service.answers _ _ c.args.request.now c.args.is_last c.args.closes (Ok (Refused c.in-Refused.refusal)) c.turn_with-in-Refused.result _ _ _ _ _ c.respond-in-Refused.result
    answered nothing c.turn_with-in-Refused.ensures c.respond-in-Refused.ensures.unknown c.respond-in-Refused.ensures.responds
