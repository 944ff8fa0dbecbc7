use Rattle.registry_desk.proofs.Words.{◌∙◌, ap, Text}
use Rattle.registry_desk.proofs.AnswerFacts.{head_is, head_of_rows}
use Rattle.registry_desk.proofs.sending.head_of.Goals as goal

pub returns-in-Some : goal.returns-in-Some
returns-in-Some c S named timed =
    c.in-Some.ensures.parts ∙ ap (λ (p : Text). head_of_rows p c.args.tags.items c.args.times) (c.in_ok-name.ensures ∙ c.text.ensures.text)
    ∙ head_is S c.args.name.now c.args.tags.items c.args.times named timed
