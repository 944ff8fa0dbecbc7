use Rattle.registry_desk.proofs.Words.{◌∙◌, ap, sym, subst₂, Count, Action, reply, AreRowsOf, Rows}
use Rattle.registry_desk.proofs.AnswerFacts.{count_is}
use Rattle.registry_desk.proofs.reply.reply_of.Goals as goal

pub returns-in-WithdrawAll-Live-clause-is : goal.returns-in-WithdrawAll-Live-clause-is
returns-in-WithdrawAll-Live-clause-is c = λ S who found.
    let shown = subst₂ (λ (rows : Rows) (what : Action). AreRowsOf rows S who what) c.in-WithdrawAll-Live.is-1 c.in-WithdrawAll-Live.is-0 found in
    ap Count (c.number_of.ensures ∙ count_is S _ _ shown) ∙ ap (reply S who) (sym c.in-WithdrawAll-Live.is-0)
