use Rattle.std.proofs.Common.{◌∙◌, sym}
use Rattle.registry_publish.proofs.MemberFacts.{sole_none, sole_some}
use Rattle.registry_publish.proofs.members.sole.Goals as goal

pub returns-then-len-ne1 : goal.returns-then-len-ne1
returns-then-len-ne1 c = rw (← c.in_ok-members.ensures) (sole_none c.in_ok-members.members.now.entries (λ e. c.if-len-ne1.true (c.len.ensures.len ∙ e)))

pub returns-in-Some : goal.returns-in-Some
returns-in-Some c =
    rw (c.as_str.ensures.value, ← c.in_ok-members.ensures)
    (sole_some c.in_ok-members.members.now.entries (c.in-Some.name.now, c.in-Some.member.now) (sym c.len.ensures.len ∙ c.if-len-ne1.false) c.in-Some.ensures.first)
