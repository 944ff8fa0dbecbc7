use Rattle.std.proofs.Common.{refl, sym, ◌∙◌}
use Rattle.registry_npm.specs.Bodies.{reads_access}
use Rattle.registry_npm.proofs.body.access_of.Goals as goal

pub returns-then-has_member : goal.returns-then-has_member
unfolding reads_access
returns-then-has_member c = rw (sym c.has_member.ensures ∙ c.if-has_member.true) refl

pub returns : goal.returns
unfolding reads_access
returns c = rw (sym c.has_member.ensures ∙ c.if-has_member.false) c.status_at.ensures
