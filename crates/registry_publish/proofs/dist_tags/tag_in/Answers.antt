use Rattle.std.proofs.Common.{◌∙◌, sym, true, false, arith}
use Rattle.registry_publish.proofs.TagFacts.{tag_of_many, tag_of_one}
use Rattle.registry_publish.proofs.dist_tags.tag_in.Goals as goal

pub returns-then-len-gt1 : goal.returns-then-len-gt1
returns-then-len-gt1 c = tag_of_many _ c.args.members.now.entries (omega (arith, c.len.ensures.len))

pub returns-then-is_text : goal.returns-then-is_text
returns-then-is_text c =
    rw c.as_str.ensures.value
    (tag_of_one c.args.version.now c.args.members.now.entries (c.in-Some.tag.now, c.in-Some.named.now) true (sym c.is_text.ensures ∙ c.if-is_text.true)
    (omega (arith, c.len.ensures.len)) c.in-Some.ensures.first)

pub returns-else-is_text : goal.returns-else-is_text
returns-else-is_text c =
    tag_of_one c.args.version.now c.args.members.now.entries (c.in-Some.tag.now, c.in-Some.named.now) false (sym c.is_text.ensures ∙ c.if-is_text.false)
    (omega (arith, c.len.ensures.len)) c.in-Some.ensures.first
