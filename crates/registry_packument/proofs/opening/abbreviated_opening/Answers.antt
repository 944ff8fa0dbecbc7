use Rattle.std.proofs.Common.{map, codes, true}
use Rattle.json.specs.Print.{quoted}
use Rattle.registry_packument.specs.ObjectTexts.{member_text, object_text}
use Rattle.registry_packument.specs.Packuments.{tag_pair, time_pair}
use Rattle.registry_packument.proofs.PackFacts.{short_assembled, tags_written}
use Rattle.registry_packument.proofs.opening.abbreviated_opening.Goals as goal

pub returns : goal.returns
returns c =
    let head = c.args.head.now in
    let tags = rw (c.tags.ensures.value, tags_written head.tags) at c.in_ok-push_object.ensures in
    let modified = rw c.modified.ensures at c.in_ok-push_moment.ensures in
    let name = rw c.name.ensures at c.in_ok-push_text_member.ensures in
    short_assembled _ _ _ _ _ _ _ _ (quoted (codes "dist-tags")) (quoted (codes "versions")) (object_text (map tag_pair head.tags))
    (member_text true (time_pair (codes "modified", head.modified))) (member_text true (codes "name", quoted head.name))
    c.new-out.ensures.bytes c.in_ok-push_str.ensures.bytes c.in_ok-push_key.ensures tags modified name c.in_ok-push_key-2.ensures c.in_ok-push_str-2.ensures.bytes
