use Rattle.std.proofs.Common.{map, codes}
use Rattle.json.specs.Print.{quoted}
use Rattle.registry_packument.specs.ObjectTexts.{object_text}
use Rattle.registry_packument.specs.Packuments.{tag_pair}
use Rattle.registry_packument.proofs.PackFacts.{assembled, tags_written}
use Rattle.registry_packument.proofs.opening.before_times.Goals as goal

pub returns : goal.returns
returns c =
    let id = rw c.name-name.ensures at c.in_ok-push_text_member.ensures in
    let tags = rw (c.tags.ensures.value, tags_written c.args.head.now.tags) at c.in_ok-push_object.ensures in
    let name = rw c.name-name.ensures at c.in_ok-push_text_member-2.ensures in
    assembled _ _ _ _ _ _ _ _ (quoted (codes "_id")) (quoted (codes "dist-tags")) (quoted (codes "name")) (quoted (codes "time"))
    (quoted c.args.head.now.name) (object_text (map tag_pair c.args.head.now.tags))
    c.new-out.ensures.bytes c.in_ok-push_str.ensures.bytes id c.in_ok-push_key.ensures tags name c.in_ok-push_key-2.ensures c.in_ok-push_str-2.ensures.bytes
