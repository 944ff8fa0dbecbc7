use Rattle.std.proofs.Common.{codes}
use Rattle.json.specs.Json.{string}
use Rattle.json.specs.Value.{members_view}
use Rattle.json.proofs.Trees.{view-Object}
use Rattle.registry_packument.specs.Documents.{members_without}
use Rattle.registry_packument.proofs.DocumentFacts.{MembersHaveNumbers-without, MembersHaveNumbers-placed}
use Rattle.registry_packument.proofs.document.deprecated.Goals as goal

pub text_of-requires : goal.text_of-requires
text_of-requires c =
    let key = codes "deprecated" in
    let old = members_view c.in_ok-members.members.items in
    rw (view-Object c.put_text.new.members, c.in_ok-put_text.ensures)
    (MembersHaveNumbers-placed key (string c.args.message.now) (members_without key old) tt (MembersHaveNumbers-without key old c.in_ok-members.ensures.numbers))
