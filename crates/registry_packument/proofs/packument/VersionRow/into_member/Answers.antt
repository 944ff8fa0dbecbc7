use Rattle.std.proofs.Common.{◌∙◌}
use Rattle.registry_packument.specs.Abbreviated.{document_in}
use Rattle.registry_packument.proofs.MemberFacts.{member_made}
use Rattle.registry_packument.proofs.packument.VersionRow.into_member.Goals as goal

pub returns-clause-ok : goal.returns-clause-ok
returns-clause-ok c =
    let key = rw (c.as_str-2.ensures.text, c.in_ok-key.ensures.bytes) at c.in_ok-push_key.ensures in
    member_made c.from.result c.args.self.version c.in_ok-document.document c.args.later (document_in c.args.form c.args.self.manifest c.args.self.message)
    (c.from.ensures ∙ key) (rw c.as_str-3.ensures.text at c.in_ok-document.ensures.ok)
