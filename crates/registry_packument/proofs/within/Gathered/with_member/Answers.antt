use Rattle.std.proofs.Common.{◌++◌}
use Rattle.std.proofs.lemmas.Result.{IfOk-weaker, IfErr-weaker}
use Rattle.registry_packument.specs.Packuments.{version_pair}
use Rattle.registry_packument.proofs.WithinFacts.{member_added, document_fault}
use Rattle.registry_packument.proofs.within.Gathered.with_member.Goals as goal

pub returns-clause-ok : goal.returns-clause-ok
returns-clause-ok c =
    let key = c.in_ok-member.member.key in
    let document = c.in_ok-member.member.document in
    let keyed = rw c.as_str.ensures.text at c.in_ok-with_key.ensures.ok in
    IfOk-weaker c.with-2.result _ _
    (λ more whole bytes has.
    ((bytes ++ key) ++ document, (member_added c.args.later (version_pair c.args.form c.args.row) bytes key document c.in_ok-member.ensures.ok, whole (bytes ++ key) (keyed bytes has))))
    (rw c.as_str-2.ensures.text at c.with-2.ensures.ok)

pub returns-clause-err : goal.returns-clause-err
returns-clause-err c =
    let key = c.in_ok-member.member.key in
    let document = c.in_ok-member.member.document in
    let keyed = rw c.as_str.ensures.text at c.in_ok-with_key.ensures.ok in
    IfErr-weaker c.with-2.result _ _
    (λ fault. document_fault c.args.limit c.args.later (version_pair c.args.form c.args.row) key document c.args.self c.in_ok-with_key.with_key fault c.in_ok-member.ensures.ok keyed)
    (rw c.as_str-2.ensures.text at c.with-2.ensures.err)
