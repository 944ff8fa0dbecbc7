use Rattle.std.proofs.Common.{◌≡◌, ◌∙◌, true, rules, sym}
use Rattle.std.proofs.lemmas.Result.{err_from_is_err_and}
use Rattle.serde_json.specs.View.{members_view}
use Rattle.registry_names.specs.Versions.{IsVersion}
use Rattle.registry_documents.specs.Tags.{AreVersions}
use Rattle.registry_documents.proofs.LoopFacts.{faults_weaker, version_among}
use Rattle.registry_documents.proofs.tags.is_greatest_but.Goals as goal

pub returns-in_err-version-clause-err : goal.returns-in_err-version-clause-err
returns-in_err-version-clause-err c =
    let vs = members_view c.args.versions.now.entries in
    let there : c.has_version.result ≡ true = search rules in
    let q = err_from_is_err_and c.from_residual.result c.from_residual.ensures.1 in
    rw (q.1, q.2) (faults_weaker (IsVersion c.args.text.now) (AreVersions vs) (version_among vs c.args.text.now (sym c.has_version.ensures ∙ there)) _ c.in_err-version.ensures.err)
