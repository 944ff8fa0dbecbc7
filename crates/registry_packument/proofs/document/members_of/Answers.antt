use Rattle.std.proofs.lemmas.Result.{err_from_is_err_and}
use Rattle.json.specs.Value.{value_view, members_view}
use Rattle.registry_packument.proofs.ManifestFacts.{is_fault-document, is_fault-no_object}
use Rattle.registry_packument.proofs.document.members_of.Goals as goal

pub returns-in_err-value-clause-err : goal.returns-in_err-value-clause-err
returns-in_err-value-clause-err c =
    let q = err_from_is_err_and c.from_residual.result c.from_residual.ensures.1 in
    rw (q.1, q.2) (is_fault-document c.args.manifest.now _ c.in_err-value.ensures.err)

pub returns-clause-err : goal.returns-clause-err
returns-clause-err c =
    rw c.ok_or.ensures.value (is_fault-no_object c.args.manifest.now (value_view c.in_ok-value.value) (λ (m : _). members_view m.items) c.members_in.result c.in_ok-value.ensures.ok c.members_in.ensures)
