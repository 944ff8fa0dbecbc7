use Rattle.std.proofs.Common.{arith}
use Rattle.std.proofs.lemmas.Result.{err_from_is_err_and}
use Rattle.registry_publish.proofs.FormFacts.{stops_document}
use Rattle.registry_publish.proofs.form.PublishForm.read.Goals as goal

pub of-requires : goal.of-requires
of-requires c = (c.args.body.now, (omega arith, c.in_ok-value.ensures.ok.0, c.in_ok-value.ensures.ok.1))

pub returns : goal.returns
returns c = c.of.ensures c.args.body.now (omega arith, c.in_ok-value.ensures.ok.0, c.in_ok-value.ensures.ok.1)

pub returns-in_err-value : goal.returns-in_err-value
returns-in_err-value c =
    let q = err_from_is_err_and c.from_residual.result c.from_residual.ensures.1 in
    rw (q.1, q.2) (stops_document c.args.body.now (omega arith) _ c.in_err-value.ensures.err)
