use Rattle.std.proofs.Common.{◌∙◌, false}
use Rattle.std.proofs.lemmas.Result.{on_err_weaker}
use Rattle.registry_names.proofs.ByteStreamFacts.{Writes-append, WritesPrefix-append, WritesPrefix-longer, on_err}
use Rattle.registry_packument.specs.Packuments.{times_text}
use Rattle.registry_packument.proofs.PackFacts.{full_opening-parts}
use Rattle.registry_packument.proofs.StreamFacts.{on_ok_weaker}
use Rattle.registry_packument.proofs.opening.write_full_opening.Goals as goal

pub returns-in_err-write_whole-clause-err : goal.returns-in_err-write_whole-clause-err
returns-in_err-write_whole-clause-err g c =
    let head = c.args.head.now in
    let prefix = rw (c.as_bytes.ensures.value ∙ c.in_ok-before.ensures) at c.in_err-write_whole.ensures.err in
    on_err c.from_residual-in_err-write_whole.result (rw (full_opening-parts head) (WritesPrefix-longer (times_text head false head.times) prefix))

pub returns-clause-ok : goal.returns-clause-ok
returns-clause-ok g c =
    let head = c.args.head.now in
    let before = rw (c.as_bytes.ensures.value ∙ c.in_ok-before.ensures) at c.in_ok-write_whole.ensures.ok in
    on_ok_weaker c.write_times.result
    (λ wrote. rw (full_opening-parts head) (Writes-append before wrote c.write_times.ensures.unknown))
    (rw c.times.ensures.value at c.write_times.ensures.ok)

pub returns-clause-err : goal.returns-clause-err
returns-clause-err g c =
    let head = c.args.head.now in
    let before = rw (c.as_bytes.ensures.value ∙ c.in_ok-before.ensures) at c.in_ok-write_whole.ensures.ok in
    on_err_weaker c.write_times.result
    (λ prefix. rw (full_opening-parts head) (WritesPrefix-append before prefix c.write_times.ensures.unknown))
    (rw c.times.ensures.value at c.write_times.ensures.err)
