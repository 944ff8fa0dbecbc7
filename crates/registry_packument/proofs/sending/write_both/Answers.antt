use Rattle.registry_names.proofs.ByteStreamFacts.{on_err, Writes-append, WritesPrefix-append, WritesPrefix-longer}
use Rattle.registry_packument.proofs.sending.write_both.Goals as goal

pub returns-in_err-write_whole-clause-err : goal.returns-in_err-write_whole-clause-err
returns-in_err-write_whole-clause-err g c =
    on_err c.from_residual.result (WritesPrefix-longer c.args.second.now (rw c.as_bytes.ensures.value at c.in_err-write_whole.ensures.err))

pub returns-in_err-write_whole-2-clause-err : goal.returns-in_err-write_whole-2-clause-err
returns-in_err-write_whole-2-clause-err g c =
    on_err c.from_residual-in_err-write_whole-2.result
    (WritesPrefix-append (rw c.as_bytes.ensures.value at c.in_ok-write_whole.ensures.ok) (rw c.as_bytes-2.ensures.value at c.in_err-write_whole-2.ensures.err) c.in_err-write_whole-2.ensures.unknown)

pub returns-clause-ok : goal.returns-clause-ok
returns-clause-ok g c =
    Writes-append (rw c.as_bytes.ensures.value at c.in_ok-write_whole.ensures.ok) (rw c.as_bytes-2.ensures.value at c.in_ok-write_whole-2.ensures.ok) c.in_ok-write_whole-2.ensures.unknown
