use Rattle.registry_names.proofs.ByteStreamFacts.{Writes-append, WritesPrefix-append, WritesPrefix-longer, on_err}
use Rattle.registry_cli.proofs.PrintFacts.{on-err, on-ok}
use Rattle.registry_cli.proofs.printing.write_two.Goals as goal

pub returns-in_err-write_whole-clause-err : goal.returns-in_err-write_whole-clause-err
returns-in_err-write_whole-clause-err g c = on_err _ (WritesPrefix-longer c.args.second.now c.in_err-write_whole.ensures.err)

pub returns-clause-ok : goal.returns-clause-ok
returns-clause-ok g c = on-ok _ (λ second. Writes-append c.in_ok-write_whole.ensures.ok second c.write_whole-2.ensures.unknown) c.write_whole-2.ensures.ok

pub returns-clause-err : goal.returns-clause-err
returns-clause-err g c = on-err _ (λ second. WritesPrefix-append c.in_ok-write_whole.ensures.ok second c.write_whole-2.ensures.unknown) c.write_whole-2.ensures.err
