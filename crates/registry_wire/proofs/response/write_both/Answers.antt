use Rattle.registry_names.proofs.ByteStreamFacts.{WritesPrefix-append}
use Rattle.registry_wire.proofs.ResponseFacts.{on-err}
use Rattle.registry_wire.proofs.response.write_both.Goals as goal

pub returns-clause-err : goal.returns-clause-err
returns-clause-err g c = on-err _ (λ second. WritesPrefix-append c.in_ok-write_whole.ensures.ok second c.write_whole-2.ensures.unknown) c.write_whole-2.ensures.err
