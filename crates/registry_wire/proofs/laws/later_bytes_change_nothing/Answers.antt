use Rattle.registry_wire.proofs.RequestFacts.{request-more, bad-more}
use Rattle.registry_wire.proofs.laws.later_bytes_change_nothing.Goals as goal

pub returns : goal.returns
returns c = record { request = request-more; bad = bad-more }
