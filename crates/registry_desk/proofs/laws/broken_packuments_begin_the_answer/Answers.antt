use Rattle.registry_desk.proofs.SendingFacts.{broken_begin}
use Rattle.registry_desk.proofs.laws.broken_packuments_begin_the_answer.Goals as goal

pub returns : goal.returns
returns g c = broken_begin g.S.Store
