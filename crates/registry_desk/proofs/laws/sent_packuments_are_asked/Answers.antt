use Rattle.registry_desk.proofs.SendingFacts.{sent_are_asked}
use Rattle.registry_desk.proofs.laws.sent_packuments_are_asked.Goals as goal

pub returns : goal.returns
returns g c = sent_are_asked g.S.Store
