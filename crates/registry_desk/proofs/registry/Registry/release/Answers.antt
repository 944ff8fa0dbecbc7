use Rattle.registry_desk.proofs.CommitFacts.{rests_rises}
use Rattle.registry_desk.proofs.registry.Registry.release.Goals as goal

pub returns-clause-rises : goal.returns-clause-rises
returns-clause-rises g c = rests_rises _ c.self.invariant.rests
