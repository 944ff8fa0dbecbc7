use Rattle.registry_desk.proofs.Words.{Abbreviated, Full, Revised}
use Rattle.registry_desk.proofs.KeptFacts.{by_view}
use Rattle.registry_desk.proofs.registry.Registry.make_digests.Goals as goal

pub invariant_of-self : goal.invariant_of-self
invariant_of-self g c =
    let was = c.self.invariant in
    record {
      rests = was.rests;
      right = λ clean on. let right = was.right clean on in record { texts = by_view _ (right.texts Full) (right.texts Abbreviated) (right.texts Revised); archives = right.archives };
      limited = record { texts = by_view _ (was.limited.texts Full) (was.limited.texts Abbreviated) (was.limited.texts Revised); archives = was.limited.archives };
    }
