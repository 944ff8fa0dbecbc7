use Rattle.registry_wire.proofs.KnownFacts.{known-more}
use Rattle.registry_wire.proofs.incoming.Incoming.came.Goals as goal

pub invariant_of-self-2 : goal.invariant_of-self-2
invariant_of-self-2 c = rw c.in_ok-extend_from_slice.ensures.items (rw c.make_room.ensures (known-more _ _ _ c.self.invariant))
