use Rattle.registry_server.proofs.OutgoingFacts.{left-of_three}
use Rattle.registry_server.proofs.outgoing.left_of.Goals as goal

pub returns : goal.returns
returns c =
    left-of_three c.args.sent _ _ _ _ _ _ _ _ c.left_of_piece-over.ensures.left c.left_of_piece-over.ensures.over
    c.left_of_piece-over-2.ensures.left c.left_of_piece-over-2.ensures.over c.left_of_piece.ensures.left
