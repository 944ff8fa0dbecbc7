use Rattle.registry_npm.proofs.TurnFacts.{refused-turn, routed-turn}
use Rattle.registry_npm.proofs.turning.other_turn.Goals as goal

pub returns-in-Ok : goal.returns-in-Ok
returns-in-Ok g c = routed-turn g.D.Service.answers _ _ c.args.wanted.now c.args.at c.args.is_last c.in-Ok.request _ _ _ (rw c.in-Ok.is at c.request_of.ensures) c.answer-outcome.ensures c.other_labels-labels.ensures (rw c.of.ensures at c.turn_told.ensures)

pub returns-in-Err : goal.returns-in-Err
returns-in-Err g c = refused-turn g.D.Service.answers _ c.args.wanted.now c.args.at c.args.is_last c.in-Err.stop _ (rw c.in-Err.is at c.request_of.ensures) (rw (c.stopped.ensures, c.none.ensures) at c.turn_told-in-Err.ensures)
