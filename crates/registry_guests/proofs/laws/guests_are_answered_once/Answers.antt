use Rattle.registry_guests.proofs.BesideFacts.{answers-once}
use Rattle.registry_guests.proofs.laws.guests_are_answered_once.Goals as goal

pub returns : goal.returns
returns g c = answers-once g.S.Socket.received g.S.Socket.sent g.D.Service.answers g.S.Socket.has_none
