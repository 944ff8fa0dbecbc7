use Rattle.registry_guests.proofs.GuestPoolFacts.{first-within, stay-within}
use Rattle.registry_guests.proofs.laws.guests_hold_little.Goals as goal

pub returns-clause-first : goal.returns-clause-first
returns-clause-first g c = first-within

pub returns-clause-stay : goal.returns-clause-stay
returns-clause-stay g c = stay-within g.S.Socket.received g.S.Socket.sent g.S.Socket.has_none g.S.Socket.is_full g.S.Socket.is_ended g.S.Socket.is_broken g.D.Service.answers g.D.Service.over
