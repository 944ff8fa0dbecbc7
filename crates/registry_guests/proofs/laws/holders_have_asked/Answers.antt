use Rattle.registry_guests.proofs.ControlFacts.{holders-ask-first, holders-have-asked, stops-stay}
use Rattle.registry_guests.proofs.laws.holders_have_asked.Goals as goal

pub returns-clause-first : goal.returns-clause-first
returns-clause-first g c = holders-ask-first g.S.Socket.received g.S.Socket.sent g.S.Socket.has_none g.S.Socket.is_ended g.S.Socket.is_broken

pub returns-clause-asked : goal.returns-clause-asked
returns-clause-asked g c = holders-have-asked g.S.Socket.received g.S.Socket.sent g.S.Socket.has_none g.S.Socket.is_ended g.S.Socket.is_broken

pub returns-clause-stay : goal.returns-clause-stay
returns-clause-stay g c = stops-stay g.S.Socket.received g.S.Socket.sent g.S.Socket.has_none g.S.Socket.is_ended g.S.Socket.is_broken
