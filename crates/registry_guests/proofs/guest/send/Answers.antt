use Rattle.std.proofs.Common.{◌∙◌, inl, refl, sym}
use Rattle.registry_guests.proofs.GuestFacts.{none-left, sends-count, sends-none}
use Rattle.registry_guests.proofs.guest.send.Goals as goal

pub returns-then-is_empty-clause-sends : goal.returns-then-is_empty-clause-sends
returns-then-is_empty-clause-sends g c =
    sends-count g.S.Socket.received g.S.Socket.sent c.in-Moved.count _ _ _ _ _ c.parts.ensures c.in-Moved.ensures.sent c.in-Moved.ensures.received c.advance.ensures

pub returns-else-is_empty-clause-sends : goal.returns-else-is_empty-clause-sends
returns-else-is_empty-clause-sends g c =
    sends-count g.S.Socket.received g.S.Socket.sent c.in-Moved.count _ _ _ _ _ c.parts.ensures c.in-Moved.ensures.sent c.in-Moved.ensures.received c.advance.ensures

pub returns-in-Waits-clause-sends : goal.returns-in-Waits-clause-sends
returns-in-Waits-clause-sends g c = sends-none g.S.Socket.received g.S.Socket.sent _ _ _ c.in-Waits.ensures.sent c.in-Waits.ensures.received

pub returns-in-Ended-clause-sends : goal.returns-in-Ended-clause-sends
returns-in-Ended-clause-sends g c = sends-none g.S.Socket.received g.S.Socket.sent _ _ _ c.in-Ended.ensures.sent c.in-Ended.ensures.received

pub returns-in-Broken-clause-sends : goal.returns-in-Broken-clause-sends
returns-in-Broken-clause-sends g c = sends-none g.S.Socket.received g.S.Socket.sent _ _ _ c.in-Broken.ensures.sent c.in-Broken.ensures.received

pub returns-then-is_empty-clause-over : goal.returns-then-is_empty-clause-over
returns-then-is_empty-clause-over g c = λ _. inl (none-left c.advance.new.self (sym c.is_empty.ensures ∙ c.if-is_empty.true))

pub returns-in-Ended-clause-over : goal.returns-in-Ended-clause-over
returns-in-Ended-clause-over g c = λ _. absurd (c.in-Ended.ensures.goes_on refl)
