use Rattle.std.proofs.Common.{rules}
use Rattle.registry_server.specs.declared.connection.Visit.TheVariants.{Again, Rests, Over}
use Rattle.registry_guests.proofs.GuestPoolFacts.{visits-free, visits-none, visits-there}
use Rattle.registry_guests.proofs.guest_pool.GuestSlot.visit.Goals as goal

pub returns-then-not-self : goal.returns-then-not-self
returns-then-not-self g c =
    visits-none g.S.Socket.received g.S.Socket.sent g.S.Socket.has_none g.S.Socket.is_full g.S.Socket.is_ended g.S.Socket.is_broken g.D.Service.answers g.D.Service.over _ c.args.self.now _ _ (search rules)

pub returns-in_default : goal.returns-in_default
returns-in_default g c =
    visits-free g.S.Socket.received g.S.Socket.sent g.S.Socket.has_none g.S.Socket.is_full g.S.Socket.is_ended g.S.Socket.is_broken g.D.Service.answers g.D.Service.over _ c.args.self.now _ _ (search rules) (search rules)

pub returns-in-Again : goal.returns-in-Again
returns-in-Again g c =
    visits-there g.S.Socket.received g.S.Socket.sent g.S.Socket.has_none g.S.Socket.is_full g.S.Socket.is_ended g.S.Socket.is_broken g.D.Service.answers g.D.Service.over _ c.args.self.now _ c.visit.new.self Again _ _ _ _ (search rules) (search rules) c.visit.ensures.visits c.in-Again.ensures.within (λ e. absurd (cc)) (λ e. absurd (cc)) (λ e. absurd (cc))

pub returns-in-Rests : goal.returns-in-Rests
returns-in-Rests g c =
    visits-there g.S.Socket.received g.S.Socket.sent g.S.Socket.has_none g.S.Socket.is_full g.S.Socket.is_ended g.S.Socket.is_broken g.D.Service.answers g.D.Service.over _ c.args.self.now _ c.visit.new.self Rests _ _ _ _ (search rules) (search rules) c.visit.ensures.visits c.in-Rests.ensures.within c.in-Rests.ensures.waits c.in-Rests.ensures.no_message (λ e. absurd (cc))

pub returns-in-Over : goal.returns-in-Over
returns-in-Over g c =
    visits-there g.S.Socket.received g.S.Socket.sent g.S.Socket.has_none g.S.Socket.is_full g.S.Socket.is_ended g.S.Socket.is_broken g.D.Service.answers g.D.Service.over _ c.args.self.now _ c.visit.new.self Over _ _ _ _ (search rules) (search rules) c.visit.ensures.visits c.in-Over.ensures.within (λ e. absurd (cc)) (λ e. absurd (cc)) c.in-Over.ensures.over
