use Rattle.std.proofs.Common.{rules, Bool, true, false, None, Some, subst, sym}
use Rattle.registry_server.specs.declared.connection.Visit.TheVariants.{Again, Rests, Over}
use Rattle.registry_guests.specs.Controls.{VisitsControl, control}
use Rattle.registry_guests.proofs.ControlFacts.{control-there}
use Rattle.registry_guests.proofs.control.Control.visit.Goals as goal

pub returns-in-Again : goal.returns-in-Again
returns-in-Again g c =
    let old = c.args.self.now in
    let new = c.visit-visit.new.self in
    subst (λ (b : Bool). VisitsControl g.S.Socket.received g.S.Socket.sent g.S.Socket.has_none g.S.Socket.is_ended g.S.Socket.is_broken c.args.now old (control (Some new) true b)) (sym c.is_stopping_after-self.ensures)
    (control-there g.S.Socket.received g.S.Socket.sent g.S.Socket.has_none g.S.Socket.is_ended g.S.Socket.is_broken c.args.now old c.in-Some.connection new Again (search rules) (search rules) c.in-Again.ensures.visits (λ e. absurd (cc)))

pub returns-in-Rests : goal.returns-in-Rests
returns-in-Rests g c =
    let old = c.args.self.now in
    let new = c.visit-visit.new.self in
    subst (λ (b : Bool). VisitsControl g.S.Socket.received g.S.Socket.sent g.S.Socket.has_none g.S.Socket.is_ended g.S.Socket.is_broken c.args.now old (control (Some new) false b)) (sym c.is_stopping_after-self.ensures)
    (control-there g.S.Socket.received g.S.Socket.sent g.S.Socket.has_none g.S.Socket.is_ended g.S.Socket.is_broken c.args.now old c.in-Some.connection new Rests (search rules) (search rules) c.in-Rests.ensures.visits c.in-Rests.ensures.waits)

pub returns-in-Over : goal.returns-in-Over
returns-in-Over g c =
    let old = c.args.self.now in
    let new = c.visit-visit.new.self in
    subst (λ (b : Bool). VisitsControl g.S.Socket.received g.S.Socket.sent g.S.Socket.has_none g.S.Socket.is_ended g.S.Socket.is_broken c.args.now old (control None false b)) (sym c.is_stopping_after-self.ensures)
    (control-there g.S.Socket.received g.S.Socket.sent g.S.Socket.has_none g.S.Socket.is_ended g.S.Socket.is_broken c.args.now old c.in-Some.connection new Over (search rules) (search rules) c.in-Over.ensures.visits (λ e. absurd (cc)))
