use Rattle.registry_guests.proofs.command_listener.CommandListenerGuests.visit.Goals as goal

pub returns-clause-visits : goal.returns-clause-visits
returns-clause-visits g c = (c.visit_all.new.self.slots.items, c.visit_all.ensures)
