use Rattle.std.proofs.Common.{refl}
use Rattle.registry_server.proofs.connection.Connection.visit.Goals as goal

pub returns-in-Ready-clause-visits : goal.returns-in-Ready-clause-visits
returns-in-Ready-clause-visits g c = rw c.arrive.ensures.service at ((c.in-Ready.ensures.ready refl).visits c.answer.new.self _ _ _ _ c.answer.ensures.answers).0

pub returns-in-Done-clause-visits : goal.returns-in-Done-clause-visits
returns-in-Done-clause-visits g c = c.in-Done.ensures.visits (λ e. absurd (cc)) _
