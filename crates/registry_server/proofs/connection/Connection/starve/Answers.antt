use Rattle.std.proofs.Common.{length, subst}
use Rattle.registry_server.specs.Phases.{SentAt}
use Rattle.registry_server.specs.declared.phase.Phase.{Phase}
use Rattle.registry_server.specs.Connections.{OpenConnection, StarvesOnce}
use Rattle.registry_server.proofs.connection.Connection.starve.Goals as goal

pub returns-clause-starves : goal.returns-clause-starves
returns-clause-starves g c =
    subst (λ (old : OpenConnection g.row.S.Denot). StarvesOnce g.S.Socket.received g.S.Socket.sent c.args.now old c.send.new.self) c.self.view_is
    (record {
      due = c.starve.new.self;
      starved = c.starve.ensures.starves;
      put = c.send.ensures.sends.put;
      took = c.send.ensures.sends.took;
      unread = c.send.ensures.sends.unread;
      sends = c.send.ensures.sends.state;
      over = c.send.ensures.sends.over;
      times = subst (λ (p : Phase). SentAt c.args.now (length c.send.ensures.sends.put) p c.send.new.self.phase) c.enter.ensures.entered c.send.ensures.sends.times;
    })
