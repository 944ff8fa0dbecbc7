use Rattle.std.proofs.Common.{◌++◌, List, Option, ℕ, drop, take}
use Rattle.registry_rules.specs.declared.request.Request.{Request}
use Rattle.registry_server.specs.Groups.{AreAsked, AreSpelled}
use Rattle.registry_server.proofs.group.Group.ask.Given as goal

-- the first requests are asked, and the others are still to be
abbrev pub invariant-loop-request : goal.invariant-loop-request
invariant-loop-request g l =
    let commands = l.fn.self.commands.items in
    record {
      spelled : AreSpelled (drop l.request-index commands) (drop l.request-index l.request-items);
      asked : (others : List Request) (later : Option (List ℕ)) → AreAsked (drop l.request-index commands) others (g.C.Clock.readings l.clock) later
          → AreAsked commands (take l.request-index l.request-items ++ others) (g.C.Clock.readings l.fn.clock) later;
    }
