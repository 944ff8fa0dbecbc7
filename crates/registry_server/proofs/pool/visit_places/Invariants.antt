use Rattle.std.proofs.Common.{◌≡◌, take, drop, length}
use Rattle.registry_server.specs.Groups.{IsWithin, VisitsFirst}
use Rattle.registry_server.specs.Queries.{answering}
use Rattle.registry_server.proofs.pool.visit_places.Given as goal

-- the first places were passed
abbrev pub invariant-loop-number : goal.invariant-loop-number
invariant-loop-number g l =
    let socket = g.S.Socket in
    record {
      visited : VisitsFirst socket.received socket.sent socket.has_none socket.is_full socket.has_more socket.is_ended socket.is_broken g.D.HttpService.speaks (answering l.commands_wait g.D.Service.answers) g.D.Service.over l.commands_wait l.is_crowd l.now (length l.fn.buffer) 0 (take l.number l.fn.places) (take l.number l.places) l.group.commands.items l.group.requests.items l.fn.service l.service (g.C.Clock.readings l.fn.clock) (g.C.Clock.readings l.clock);
      many : length l.group.outcomes.items ≡ length l.group.commands.items;
      within : IsWithin l.group;
      rest : drop l.number l.places ≡ drop l.number l.fn.places;
    }
