use Rattle.std.proofs.Common.{◌≡◌, drop, length}
use Rattle.registry_server.proofs.GroupFacts.{AnswersFrom}
use Rattle.registry_server.proofs.pool.send_answers.Given as goal

-- the commands of the first places were answered
abbrev pub invariant-loop-number : goal.invariant-loop-number
invariant-loop-number g l =
    let socket = g.S.Socket in
    record {
      answered : AnswersFrom socket.received socket.sent socket.has_none socket.is_full socket.has_more socket.is_ended socket.is_broken g.D.HttpService.speaks g.D.Service.answers g.D.Service.over l.now l.number l.fn.places l.places l.fn.group l.group;
      many : length l.group.outcomes.items ≡ length l.group.commands.items;
      rest : drop l.number l.places ≡ drop l.number l.fn.places;
      service : l.service ≡ l.fn.service;
    }
