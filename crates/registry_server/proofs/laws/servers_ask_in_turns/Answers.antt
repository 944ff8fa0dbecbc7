use Rattle.registry_server.proofs.RoundFacts.{rounds-ask-in-turns}
use Rattle.registry_server.proofs.laws.servers_ask_in_turns.Goals as goal

pub returns : goal.returns
returns g c =
    let socket = g.S.Socket in
    rounds-ask-in-turns socket.received socket.sent socket.has_none socket.is_full socket.has_more socket.is_ended socket.is_broken g.D.HttpService.speaks g.D.Service.answers g.D.Service.over
    (g.G.Guests.visits g.D.Service.answers g.D.Service.over)
