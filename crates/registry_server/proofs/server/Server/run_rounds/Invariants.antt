use Rattle.std.specs.Prelude.{None, true}
use Rattle.mio.specs.declared.net.stream.TcpStream.{TcpStream}
use Rattle.registry_server.specs.Rounds.{AsksInRounds}
use Rattle.registry_server.proofs.server.Server.run_rounds.Given as goal

abbrev pub invariant-loop : goal.invariant-loop
invariant-loop g l =
    AsksInRounds {S = TcpStream} (λ _. None) (λ _. None) (λ _. true) (λ _. true) (λ _. true) (λ _. true) (λ _. true) g.D.HttpService.speaks g.D.Service.answers g.D.Service.over
    (g.G.Guests.visits g.D.Service.answers g.D.Service.over) l.fn.service l.service
