use Rattle.std.proofs.Common.{All, ap, map, sym, subst, ◌∙◌}
use Rattle.mio.specs.declared.net.stream.TcpStream.{TcpStream}
use Rattle.registry_server.specs.Pools.{IsUnderWay, MayHaveOne, finishing_at}
use Rattle.registry_server.proofs.RestFacts.{finishes-leave-one, finishes-leave-under-way, stops-leave-under-way}
use Rattle.registry_server.proofs.server.Server.stop.Goals as goal

pub returns-clause-under_way : goal.returns-clause-under_way
returns-clause-under_way g c = subst (All (IsUnderWay {S = TcpStream})) (sym (c.finish_all.ensures ∙ ap (map finishing_at) c.end_idle_all.ensures))
    (finishes-leave-under-way _ (stops-leave-under-way TcpStream _))

pub returns-clause-one : goal.returns-clause-one
returns-clause-one g c = subst (All (MayHaveOne {S = TcpStream})) (sym c.finish_all.ensures) (finishes-leave-one _)
