use Rattle.registry_server.proofs.ComingFacts.{holds-keep-commands, newcomers-leave-busy}
use Rattle.registry_server.proofs.laws.held_servers_keep_commands.Goals as goal

pub returns-clause-waits : goal.returns-clause-waits
returns-clause-waits g c = holds-keep-commands g.S.Socket.received g.S.Socket.sent g.S.Socket.has_none g.S.Socket.is_full g.S.Socket.has_more g.S.Socket.is_ended g.S.Socket.is_broken g.D.HttpService.speaks g.D.Service.answers g.D.Service.over

pub returns-clause-comes : goal.returns-clause-comes
returns-clause-comes g c = newcomers-leave-busy g.row.S.Denot
