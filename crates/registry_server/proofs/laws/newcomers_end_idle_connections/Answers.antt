use Rattle.registry_service.specs.Turns.{spoken}
use Rattle.registry_server.proofs.RestFacts.{all-idle-ends-leave-rest, ends-leave-rest, finishes-leave-rest, idle-ends-leave-rest, new-connections-leave-rest, new-pool-rests, newcomers-end-idle, stops-end-idle, stops-leave-under-way, visits-leave-rest, wakes-leave-rest, want-of-room-ends-idle}
use Rattle.registry_server.proofs.laws.newcomers_end_idle_connections.Goals as goal

pub returns-clause-begins : goal.returns-clause-begins
returns-clause-begins g c = new-pool-rests g.S.Socket.has_none g.S.Socket.is_full

pub returns-clause-comes : goal.returns-clause-comes
returns-clause-comes g c = new-connections-leave-rest g.S.Socket.has_none g.S.Socket.is_full

pub returns-clause-wakes : goal.returns-clause-wakes
returns-clause-wakes g c = wakes-leave-rest g.S.Socket.has_none g.S.Socket.is_full

pub returns-clause-late : goal.returns-clause-late
returns-clause-late g c = ends-leave-rest g.S.Socket.has_none g.S.Socket.is_full

pub returns-clause-room : goal.returns-clause-room
returns-clause-room g c = idle-ends-leave-rest g.S.Socket.has_none g.S.Socket.is_full

pub returns-clause-lacks : goal.returns-clause-lacks
returns-clause-lacks g c = want-of-room-ends-idle g.S.Socket.has_none g.S.Socket.is_full

pub returns-clause-visits : goal.returns-clause-visits
returns-clause-visits g c = visits-leave-rest g.S.Socket.received g.S.Socket.sent g.S.Socket.has_none g.S.Socket.is_full g.S.Socket.has_more g.S.Socket.is_ended g.S.Socket.is_broken (spoken g.D.HttpService.speaks g.D.Service.answers) g.D.Service.over

pub returns-clause-ended : goal.returns-clause-ended
returns-clause-ended g c = newcomers-end-idle g.S.Socket.has_none g.S.Socket.is_full

pub returns-clause-idle : goal.returns-clause-idle
returns-clause-idle g c = all-idle-ends-leave-rest g.S.Socket.has_none g.S.Socket.is_full

pub returns-clause-stops : goal.returns-clause-stops
returns-clause-stops g c = stops-end-idle g.S.Socket.has_none g.S.Socket.is_full

pub returns-clause-left : goal.returns-clause-left
returns-clause-left g c = stops-leave-under-way g.row.S.Denot

pub returns-clause-finishes : goal.returns-clause-finishes
returns-clause-finishes g c = finishes-leave-rest g.S.Socket.has_none g.S.Socket.is_full
