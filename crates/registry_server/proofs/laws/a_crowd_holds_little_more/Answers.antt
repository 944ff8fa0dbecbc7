use Rattle.registry_service.specs.Turns.{spoken}
use Rattle.registry_server.proofs.HeldFacts.{all-idle-ends-leave-few, ends-leave-few, finishes-leave-few, idle-ends-leave-few, new-connections-leave-few, new-pool-reads-few, rounds-hold-little-more, rounds-read-few, wakes-leave-few, who-waits-has-begun}
use Rattle.registry_server.proofs.laws.a_crowd_holds_little_more.Goals as goal

pub returns-clause-begins : goal.returns-clause-begins
returns-clause-begins g c = new-pool-reads-few g.row.S.Denot

pub returns-clause-comes : goal.returns-clause-comes
returns-clause-comes g c = new-connections-leave-few g.row.S.Denot

pub returns-clause-wakes : goal.returns-clause-wakes
returns-clause-wakes g c = wakes-leave-few g.row.S.Denot

pub returns-clause-late : goal.returns-clause-late
returns-clause-late g c = ends-leave-few g.row.S.Denot

pub returns-clause-room : goal.returns-clause-room
returns-clause-room g c = idle-ends-leave-few g.row.S.Denot

pub returns-clause-rounds : goal.returns-clause-rounds
returns-clause-rounds g c = rounds-read-few g.S.Socket.received g.S.Socket.sent g.S.Socket.has_none g.S.Socket.is_full g.S.Socket.has_more g.S.Socket.is_ended g.S.Socket.is_broken (spoken g.D.HttpService.speaks g.D.Service.answers) g.D.Service.over

pub returns-clause-few : goal.returns-clause-few
returns-clause-few g c = rounds-hold-little-more g.S.Socket.received g.S.Socket.sent g.S.Socket.has_none g.S.Socket.is_full g.S.Socket.has_more g.S.Socket.is_ended g.S.Socket.is_broken (spoken g.D.HttpService.speaks g.D.Service.answers) g.D.Service.over

pub returns-clause-waits : goal.returns-clause-waits
returns-clause-waits g c = who-waits-has-begun g.row.S.Denot

pub returns-clause-idle : goal.returns-clause-idle
returns-clause-idle g c = all-idle-ends-leave-few g.row.S.Denot

pub returns-clause-finishes : goal.returns-clause-finishes
returns-clause-finishes g c = finishes-leave-few g.row.S.Denot
