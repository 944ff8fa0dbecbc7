use Rattle.registry_service.specs.Turns.{spoken}
use Rattle.registry_server.proofs.StateFacts.{starved-turn}
use Rattle.registry_server.proofs.WorldFacts.{state-begins, state-comes, state-lasts, state-sends, state-shuts, state-turns}
use Rattle.registry_server.proofs.laws.connections_make_one_history.Goals as goal

pub returns-clause-begins : goal.returns-clause-begins
returns-clause-begins g c = state-begins (spoken g.D.HttpService.speaks g.D.Service.answers)

pub returns-clause-comes : goal.returns-clause-comes
returns-clause-comes g c = state-comes (spoken g.D.HttpService.speaks g.D.Service.answers)

pub returns-clause-shuts : goal.returns-clause-shuts
returns-clause-shuts g c = state-shuts (spoken g.D.HttpService.speaks g.D.Service.answers)

pub returns-clause-turns : goal.returns-clause-turns
returns-clause-turns g c = state-turns (spoken g.D.HttpService.speaks g.D.Service.answers)

pub returns-clause-sends : goal.returns-clause-sends
returns-clause-sends g c = state-sends (spoken g.D.HttpService.speaks g.D.Service.answers)

pub returns-clause-starves : goal.returns-clause-starves
returns-clause-starves g c = starved-turn (spoken g.D.HttpService.speaks g.D.Service.answers)

pub returns-clause-lasts : goal.returns-clause-lasts
returns-clause-lasts g c = state-lasts g.row.D.Denot
