use Rattle.std.proofs.Common.{subst, sym}
use Rattle.std.specs.Prelude.{None, true}
use Rattle.mio.specs.declared.net.stream.TcpStream.{TcpStream}
use Rattle.registry_server.specs.Rounds.{AsksInRounds, no_round_yet}
use Rattle.registry_server.proofs.RoundFacts.{rounds-then}
use Rattle.registry_server.proofs.server.Server.run_rounds.Goals as goal
use Rattle.registry_server.proofs.server.Server.run_rounds.Goals.{else-loop-test, then-loop-test+in_ok-most+in_ok-serve+then-not-branch}

pub returns-in_err-start-clause-asks : goal.returns-in_err-start-clause-asks
returns-in_err-start-clause-asks g c = no_round_yet

pub loop-init : goal.loop-init
loop-init g c = no_round_yet

pub returns-in_err-serve-clause-asks : goal.returns-in_err-serve-clause-asks
returns-in_err-serve-clause-asks g c = rounds-then _ _ _ _ _ _ _ _ _ _ _ _ c.loop.service c.serve.new.service c.loop.invariant c.serve.ensures.asks

pub loop-preserved : goal.loop-preserved
loop-preserved g c = rounds-then _ _ _ _ _ _ _ _ _ _ _ _ c.loop.service c.serve.new.service c.loop.invariant c.serve.ensures.asks

pub returns-clause-asks : goal.returns-clause-asks
returns-clause-asks g c =
    elim c.loop-test.branch [
      | else-loop-test w ↦ subst (λ (d : g.row.D.Denot). AsksInRounds {S = TcpStream} (λ _. None) (λ _. None) (λ _. true) (λ _. true) (λ _. true) (λ _. true) (λ _. true) g.D.HttpService.speaks g.D.Service.answers g.D.Service.over (g.G.Guests.visits g.D.Service.answers g.D.Service.over) c.args.service.now d) (sym w.service-is) c.loop.invariant
      | then-loop-test+in_ok-most+in_ok-serve+then-not-branch w ↦ subst (λ (d : g.row.D.Denot). AsksInRounds {S = TcpStream} (λ _. None) (λ _. None) (λ _. true) (λ _. true) (λ _. true) (λ _. true) (λ _. true) g.D.HttpService.speaks g.D.Service.answers g.D.Service.over (g.G.Guests.visits g.D.Service.answers g.D.Service.over) c.args.service.now d) (sym w.service-is)
          (rounds-then _ _ _ _ _ _ _ _ _ _ _ _ c.loop.service w.serve.new.service c.loop.invariant w.serve.ensures.asks)
    ]
