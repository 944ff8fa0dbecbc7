use Rattle.std.proofs.Common.{◌∙◌, ap, inl, inr, rules, sym}
use Rattle.std.proofs.lemmas.Bool.{false≢true}
use Rattle.registry_service.specs.Turns.{spoken}
use Rattle.registry_server.specs.ConnectionStates.{Pending}
use Rattle.registry_server.specs.Phases.{receives}
use Rattle.registry_server.specs.Queries.{queries}
use Rattle.registry_server.proofs.QueryFacts.{first-little, first-unseen}
use Rattle.registry_server.proofs.RemainderFacts.{little-received, little-starved}
use Rattle.registry_server.proofs.VisitFacts.{visit-received, visit-starved, waits-for-more}
use Rattle.registry_server.proofs.connection.Connection.receive_first.Goals as goal

pub returns-in-Ok-Moved-clause-visits : goal.returns-in-Ok-Moved-clause-visits
returns-in-Ok-Moved-clause-visits g c readings =
    visit-received g.S.Socket.received g.S.Socket.sent (spoken g.D.HttpService.speaks (queries g.D.Service.answers)) _ _ _ _ _ _ c.in-Ok-Moved.ensures.kept c.in-Ok-Moved.ensures.may c.in-Ok-Moved.ensures.waits c.in-Ok-Moved.ensures.receiving c.in-Ok-Moved.ensures.idle

pub returns-in-Ok-Waits-clause-visits : goal.returns-in-Ok-Waits-clause-visits
returns-in-Ok-Waits-clause-visits g c readings =
    visit-received g.S.Socket.received g.S.Socket.sent (spoken g.D.HttpService.speaks (queries g.D.Service.answers)) _ _ _ _ _ _ c.in-Ok-Waits.ensures.kept c.in-Ok-Waits.ensures.may c.in-Ok-Waits.ensures.waits c.in-Ok-Waits.ensures.receiving c.in-Ok-Waits.ensures.idle

pub returns-in-Ok-Ended-clause-visits : goal.returns-in-Ok-Ended-clause-visits
returns-in-Ok-Ended-clause-visits g c readings =
    visit-received g.S.Socket.received g.S.Socket.sent (spoken g.D.HttpService.speaks (queries g.D.Service.answers)) _ _ _ _ _ _ c.in-Ok-Ended.ensures.kept c.in-Ok-Ended.ensures.may c.in-Ok-Ended.ensures.waits c.in-Ok-Ended.ensures.receiving c.in-Ok-Ended.ensures.idle

pub returns-in-Ok-Broken-clause-visits : goal.returns-in-Ok-Broken-clause-visits
returns-in-Ok-Broken-clause-visits g c readings =
    visit-received g.S.Socket.received g.S.Socket.sent (spoken g.D.HttpService.speaks (queries g.D.Service.answers)) _ _ _ _ _ _ c.in-Ok-Broken.ensures.kept c.in-Ok-Broken.ensures.may c.in-Ok-Broken.ensures.waits c.in-Ok-Broken.ensures.receiving c.in-Ok-Broken.ensures.idle

pub returns-in-Err-clause-visits : goal.returns-in-Err-clause-visits
returns-in-Err-clause-visits g c readings =
    rw c.starve.ensures.service
    (visit-starved g.S.Socket.received g.S.Socket.sent (spoken g.D.HttpService.speaks (queries g.D.Service.answers)) _ _ _ _ _ _ _ c.in-Err.ensures.lost c.in-Err.ensures.may c.in-Err.ensures.waits c.in-Err.ensures.receiving c.in-Err.ensures.idle c.in-Err.ensures.turning c.starve.ensures.starves)

pub returns-in-Ok-Waits-clause-rests : goal.returns-in-Ok-Waits-clause-rests
returns-in-Ok-Waits-clause-rests g c rests next = absurd (false≢true (ap receives (sym next) ∙ c.in-Ok-Waits.ensures.quiet (search rules)))

pub returns-in-Ok-Waits-clause-waits : goal.returns-in-Ok-Waits-clause-waits
returns-in-Ok-Waits-clause-waits g c rests = waits-for-more _ _ _ c.in-Ok-Waits.ensures.stage (c.in-Ok-Waits.ensures.none (search rules))

pub returns-in-Ok-Moved-clause-more : goal.returns-in-Ok-Moved-clause-more
returns-in-Ok-Moved-clause-more g c = first-unseen _ _ _ c.requires c.in-Ok-Moved.ensures.kept.times

pub returns-in-Ok-Waits-clause-more : goal.returns-in-Ok-Waits-clause-more
returns-in-Ok-Waits-clause-more g c = first-unseen _ _ _ c.requires c.in-Ok-Waits.ensures.kept.times

pub returns-in-Ok-Ended-clause-more : goal.returns-in-Ok-Ended-clause-more
returns-in-Ok-Ended-clause-more g c = first-unseen _ _ _ c.requires c.in-Ok-Ended.ensures.kept.times

pub returns-in-Ok-Broken-clause-more : goal.returns-in-Ok-Broken-clause-more
returns-in-Ok-Broken-clause-more g c = first-unseen _ _ _ c.requires c.in-Ok-Broken.ensures.kept.times

pub returns-in-Ok-Moved-clause-leaves : goal.returns-in-Ok-Moved-clause-leaves
returns-in-Ok-Moved-clause-leaves g c = λ goes. first-little _ c.in-Ok-Moved.ensures.kept.got c.args.self.now.state c.receive.new.self (c.in-Ok-Moved.ensures.idle c.requires) c.in-Ok-Moved.ensures.kept.few c.in-Ok-Moved.ensures.kept.state

pub returns-in-Ok-Waits-clause-leaves : goal.returns-in-Ok-Waits-clause-leaves
returns-in-Ok-Waits-clause-leaves g c = λ goes. little-received _ c.receive.new.self (c.in-Ok-Waits.ensures.quiet (search rules))

pub returns-in-Err-clause-leaves : goal.returns-in-Err-clause-leaves
returns-in-Err-clause-leaves g c = λ goes. little-starved g.S.Socket.received g.S.Socket.sent _ _ _ c.starve.new.self c.starve.ensures.starves

pub returns-in-Ok-Ended-clause-over : goal.returns-in-Ok-Ended-clause-over
returns-in-Ok-Ended-clause-over g c over =
    let received = c.in-Ok-Ended.ensures in
    let is_over = received.over (search rules) in
    let same = received.ended is_over in
    inr (
      received.ends (search rules),
      is_over,
      record {
        all_sent = ap (λ (p : Pending). p.outgoing) same ∙ received.may.all_sent;
        none_left = inl (ap (λ (p : Pending). p.held) same ∙ received.idle c.requires);
      },
    )
