use Rattle.registry_desk.specs.Sending.{answers_as_apply}
use Rattle.registry_http.proofs.SentFacts.{leads}
use Rattle.registry_http.proofs.service.sent.Goals as goal

pub returns-clause-sends : goal.returns-clause-sends
returns-clause-sends g c =
    leads (answers_as_apply g.S.Store) (answers_as_apply g.S.Store) (g.O.Opener.opens c.args.opener.now) c.args.registry.now c.args.registry.now c.args.request.now _ _ _ c.send_packument.new.self c.send_packument.new.self
    (λ o it. it) (λ text fault it. it) c.send_packument.result c.send_packument.ensures.sends
