use Rattle.registry_http.specs.Services.{shown}
use Rattle.registry_http.proofs.SeekingFacts.{sought_applies}
use Rattle.registry_log.proofs.KnownFacts.{found-user}
use Rattle.registry_log.proofs.logged_service.found_user.Goals as goal

pub returns-clause-before : goal.returns-clause-before
returns-clause-before g c = λ r o N applies.
    sought_applies (shown g.S.Store c.args.inner.now) (shown g.S.Store c.user_of-found.new.self) (shown g.S.Store N) r o
    (record { opened = c.user_of-found.ensures.opened; stored = c.user_of-found.ensures.stored; survives = c.user_of-found.ensures.survives; idle = c.between_requests.ensures }) applies

pub returns-clause-looks : goal.returns-clause-looks
returns-clause-looks g c = record { opened = c.user_of-found.ensures.opened; stored = c.user_of-found.ensures.stored; survives = c.user_of-found.ensures.survives }

pub returns-clause-finds : goal.returns-clause-finds
returns-clause-finds g c =
    found-user (shown g.S.Store c.args.inner.now) (shown g.S.Store c.user_of-found.new.self) c.args.token.now c.user_of-found.result _ c.user_of-found.ensures.names c.user_of-found.ensures.asked c.unwrap_or.ensures
