use Rattle.registry_http.specs.Services.{shown}
use Rattle.registry_service.proofs.DialectFacts.{profile_is_determined}
use Rattle.registry_service.specs.Turns.{profile}
use Rattle.registry_http.proofs.AloneFacts.{one-answered_the_same, runs-answered_alike}
use Rattle.registry_http.proofs.laws.unread_packages_change_no_byte_for_one.Goals as goal

pub returns-clause-responses : goal.returns-clause-responses
returns-clause-responses g c = runs-answered_alike

pub returns-clause-connections : goal.returns-clause-connections
returns-clause-connections g c = one-answered_the_same profile profile_is_determined (shown g.S.Store)
