use Rattle.registry_service.proofs.TogetherFacts.{profile-asks-one}
use Rattle.registry_log.proofs.logged_service.LoggedServiceHttpService.asks_one.Goals as goal

pub returns : goal.returns
returns g c = λ _. profile-asks-one c.args._wanted.now
