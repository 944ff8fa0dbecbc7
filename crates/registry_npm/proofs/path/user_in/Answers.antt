use Rattle.registry_npm.proofs.UserFacts.{user_none, user_some}
use Rattle.registry_npm.proofs.path.user_in.Goals as goal

pub returns-in-Some : goal.returns-in-Some
returns-in-Some c = user_some _ _ _ c.in-Some.ensures c.parse.ensures.ok c.parse.ensures.err

pub returns-in-None : goal.returns-in-None
returns-in-None c = user_none _ c.in-None.ensures
