use Rattle.std.proofs.Common.{◌∙◌}
use Rattle.registry_npm.proofs.UserFacts.{user_whole}
use Rattle.registry_npm.proofs.path.user.Goals as goal

pub returns : goal.returns
returns c = user_whole _ c.as_str.result.now _ (c.as_str.ensures.value ∙ c.in_ok-text.ensures.ok) c.as_str.utf8 c.user_in.ensures
