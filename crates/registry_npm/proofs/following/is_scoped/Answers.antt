use Rattle.std.proofs.Common.{is_some, sym, ap}
use Rattle.registry_npm.proofs.following.is_scoped.Goals as goal

pub returns-in-Some : goal.returns-in-Some
returns-in-Some c = sym (ap is_some (sym (rw c.in-Some.is at c.scope.ensures.scope)))

pub returns-in-None : goal.returns-in-None
returns-in-None c = sym (ap is_some (sym (rw c.in-None.is at c.scope.ensures.scope)))
