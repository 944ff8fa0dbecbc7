use Rattle.std.proofs.Common.{◌≡◌, ◌++◌, drop, map}
use Rattle.registry_npm.specs.Collaborators.{given}
use Rattle.registry_npm.proofs.rights.give.Given as goal

-- the rows so far, and then those of the users that are left
abbrev pub invariant-loop-user : goal.invariant-loop-user
invariant-loop-user l = l.rows.items ++ map (given l.level) (drop l.user-index l.users) ≡ l.fn.rows.items ++ map (given l.level) l.users
