use Rattle.std.proofs.Common.{◌≡◌, ◌++◌, drop, map}
use Rattle.registry_npm.specs.Forms.{writer}
use Rattle.registry_npm.proofs.forms.writer_rows.Given as goal

-- those so far, and then what is made of those that are left
abbrev pub invariant-loop-user : goal.invariant-loop-user
invariant-loop-user l = l.rows.items ++ map writer (drop l.user-index l.users) ≡ map writer l.users
