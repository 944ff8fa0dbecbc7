use Rattle.std.proofs.Common.{◌≤◌, ℕ, List, [], length, sym, subst, Option}
use Rattle.std.specs.Prelude.{unwrap_or}
use Rattle.registry_wire.proofs.PhraseFacts.{short-phrase}
use Rattle.registry_wire.proofs.response.phrase.Goals as goal

pub returns-in-Some-clause-len : goal.returns-in-Some-clause-len
returns-in-Some-clause-len c = subst (λ (p : Option (List ℕ)). length (unwrap_or p []) ≤ 40) (sym c.in-Some.ensures.value) (short-phrase c.args.status)
