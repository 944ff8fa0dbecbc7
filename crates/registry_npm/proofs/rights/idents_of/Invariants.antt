use Rattle.std.proofs.Common.{◌≡◌, ◌++◌, ℕ, List, drop, option_map}
use Rattle.registry_npm.specs.Collaborators.{idents_of}
use Rattle.registry_npm.proofs.rights.idents_of.Given as goal

-- the names are those so far, and then those that are left
abbrev pub invariant-loop-text : goal.invariant-loop-text
invariant-loop-text l = idents_of l.texts ≡ option_map (λ (ts : List (List ℕ)). l.teams.items ++ ts) (idents_of (drop l.text-index l.texts))
