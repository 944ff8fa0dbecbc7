use Rattle.std.proofs.Common.{◌≡◌, ◌++◌, drop, string_bytes}
use Rattle.std.specs.Prelude.{codes, flat_map}
use Rattle.registry_documents.specs.Differences.{union}
use Rattle.registry_documents.proofs.package.union.Given as goal

-- the whole is what is written, and then the versions that are left
abbrev pub invariant-loop-other : goal.invariant-loop-other
invariant-loop-other l = string_bytes l.out ++ flat_map (λ m. codes " || " ++ m.version) (drop l.other-index l.others) ≡ union l.first l.others
