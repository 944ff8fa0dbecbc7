use Rattle.std.proofs.Common.{◌≡◌, ◌++◌, drop, string_bytes}
use Rattle.registry_documents.specs.Revisions.{lines, revised}
use Rattle.registry_documents.proofs.revision.revised.Given as goal

-- the whole is what is written, and then the names that are left
abbrev pub invariant-loop-name : goal.invariant-loop-name
invariant-loop-name l = string_bytes l.out ++ lines (drop l.name-index l.maintainers) ≡ revised l.packument l.maintainers
