use Rattle.std.proofs.Common.{◌≡◌, ◌++◌, drop}
use Rattle.registry_documents.specs.Differences.{besides}
use Rattle.registry_documents.proofs.names.besides.Given as goal

-- the names are those so far, and then those of the names that are left
abbrev pub invariant-loop-name : goal.invariant-loop-name
invariant-loop-name l = l.more.items ++ besides l.others (drop l.name-index l.names) ≡ besides l.others l.names
