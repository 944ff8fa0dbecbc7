use Rattle.registry_tables.proofs.Words.{◌≡◌, false, map, take, list_any}
use Rattle.registry_tables.specs.Dependents.{binds_one, dependent_entry, ranges_of}
use Rattle.registry_tables.proofs.InsideFacts.{Keeps}
use Rattle.registry_tables.proofs.dependents.any_binds.Given as goal

-- none of those so far needs one of the versions
abbrev pub invariant-loop-dependent : goal.invariant-loop-dependent
invariant-loop-dependent g l = Keeps g.S.Store l.fn.tx l.tx (λ c. list_any (λ k. list_any (binds_one l.versions) (ranges_of c l.name k)) (map dependent_entry (take l.dependent-index l.dependents)) ≡ false)
