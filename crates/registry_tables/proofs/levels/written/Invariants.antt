use Rattle.registry_tables.proofs.Words.{◌≡◌, ◌++◌, filter, length, map, into_iter_items, into_iter_len, scope_of, writable}
use Rattle.std.specs.Prelude.{is_none}
use Rattle.registry_tables.proofs.levels.written.Given as goal

-- of the names so far there are those without a scope
abbrev pub invariant-loop-name : goal.invariant-loop-name
invariant-loop-name l = record {
  told : l.packages.items ++ map writable (filter (λ p. is_none (scope_of p)) (into_iter_items l.name-iterator)) ≡ map writable (filter (λ p. is_none (scope_of p)) (into_iter_items l.initial.name-iterator));
  remain : into_iter_len l.name-iterator ≡ length (into_iter_items l.name-iterator);
}
