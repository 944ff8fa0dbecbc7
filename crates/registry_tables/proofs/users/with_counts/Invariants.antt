use Rattle.registry_tables.proofs.Words.{◌≡◌, ◌++◌, length, map, into_iter_items, into_iter_len, counted}
use Rattle.registry_tables.proofs.InsideFacts.{Keeps}
use Rattle.registry_tables.proofs.users.with_counts.Given as goal

-- each row so far is of its name, and nothing has changed
abbrev pub invariant-loop-name : goal.invariant-loop-name
invariant-loop-name g l = record {
  kept : Keeps g.S.Store l.fn.tx l.tx (λ c. l.users.items ++ map (counted c) (into_iter_items l.name-iterator) ≡ map (counted c) (into_iter_items l.initial.name-iterator));
  remain : into_iter_len l.name-iterator ≡ length (into_iter_items l.name-iterator);
}
