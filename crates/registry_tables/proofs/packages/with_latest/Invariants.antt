use Rattle.registry_tables.proofs.Words.{◌≡◌, ◌++◌, length, map, into_iter_items, into_iter_len, package_entry, viewed}
use Rattle.registry_tables.proofs.InsideFacts.{Keeps}
use Rattle.registry_tables.proofs.packages.with_latest.Given as goal

-- each row so far is of its name, and nothing has changed
abbrev pub invariant-loop-listed : goal.invariant-loop-listed
invariant-loop-listed g l = record {
  kept : Keeps g.S.Store l.fn.tx l.tx (λ c. l.rows.items ++ map (λ p. viewed c (package_entry p)) (into_iter_items l.listed-iterator) ≡ map (λ p. viewed c (package_entry p)) (into_iter_items l.initial.listed-iterator));
  remain : into_iter_len l.listed-iterator ≡ length (into_iter_items l.listed-iterator);
}
