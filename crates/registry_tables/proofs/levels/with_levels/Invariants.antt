use Rattle.registry_tables.proofs.Words.{◌≡◌, ◌++◌, length, map, AllByRecursion, into_iter_items, into_iter_len, IsListedFor, levels_on, listed_name, AreTeamsSound}
use Rattle.registry_tables.proofs.InsideFacts.{Keeps}
use Rattle.registry_tables.proofs.levels.with_levels.Given as goal

-- of the packages so far there are those that the caller reads, and nothing has changed
abbrev pub invariant-loop-listed : goal.invariant-loop-listed
invariant-loop-listed g l = record {
  kept : Keeps g.S.Store l.fn.tx l.tx (λ c. AreTeamsSound c → AllByRecursion (IsListedFor c l.caller l.role) (into_iter_items l.initial.listed-iterator)
      → AllByRecursion (IsListedFor c l.caller l.role) (into_iter_items l.listed-iterator)
      × (l.levels.items ++ levels_on c l.caller (map listed_name (into_iter_items l.listed-iterator)) ≡ levels_on c l.caller (map listed_name (into_iter_items l.initial.listed-iterator))));
  remain : into_iter_len l.listed-iterator ≡ length (into_iter_items l.listed-iterator);
}
