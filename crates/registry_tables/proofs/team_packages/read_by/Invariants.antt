use Rattle.registry_tables.proofs.Words.{◌≡◌, ◌++◌, length, map, into_iter_items, into_iter_len, AreTeamsSound, granted_entry, readable}
use Rattle.registry_tables.proofs.InsideFacts.{Keeps}
use Rattle.registry_tables.proofs.team_packages.read_by.Given as goal

-- of the grants so far there are those that the caller reads, and nothing has changed
abbrev pub invariant-loop-row : goal.invariant-loop-row
invariant-loop-row g l = record {
  kept : Keeps g.S.Store l.fn.tx l.tx (λ c. AreTeamsSound c → map granted_entry l.read.items ++ readable c l.caller (map granted_entry (into_iter_items l.row-iterator))
      ≡ readable c l.caller (map granted_entry (into_iter_items l.initial.row-iterator)));
  remain : into_iter_len l.row-iterator ≡ length (into_iter_items l.row-iterator);
}
