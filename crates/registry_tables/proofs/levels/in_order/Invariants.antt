use Rattle.registry_tables.proofs.Words.{◌≡◌, None, map, get, into_iter_items, into_iter_len, length, Text, text_cmp, last_at, level_entry}
use Rattle.registry_tables.proofs.levels.in_order.Given as goal

-- what is found so far, and in those that are left after that
abbrev pub invariant-loop-package : goal.invariant-loop-package
invariant-loop-package l = record {
  last : (q : Text) → last_at (map level_entry (into_iter_items l.package-iterator)) q (get text_cmp l.levels q) ≡ last_at (map level_entry (into_iter_items l.initial.package-iterator)) q None;
  remain : into_iter_len l.package-iterator ≡ length (into_iter_items l.package-iterator);
}
