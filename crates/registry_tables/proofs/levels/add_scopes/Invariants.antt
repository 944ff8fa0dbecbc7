use Rattle.registry_tables.proofs.Words.{◌≡◌, ◌++◌, length, into_iter_items, into_iter_len, scopes_levels, AreTeamsSound}
use Rattle.registry_tables.proofs.InsideFacts.{Keeps}
use Rattle.registry_tables.proofs.levels.add_scopes.Given as goal

-- the packages of the scopes so far were added, and nothing has changed
abbrev pub invariant-loop-organisation : goal.invariant-loop-organisation
invariant-loop-organisation g l = record {
  kept : Keeps g.S.Store l.fn.tx l.tx (λ c. AreTeamsSound c → l.packages.items ++ scopes_levels c l.caller (into_iter_items l.organisation-iterator)
      ≡ l.fn.packages.items ++ scopes_levels c l.caller (into_iter_items l.initial.organisation-iterator));
  remain : into_iter_len l.organisation-iterator ≡ length (into_iter_items l.organisation-iterator);
}
