use Rattle.registry_desk.proofs.Words.{◌∙◌, ap, subst, sym, memory_is_clean, HoldsArchives, registry_of, HoldsNeeds, GrantsInScope, IsKept, IsSound, State, nothing_sound}
use Rattle.registry_desk.proofs.Words.{fresh_is_nothing, fresh_holds, fresh_archives}
use Rattle.registry_rules.proofs.KeptFacts.{nothing_kept}
use Rattle.registry_desk.proofs.CommitFacts.{fresh_in_scope}
use Rattle.registry_desk.proofs.KeptFacts.{new_cached}
use Rattle.registry_desk.proofs.registry.Registry+MemStore.in_memory.Goals as goal

pub invariant_of-result : goal.invariant_of-result
invariant_of-result c = new_cached _ c.in_ok-caches.caches c.in_ok-settle_as.ensures.rests c.in_ok-caches.ensures

pub returns : goal.returns
returns c =
    let settled = c.in_ok-settle_as.ensures.made (memory_is_clean c.settle_as.new.conn) in
    let made = settled.2 in
    let is_empty = ap registry_of made ∙ fresh_is_nothing in
    record {
      fresh = made;
      empty = is_empty;
      -- nobody is granted anything
      sound = record { grants = subst GrantsInScope (sym made) fresh_in_scope; needs = subst HoldsNeeds (sym made) fresh_holds };
      refers = subst (λ (S : State). IsSound S.access) (sym is_empty) nothing_sound;
      archives = subst HoldsArchives (sym made) fresh_archives;
      form = subst IsKept (sym is_empty) nothing_kept;
      served = settled.1;
    }
