use Rattle.registry_tables.proofs.Words.{◌≡◌, List, ◌∷◌, ◌++◌, ◌∙◌, map, sym, ap, subst, arith, length, into_iter_items, granted_entry, readable}
use Rattle.registry_packument.specs.declared.list.Granted.{Granted}
use Rattle.registry_tables.proofs.InsideFacts.{finds_knows, keeps_and}
use Rattle.registry_tables.proofs.ReadableFacts.{next_taken}
use Rattle.registry_tables.proofs.team_packages.read_by.Goals as goal

pub loop-row-preserved-in-Continue-branch-2 : goal.loop-row-preserved-in-Continue-branch-2
loop-row-preserved-in-Continue-branch-2 g c =
    let at = c.loop-row in
    let steps : into_iter_items at.row-iterator ≡ c.in-Some.row ∷ into_iter_items c.next.new.self = c.in-Some.ensures.steps.0 in
    let who = c.args.caller.now in
    let all = into_iter_items c.into_iter-row-iterator.result in
    let next = into_iter_items c.next.new.self in
    record {
      kept = keeps_and g.S.Store c.args.tx.now at.tx c.is_read.new.tx _ at.invariant.kept (finds_knows g.S.Store at.tx c.is_read.new.tx _ c.in_ok-is_read.ensures) (λ d were is_told sound.
          let so_far = subst (λ (gs : List Granted). map granted_entry at.read.items ++ readable d who (map granted_entry gs) ≡ readable d who (map granted_entry all)) steps (were sound) in
          subst (λ (gs : List Granted). map granted_entry gs ++ readable d who (map granted_entry next) ≡ readable d who (map granted_entry all)) (sym c.in_ok-push.ensures.items)
          (next_taken d who at.read.items c.in-Some.row next all so_far (sym (is_told sound) ∙ c.if-branch.true)));
      remain =
          let was = at.invariant.remain in
          let gone = c.in-Some.ensures.steps.1 in
          let short = ap length steps in
          omega arith;
    }
