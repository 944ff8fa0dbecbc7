use Rattle.registry_tables.proofs.Words.{◌≡◌, List, ◌∷◌, ◌++◌, ◌∙◌, map, sym, ap, subst, arith, length, AllByRecursion, into_iter_items, PackageLevel, IsListedFor, levels_on, listed_name, ListedPackage}
use Rattle.registry_tables.proofs.InsideFacts.{keeps_and}
use Rattle.registry_tables.proofs.LevelFacts.{level_taken}
use Rattle.registry_tables.proofs.levels.with_levels.Goals as goal

pub loop-listed-preserved-in-Continue-branch-2 : goal.loop-listed-preserved-in-Continue-branch-2
loop-listed-preserved-in-Continue-branch-2 g c =
    let at = c.loop-listed in
    let steps : into_iter_items at.listed-iterator ≡ c.in-Some.listed ∷ into_iter_items c.next.new.self = c.in-Some.ensures.steps.0 in
    let who = c.args.caller.now in
    let next = into_iter_items c.next.new.self in
    let all = into_iter_items c.into_iter-listed-iterator.result in
    record {
      kept = keeps_and g.S.Store c.args.tx.now at.tx c.level_on.new.tx _ at.invariant.kept c.in_ok-level.ensures (λ d were is sound right.
          let told = were sound right in
          let rest = subst (λ (ps : List ListedPackage). AllByRecursion (IsListedFor d who c.args.role) ps) steps told.0 in
          let so_far = subst (λ (ps : List ListedPackage). at.levels.items ++ levels_on d who (map listed_name ps) ≡ levels_on d who (map listed_name all)) steps told.1 in (
            rest.1,
            ap (λ (ls : List PackageLevel). ls ++ levels_on d who (map listed_name next)) c.in_ok-push.ensures.items
                ∙ level_taken d who at.levels.items c.in-Some.listed.name c.in_ok-level.level (map listed_name next) (map listed_name all) so_far (is sound rest.0) (sym c.reads.ensures ∙ c.if-reads.true),
          ));
      remain =
          let was = at.invariant.remain in
          let gone = c.in-Some.ensures.steps.1 in
          let short = ap length steps in
          omega arith;
    }
