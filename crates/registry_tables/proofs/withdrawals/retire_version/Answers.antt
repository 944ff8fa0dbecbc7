use Rattle.registry_tables.proofs.Words.{◌∙◌, SFits, w64, rules, to_z-of_z, ℤ, Option, ap, sym, archives_left, put, pos, without_rows}
use Rattle.registry_tables.proofs.InsideFacts.{found_sound}
use Rattle.registry_tables.proofs.ReferenceFacts.{HeldLive, held_live}
use Rattle.registry_tables.proofs.ThenFacts.{finds_makes, makes_and, makes_then}
use Rattle.registry_tables.proofs.withdrawals.retire_version.Goals as goal

pub returns-clause-makes : goal.returns-clause-makes
returns-clause-makes g c =
    let old = c.args.tx.now in
    let asked = c.held_archive.new.tx in
    let dropped = c.drop_version.new.tx in
    let freed = c.free_archive.new.tx in
    let new = c.put_withdrawal.new.tx in
    let p = c.args.name.now in
    let v = c.args.version.now in
    let number = finds_makes g.S.Store old asked _ (found_sound g.S.Store old asked _ HeldLive held_live c.in_ok-number.ensures) in
    let fits : SFits w64 c.in-Some.number = search rules in
    let rest = makes_and g.S.Store dropped freed new _ c.put_withdrawal.result (rw (to_z-of_z w64 c.in-Some.number fits) at c.in_ok-free_archive.ensures) c.put_withdrawal.ensures.makes in
    let gone = makes_and g.S.Store asked dropped new _ c.put_withdrawal.result c.in_ok-drop_version.ensures rest in
    makes_then g.S.Store old asked new _ c.put_withdrawal.result number gone
    (λ d is. ap (λ (o : Option ℤ). record (without_rows p v d) {
      archives = archives_left o (without_rows p v d);
      spent = put d.spent (p, v) (record { published = pos c.args.published; withdrawn = pos c.args.withdrawn });
    }) (sym c.in-Some.is ∙ is.1))
    (λ d is y so. record { lives = is.0 _ _ (sym is.1 ∙ c.in-Some.is); not_spent = so.1.1; untagged = so.0 })
