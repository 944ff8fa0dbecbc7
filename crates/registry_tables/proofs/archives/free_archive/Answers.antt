use Rattle.registry_tables.proofs.Words.{◌∙◌, SFits, w64, rules, Bool, ap, sym, if◌then◌else◌, to_z-of_z, erase}
use Rattle.registry_tables.proofs.ThenFacts.{finds_makes, makes_of, makes_then}
use Rattle.registry_tables.proofs.archives.free_archive.Goals as goal

pub returns-then-branch : goal.returns-then-branch
returns-then-branch g c =
    let fits : SFits w64 c.args.number = search rules in
    makes_of g.S.Store c.args.tx.now c.is_held.new.tx _ _ (finds_makes g.S.Store c.args.tx.now c.is_held.new.tx _ (rw (to_z-of_z w64 c.args.number fits) at c.in_ok-is_held.ensures))
    (λ d is. ap (λ (b : Bool). record d { archives = if b then d.archives else erase d.archives c.args.number }) (sym c.if-branch.true ∙ is)) (λ d is. tt)

pub returns : goal.returns
returns g c =
    let fits : SFits w64 c.args.number = search rules in
    makes_then g.S.Store c.args.tx.now c.is_held.new.tx c.drop_archive.new.tx _ c.drop_archive.result (finds_makes g.S.Store c.args.tx.now c.is_held.new.tx _ (rw (to_z-of_z w64 c.args.number fits) at c.in_ok-is_held.ensures)) (rw (to_z-of_z w64 c.args.number fits) at c.drop_archive.ensures)
    (λ d is. ap (λ (b : Bool). record d { archives = if b then d.archives else erase d.archives c.args.number }) (sym c.if-branch.false ∙ is)) (λ d is y told. tt)
