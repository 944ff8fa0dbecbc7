use Rattle.registry_tables.proofs.Words.{◌∙◌, SFits, w64, rules, sym, to_z-of_z}
use Rattle.registry_tables.proofs.ArchiveFacts.{is_added, is_there}
use Rattle.registry_tables.proofs.ThenFacts.{finds_makes, makes_of, makes_then}
use Rattle.registry_tables.proofs.archives.store_archive.Goals as goal

pub returns-in-Some : goal.returns-in-Some
returns-in-Some g c =
    let fits : SFits w64 c.in-Some.number = search rules in
    let found = finds_makes g.S.Store c.args.tx.now c.find_number.new.tx _ c.in_ok-number.ensures in
    makes_of g.S.Store c.args.tx.now c.find_number.new.tx _ _ found
    (λ d is. (is_there c.args.integrity.now c.args.bytes.now d _ (sym is ∙ c.in-Some.is)).0) (λ d is. to_z-of_z w64 c.in-Some.number fits ∙ (is_there c.args.integrity.now c.args.bytes.now d _ (sym is ∙ c.in-Some.is)).1)

pub returns-in-None : goal.returns-in-None
returns-in-None g c =
    let found = finds_makes g.S.Store c.args.tx.now c.find_number.new.tx _ c.in_ok-number.ensures in
    makes_then g.S.Store c.args.tx.now c.find_number.new.tx c.add.new.tx _ c.add.result found c.add.ensures
    (λ d is. (is_added c.args.integrity.now c.args.bytes.now d (sym is ∙ c.in-None.is)).0) (λ d is number next. next ∙ (is_added c.args.integrity.now c.args.bytes.now d (sym is ∙ c.in-None.is)).1)
