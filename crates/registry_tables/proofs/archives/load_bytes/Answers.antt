use Rattle.registry_tables.proofs.Words.{◌∙◌, SFits, w64, rules, sym, to_z-of_z}
use Rattle.registry_tables.proofs.InsideFacts.{finds_of}
use Rattle.registry_tables.proofs.archives.load_bytes.Goals as goal

pub returns-in-Some : goal.returns-in-Some
returns-in-Some g c =
    let fits : SFits w64 c.args.number = search rules in
    finds_of g.S.Store c.args.tx.now c.find_bytes.new.tx _ _ (rw (to_z-of_z w64 c.args.number fits) at c.in_ok-bytes.ensures) (λ d is. sym is ∙ c.in-Some.is)
