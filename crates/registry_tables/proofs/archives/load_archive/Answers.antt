use Rattle.registry_tables.proofs.Words.{◌∙◌, SFits, w64, rules, sym, to_z-of_z}
use Rattle.registry_tables.proofs.InsideFacts.{finds_knows, finds_of, found_and, found_sound}
use Rattle.registry_tables.proofs.LiveFacts.{archive_of_held}
use Rattle.registry_tables.proofs.ReferenceFacts.{HeldLive, held_live}
use Rattle.registry_tables.proofs.archives.load_archive.Goals as goal

pub returns-in-Some : goal.returns-in-Some
returns-in-Some g c =
    let old = c.args.tx.now in
    let mid = c.held_archive.new.tx in
    let new = c.load_bytes.new.tx in
    let fits : SFits w64 c.in-Some.number = search rules in
    let number = found_sound g.S.Store old mid _ HeldLive held_live c.in_ok-number.ensures in
    let bytes = finds_knows g.S.Store mid new _ (rw (to_z-of_z w64 c.in-Some.number fits) at c.in_ok-load_bytes.ensures) in
    finds_of g.S.Store old new _ _ (found_and g.S.Store old mid new _ _ number bytes) (λ d it.
    let held = sym it.0.1 ∙ c.in-Some.is in
    archive_of_held d (c.args.name.now, c.args.version.now) _ _ held (it.0.0 _ _ held) it.1)
