use Rattle.registry_tables.proofs.Words.{SFits, w64, rules, ◌≡◌, ◌∙◌, Ok, refl, to_z-of_z, Contents, next_archive}
use Rattle.registry_tables.proofs.ArchiveFacts.{archive_put}
use Rattle.registry_tables.proofs.InsideFacts.{clean_before, since_after, write_makes}
use Rattle.registry_tables.proofs.ThenFacts.{makes_of}
use Rattle.registry_tables.proofs.archives.add.Goals as goal

pub returns : goal.returns
returns g c =
    let fits : SFits w64 c.last_insert_rowid.result = search rules in
    makes_of g.S.Store c.args.tx.now c.write.new.tx _ _
    (write_makes g.S.Store _ _ c.args.tx.now c.write.new.tx (Ok (tt {0})) {asks = λ (d : Contents). c.last_insert_rowid.result ≡ next_archive d} c.write.ensures.stays
    (rw (c.params-to_sql.ensures, c.params-to_sql-2.ensures) at c.in_ok-write.ensures.wrote)
    (λ form wrote clean. let it = archive_put c.args.integrity.now c.args.bytes.now _ _ form wrote clean in (c.last_insert_rowid.ensures ∙ it.answered, it.leaves)))
    (λ d is. refl) (λ d is. to_z-of_z w64 c.last_insert_rowid.result fits ∙ is)

pub returns-in_err-write : goal.returns-in_err-write
returns-in_err-write g c = record {
  since = λ start d h since. since_after g.S.Store c.args.tx.now c.write.new.tx c.write.ensures.stays start since;
  clean = clean_before g.S.Store c.args.tx.now c.write.new.tx c.write.ensures.stays;
  ran = search rules;
  holds = λ _ _. search rules;
  told = λ _ _ _. search rules;
}
