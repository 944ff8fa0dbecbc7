use Rattle.registry_tables.proofs.InsideFacts.{is_query}
use Rattle.registry_tables.proofs.VersionFacts.{document_found, document_means}
use Rattle.registry_tables.proofs.versions.load_document.Goals as goal

pub returns : goal.returns
returns g c = c.find.ensures _ (is_query document_means) (rw (c.params-to_sql.ensures, c.params-to_sql-2.ensures, c.text.ensures.text) (document_found c.args.name.now c.args.version.now _ _))
