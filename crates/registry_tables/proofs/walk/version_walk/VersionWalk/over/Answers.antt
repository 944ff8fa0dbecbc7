use Rattle.registry_tables.proofs.Words.{documents_of, shown_by}
use Rattle.registry_tables.proofs.WalkFacts.{rows_back}
use Rattle.registry_tables.proofs.walk.version_walk.VersionWalk.over.Goals as goal

pub returns-clause-all : goal.returns-clause-all
returns-clause-all g c = rows_back (documents_of (shown_by g.R.LiveRows.store (g.R.LiveRows.rows c.args.rows.now)) c.args.name.now)
