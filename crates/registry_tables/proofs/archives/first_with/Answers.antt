use Rattle.registry_tables.proofs.Words.{◌∙◌, sym}
use Rattle.registry_tables.proofs.ArchiveFacts.{among_next}
use Rattle.registry_tables.proofs.archives.first_with.Goals as goal

pub loop-row-preserved : goal.loop-row-preserved
loop-row-preserved c = record {
  rest = c.loop-row.invariant.rest ∙ among_next c.args.bytes.now c.args.rows.now c.loop-row.row-index c.row-item.result c.loop-row-test.true c.row-item.is (sym c.in_ok-has_bytes.ensures ∙ c.if-branch.false);
}
