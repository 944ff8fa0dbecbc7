use Rattle.registry_log.proofs.ColumnFacts.{line-columns, line-single}
use Rattle.registry_log.proofs.laws.lines_have_seven_columns.Goals as goal

pub returns : goal.returns
returns c = record { columns = line-columns; single = line-single }
