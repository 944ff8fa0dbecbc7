use Rattle.registry_tables.proofs.RangeFacts.{change_in_range, changes_in_range, fresh_in_range, numbers_read_back}
use Rattle.registry_tables.proofs.laws.numbers_stay_in_range.Goals as goal

pub returns : goal.returns
returns c = record {
  fresh = fresh_in_range;
  one = change_in_range;
  all = changes_in_range;
  read_back = numbers_read_back;
}
