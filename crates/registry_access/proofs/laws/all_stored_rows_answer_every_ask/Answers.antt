use Rattle.registry_access.proofs.WholeFacts.{whole_stand}
use Rattle.registry_access.proofs.laws.all_stored_rows_answer_every_ask.Goals as goal

pub returns : goal.returns
returns c = whole_stand
