use Rattle.registry_laws_history.proofs.MomentFacts.{created_at_first, modified_at_last}
use Rattle.registry_laws_history.proofs.TimeKeyFacts.{time_keys_rise}
use Rattle.registry_laws_history.proofs.laws.packuments_have_moments.Goals as goal

pub returns-clause-created : goal.returns-clause-created
returns-clause-created c = created_at_first

pub returns-clause-modified : goal.returns-clause-modified
returns-clause-modified c = modified_at_last

pub returns-clause-keys : goal.returns-clause-keys
returns-clause-keys c = time_keys_rise
