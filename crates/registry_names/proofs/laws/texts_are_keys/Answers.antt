use Rattle.registry_names.proofs.KeyFacts.{text_key, pair_key, triple_key}
use Rattle.registry_names.proofs.laws.texts_are_keys.Goals as goal

pub returns-clause-one : goal.returns-clause-one
returns-clause-one c = text_key

pub returns-clause-two : goal.returns-clause-two
returns-clause-two c = pair_key

pub returns-clause-three : goal.returns-clause-three
returns-clause-three c = triple_key
