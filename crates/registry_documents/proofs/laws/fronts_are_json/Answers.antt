use Rattle.registry_documents.proofs.FrontFacts.{front_is}
use Rattle.registry_documents.proofs.laws.fronts_are_json.Goals as goal

pub returns : goal.returns
returns c = front_is
