use Rattle.registry_documents.proofs.ShownFacts.{shown_is_there}
use Rattle.registry_documents.proofs.laws.what_is_shown_is_there.Goals as goal

pub returns : goal.returns
returns c = shown_is_there
