use Rattle.registry_documents.proofs.SameFacts.{a_claim}
use Rattle.registry_documents.proofs.laws.claims_are_heard.Goals as goal

pub returns : goal.returns
returns c = a_claim
