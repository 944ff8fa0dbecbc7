use Rattle.registry_documents.proofs.LawFacts.{a_deprecation}
use Rattle.registry_documents.proofs.laws.deprecations_change_messages.Goals as goal

pub returns : goal.returns
returns c = a_deprecation
