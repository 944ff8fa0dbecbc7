use Rattle.registry_packument.proofs.ValueFacts.{document_text-compact}
use Rattle.registry_packument.proofs.laws.documents_are_json.Goals as goal

pub returns : goal.returns
returns c = document_text-compact
