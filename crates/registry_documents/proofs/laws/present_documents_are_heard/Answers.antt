use Rattle.registry_documents.specs.Documents.{is_of}
use Rattle.registry_documents.specs.Judging.{asked_in}
use Rattle.registry_documents.proofs.LawFacts.{heard_of}
use Rattle.registry_documents.proofs.laws.present_documents_are_heard.Goals as goal

pub returns : goal.returns
returns c w d path present revision = heard_of (is_of revision path w) (asked_in w d present)
