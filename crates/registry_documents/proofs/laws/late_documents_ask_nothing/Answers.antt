use Rattle.registry_documents.specs.Documents.{is_of}
use Rattle.registry_documents.specs.Judging.{asked_in}
use Rattle.registry_documents.proofs.LawFacts.{late_of}
use Rattle.registry_documents.proofs.laws.late_documents_ask_nothing.Goals as goal

pub returns : goal.returns
returns c w d path present revision = late_of (is_of revision path w) (asked_in w d present)
