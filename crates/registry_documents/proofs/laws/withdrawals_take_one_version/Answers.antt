use Rattle.registry_documents.proofs.LawFacts.{a_withdrawal}
use Rattle.registry_documents.proofs.laws.withdrawals_take_one_version.Goals as goal

pub returns : goal.returns
returns c = a_withdrawal
