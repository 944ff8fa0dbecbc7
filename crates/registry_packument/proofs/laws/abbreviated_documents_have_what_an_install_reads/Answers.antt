use Rattle.registry_packument.proofs.AbbreviatedFacts.{found_script, own_members}
use Rattle.registry_packument.proofs.laws.abbreviated_documents_have_what_an_install_reads.Goals as goal

pub returns-clause-own : goal.returns-clause-own
returns-clause-own c = own_members

pub returns-clause-script : goal.returns-clause-script
returns-clause-script c = found_script
