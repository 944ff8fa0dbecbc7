use Rattle.registry_npm.proofs.LawFacts.{files-are_gone}
use Rattle.registry_npm.proofs.laws.files_are_gone.Goals as goal

pub returns : goal.returns
returns c = files-are_gone
