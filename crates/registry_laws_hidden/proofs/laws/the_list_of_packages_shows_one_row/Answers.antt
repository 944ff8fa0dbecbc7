use Rattle.registry_laws_hidden.proofs.OverviewFacts.{list_lacks_one_row}
use Rattle.registry_laws_hidden.proofs.laws.the_list_of_packages_shows_one_row.Goals as goal

pub returns : goal.returns
returns c = list_lacks_one_row
