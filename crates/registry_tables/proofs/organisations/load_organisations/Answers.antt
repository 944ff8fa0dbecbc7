use Rattle.registry_tables.proofs.OrganisationFacts.{list_means, organisations_listed}
use Rattle.registry_tables.proofs.InsideFacts.{is_query}
use Rattle.registry_tables.proofs.organisations.load_organisations.Goals as goal

pub returns : goal.returns
returns g c = c.texts.ensures _ (is_query list_means) (organisations_listed _ _)
