use Rattle.registry_tables.proofs.OrganisationFacts.{find_means, organisation_found}
use Rattle.registry_tables.proofs.InsideFacts.{is_query}
use Rattle.registry_tables.proofs.organisations.is_organisation.Goals as goal

pub returns : goal.returns
returns g c = c.has.ensures _ (is_query find_means) (rw (c.params-to_sql.ensures) (organisation_found c.args.organisation.now _ _))
