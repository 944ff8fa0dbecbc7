use Rattle.registry_tables.proofs.InsideFacts.{write_makes}
use Rattle.registry_tables.proofs.OrganisationFacts.{organisation_put, organisation_was_new}
use Rattle.registry_tables.proofs.organisations.add_organisation.Goals as goal

pub returns : goal.returns
returns g c = write_makes g.S.Store _ _ c.args.tx.now c.write.new.tx c.write.result c.write.ensures.stays
    (rw (c.params-to_sql.ensures) at c.write.ensures.wrote)
    (λ form wrote clean. (organisation_was_new c.args.organisation.now _ _ form wrote clean, organisation_put c.args.organisation.now _ _ form wrote clean))
