use Rattle.registry_tables.proofs.organisations.has_organisation.Goals as goal

pub returns : goal.returns
returns g c = rw (c.text.ensures.text) at c.is_organisation.ensures
