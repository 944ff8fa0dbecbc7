use Rattle.registry_tables.proofs.members.load_role.Goals as goal

pub returns : goal.returns
returns g c = rw (c.text.ensures.text) at c.find_role.ensures
