use Rattle.registry_tables.proofs.meta.opened.Goals as goal

pub returns-clause-opened : goal.returns-clause-opened
returns-clause-opened g c = (c.lacks_tables.new.tx, rw c.if-branch.false at c.in_ok-lacks_tables.ensures.lists, c.in_ok-load_schema.ensures.shows)
