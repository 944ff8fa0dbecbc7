use Rattle.registry_server.proofs.pool.visited.Goals as goal

pub returns-else-commands_wait-clause-aside : goal.returns-else-commands_wait-clause-aside
returns-else-commands_wait-clause-aside g c = λ none. rw c.if-commands_wait.false (c.visit_or_set_aside.ensures.aside none)
