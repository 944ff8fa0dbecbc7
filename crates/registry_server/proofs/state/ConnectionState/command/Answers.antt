use Rattle.registry_server.proofs.state.ConnectionState.command.Goals as goal

pub returns-clause-first : goal.returns-clause-first
returns-clause-first g c =
    let says = rw c.in-Ok-Whole.field-0-is at c.in-Ok-Whole.ensures.says in
    record { first = says.0; within = says.1; one = c.asks_one.ensures c.if-not-asks_one.false }
