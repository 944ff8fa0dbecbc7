use Rattle.registry_http.specs.Services.{shown}
use Rattle.registry_laws_beside.proofs.HeldFacts.{holds-leave, queries-leave}
use Rattle.registry_laws_beside.proofs.laws.held_servers_leave_what_is_stored.Goals as goal

pub returns-clause-queries : goal.returns-clause-queries
returns-clause-queries g c = queries-leave (shown g.S.Store)

pub returns-clause-holds : goal.returns-clause-holds
returns-clause-holds g c = holds-leave (shown g.S.Store)
