use Rattle.std.proofs.Common.{◌∙◌, ap, length}
use Rattle.registry_server.specs.Connections.{OpenConnection, has_body}
use Rattle.registry_server.proofs.PoolFacts.{body-begun}
use Rattle.registry_server.proofs.connection.Connection.wait.Goals as goal

pub wait-requires : goal.wait-requires
wait-requires g c =
    body-begun c.self.inside.phase.stage (length c.self.inside.state.held)
    (ap (λ (x : OpenConnection g.row.S.Denot). has_body x) c.self.view_is ∙ c.requires)
