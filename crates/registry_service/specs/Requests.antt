-- The request of the registry that a request of HTTP spells, or the first refusal of its form.
use Rattle.std.specs.Prelude.{ℕ, Option, Some, None}
use Rattle.registry_names.specs.declared.refusal.Refusal.TheVariants.{NotFound}
use Rattle.registry_routes.specs.Routes.{Route, route_of}
use Rattle.registry_rules.specs.declared.request.Request.{Request}
use Rattle.registry_wire.specs.declared.wanted.Wanted.{Wanted}
use Rattle.registry_service.specs.Actions.{reads_action}
use Rattle.registry_service.specs.Callers.{reads_caller}
use Rattle.registry_service.specs.Readings.{Reading, gives, refuses, then}

-- what the route asks for, and then who asks
abbrev pub reads_routed : Option Route → Wanted → ℕ → Reading Request
reads_routed None w at = refuses NotFound
reads_routed (Some r) w at = then (reads_action r.endpoint r.values w.body) (λ what.
    then (reads_caller w.authorization) (λ who. gives (record { at = at; who = who; what = what })))

-- the route first, then the values of the path, the body, and the authorization
abbrev pub reads_request : Wanted → ℕ → Reading Request
reads_request w at = reads_routed (route_of w.method w.target) w at
