-- What a hold of its server leaves of a registry.
use Rattle.std.specs.Prelude.{◌≡◌, IsTrue}
use Rattle.sqlite.specs.State.{State as Shown, HasCleanDisk}
use Rattle.registry_rules.specs.declared.request.Request.{Request}
use Rattle.registry_tables.specs.Effects.{stored}
use Rattle.registry_laws_history.specs.Runs.{Outcome}
use Rattle.registry_server.specs.Queries.{AskQueries, IsQueried}
use Rattle.registry_http.specs.Services.{applied}

module _ {D : Type 0} (show : D → Shown) where
  -- an open registry holds after queries what it held before them, and was open all the time
  abbrev pub QueriesLeaveStored : Type 0
  QueriesLeaveStored = (M N : D) → AskQueries (applied show) M N → HasCleanDisk (show N) → IsTrue (show N).is_open → IsTrue (show M).is_open × (stored (show N) ≡ stored (show M))

  -- so whatever is answered first after a hold is answered by a registry that holds what was held
  -- before it
  abbrev pub HoldsLeaveStored : Type 0
  HoldsLeaveStored = (M N L : D) (r : Request) (o : Outcome) → IsQueried (applied show) M N → applied show N r o L → HasCleanDisk (show L) → IsTrue (show L).is_open
      → (K : D) × applied show K r o L × (stored (show K) ≡ stored (show M))
