-- The registry without a package: all that it holds but the package's own, as if nobody had ever
-- touched the package.
use Rattle.std.specs.Prelude.{not}
use Rattle.registry_names.specs.Keys.{Pair}
use Rattle.registry_names.specs.Maps.{PairMap, keep}
use Rattle.registry_names.specs.Texts.{Text, is}
use Rattle.registry_access.specs.Hiding as access
use Rattle.registry_rules.specs.State.{State}

-- the entries of a map that are under other packages
abbrev pub of_others : {X : Type 0} → PairMap X → Text → PairMap X
of_others m p = keep m (λ (k : Pair). not (is k.0 p))

-- what is held but the package's status, grants, maintainers, live and withdrawn versions and tags
abbrev pub state_without : State → Text → State
state_without S p = record { access = access.access_without S.access p; live = of_others S.live p; spent = of_others S.spent p; tags = of_others S.tags p }
