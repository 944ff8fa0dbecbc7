-- Maps whose values are read as values of another type.
use Rattle.std.specs.Prelude.{map}
use Rattle.std.specs.declared.cmp.Ordering.{Ordering}
use Rattle.registry_names.specs.Maps.{MapBy, entries, rows}

-- each value read as what its key and value say
unfoldable pub read_as : {K X Y : Type 0} {cmp : K → K → Ordering} → MapBy cmp X → (K → X → Y) → MapBy cmp Y
read_as {cmp = cmp} m f = rows cmp (map (λ e. (e.0, f e.0 e.1)) (entries m))
