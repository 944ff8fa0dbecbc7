-- Finite maps under keys of texts.
use Rattle.std.specs.Prelude.{Bool, cond, List, [], ◌∷◌, map, Option, Some, None}
use Rattle.std.specs.List.{list_any}
use Rattle.std.specs.declared.cmp.Ordering.{Ordering}
use Rattle.std.specs.FinMap as fin
use Rattle.registry_names.specs.Texts.{Text, text_cmp, is}
use Rattle.registry_names.specs.Keys.{Pair, by_first, pair_cmp, triple_cmp}

-- a map to X, whose keys are in the order `cmp`
abbrev pub MapBy : {K : Type 0} → (K → K → Ordering) → Type 0 → Type 0
MapBy cmp X = fin.FinMap cmp X

abbrev pub TextMap : Type 0 → Type 0
TextMap X = MapBy text_cmp X

abbrev pub PairMap : Type 0 → Type 0
PairMap X = MapBy pair_cmp X

abbrev pub TripleMap : Type 0 → Type 0
TripleMap X = MapBy triple_cmp X

module _ {K X : Type 0} {cmp : K → K → Ordering} where
  unfoldable pub empty : MapBy cmp X
  empty = fin.empty

  -- the value at a key
  unfoldable pub at : MapBy cmp X → K → Option X
  at m k = fin.get m k

  unfoldable pub put : MapBy cmp X → K → X → MapBy cmp X
  put m k x = fin.insert m k x

  unfoldable pub erase : MapBy cmp X → K → MapBy cmp X
  erase m k = fin.remove m k

  -- the entries whose keys pass the test
  unfoldable pub keep : MapBy cmp X → (K → Bool) → MapBy cmp X
  keep m test = fin.retain_keys m test

  -- each key with its value, in the order of the keys
  unfoldable pub entries : MapBy cmp X → List (K × X)
  entries m = fin.entries m

  -- each value changed by what its key and value say
  unfoldable pub revise : MapBy cmp X → (K → X → X) → MapBy cmp X
  revise m f = fin.from_entries (map (λ e. (e.0, f e.0 e.1)) (fin.entries m))

-- the map that a list of rows gives, under keys that `cmp` orders. Where a key occurs twice, its
-- first row counts
unfoldable pub rows : {K X : Type 0} (cmp : K → K → Ordering) → List (K × X) → MapBy cmp X
rows cmp es = fin.from_entries es

-- the rests of the keys with this first text, with their values
abbrev pub parts : {R X : Type 0} → List ((Text × R) × X) → Text → List (R × X)
parts [] p = []
parts (e ∷ es) p = cond (is e.0.0 p) ((e.0.1, e.1) ∷ parts es p) (parts es p)

-- the part of a map under a first text: the rests of its keys, which `cmp` orders, with the values
unfoldable pub part : {R X : Type 0} (cmp : R → R → Ordering) → MapBy (by_first cmp) X → Text → List (R × X)
part cmp m p = parts (entries m) p

-- the part of a map under pairs: the second texts, in byte order
abbrev pub of : {X : Type 0} → PairMap X → Text → List (Text × X)
of m p = part text_cmp m p

-- the part of a map under triples: the second and third texts, in byte order
abbrev pub pairs_of : {X : Type 0} → TripleMap X → Text → List (Pair × X)
pairs_of m p = part pair_cmp m p

-- the value of the first row with this key
abbrev pub first_at : {K X : Type 0} → (K → K → Bool) → List (K × X) → K → Option X
first_at same [] k = None
first_at same (e ∷ es) k = cond (same e.0 k) (Some e.1) (first_at same es k)

-- whether the keys strictly rise
abbrev pub rises : {K X : Type 0} → (K → K → Ordering) → List (K × X) → Bool
rises cmp es = fin.is_sorted cmp es

-- whether a key is one of these
abbrev pub among : {K : Type 0} → (K → K → Bool) → List K → K → Bool
among same ks k = list_any (λ q. same q k) ks

-- the keys of a list of rows
abbrev pub keys : {K X : Type 0} → List (K × X) → List K
keys es = map (λ e. e.0) es

-- a row with `g` of its value
abbrev pub seen : {K X Y : Type 0} → (X → Y) → K × X → K × Y
seen g e = (e.0, g e.1)
