-- Keys of one, two and three texts, each kind with its order and its test.
use Rattle.std.specs.Prelude.{◌≡◌, Bool, ◌&&◌}
use Rattle.std.specs.declared.cmp.Ordering.{Ordering}
use Rattle.std.specs.declared.cmp.Ordering.TheVariants.{Equal}
use Rattle.std.specs.Ordering.{ordering_then, is_eq}
use Rattle.std.specs.Cmp.{IsTotalOrder}
use Rattle.registry_names.specs.Texts.{Text, text_cmp, is}

abbrev pub Pair : Type 0
Pair = Text × Text

abbrev pub Triple : Type 0
Triple = Text × Pair

-- by the first text, and then by the rest
unfoldable pub by_first : {R : Type 0} → (R → R → Ordering) → Text × R → Text × R → Ordering
by_first cmp a b = ordering_then (text_cmp a.0 b.0) (cmp a.1 b.1)

-- whether the first texts are the same, and the rests too
abbrev pub both : {R : Type 0} → (R → R → Bool) → Text × R → Text × R → Bool
both same a b = is a.0 b.0 && same a.1 b.1

abbrev pub pair_cmp : Pair → Pair → Ordering
pair_cmp = by_first text_cmp

abbrev pub pair_is : Pair → Pair → Bool
pair_is = both is

abbrev pub triple_cmp : Triple → Triple → Ordering
triple_cmp = by_first pair_cmp

abbrev pub triple_is : Triple → Triple → Bool
triple_is = both pair_is

-- what a key needs: a total order, which ties only equal keys, and a test that holds exactly where
-- the order ties
pub record IsKey {K : Type 0} (cmp : K → K → Ordering) (same : K → K → Bool) : Type 0 where
  pub total : IsTotalOrder cmp
  pub exact : (a b : K) → cmp a b ≡ Equal → a ≡ b
  pub test : (a b : K) → same a b ≡ is_eq (cmp a b)
