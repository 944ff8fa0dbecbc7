use Rattle.std.proofs.Common.{◌≡◌, drop, length}
use Rattle.registry_ranges.specs.Comparators.{set_allows}
use Rattle.registry_ranges.specs.RangeViews.{AreEnds, comparators_view, pieces}
use Rattle.registry_ranges.proofs.range.set_allows.Given as goal

-- the ranges that are left decide
abbrev pub invariant-places : goal.invariant-places
invariant-places l = AreEnds l.start (drop l.i l.ends) (length (comparators_view l.comparators))
    × (set_allows l.version (pieces 0 l.ends (comparators_view l.comparators)) ≡ set_allows l.version (pieces l.start (drop l.i l.ends) (comparators_view l.comparators)))
