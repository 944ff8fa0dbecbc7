use Rattle.std.proofs.Common.{rules, of_calls, sym}
use Rattle.std.proofs.lemmas.Fn.{always_returns_same}
use Rattle.registry_names.specs.Versions.{VersionParts}
use Rattle.registry_ranges.specs.Bounds.{comparator_view}
use Rattle.registry_ranges.specs.Comparators.{holds}
use Rattle.registry_ranges.proofs.ManyFacts.{filter-take, parted-to}
use Rattle.registry_ranges.proofs.many.first_ones.Goals as goal

pub returns : goal.returns
returns c =
    let xs = c.args.versions.now in
    let point = c.partition_point-count.ensures.partitioned (λ (v : VersionParts). holds v (comparator_view c.args.comparator.now)) (always_returns_same _ _ _ (λ a r f k. search (rules, of_calls)))
    (parted-to (comparator_view c.args.comparator.now) xs c.requires.sorted c.requires.relation) in
    sym (filter-take (λ (v : VersionParts). holds v (comparator_view c.args.comparator.now)) xs c.partition_point-count.result c.partition_point-count.ensures.bound point.0 point.1)
