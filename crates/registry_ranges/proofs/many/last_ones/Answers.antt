use Rattle.std.proofs.Common.{rules, of_calls, sym, ◌∙◌}
use Rattle.std.proofs.lemmas.Fn.{always_returns_same}
use Rattle.std.specs.Prelude.{not}
use Rattle.registry_names.specs.Versions.{VersionParts}
use Rattle.registry_ranges.specs.Bounds.{comparator_view}
use Rattle.registry_ranges.specs.Comparators.{holds}
use Rattle.registry_ranges.proofs.ManyFacts.{filter-drop, parted-from, take-rest}
use Rattle.registry_ranges.proofs.many.last_ones.Goals as goal

pub returns : goal.returns
returns c =
    let xs = c.args.versions.now in
    let n = c.partition_point-count.result in
    let point = c.partition_point-count.ensures.partitioned (λ (v : VersionParts). not (holds v (comparator_view c.args.comparator.now))) (always_returns_same _ _ _ (λ a r f k. search (rules, of_calls)))
    (parted-from (comparator_view c.args.comparator.now) xs c.requires.sorted c.requires.relation) in
    take-rest n xs ∙ sym (filter-drop (λ (v : VersionParts). holds v (comparator_view c.args.comparator.now)) xs n c.partition_point-count.ensures.bound point.0 point.1)
