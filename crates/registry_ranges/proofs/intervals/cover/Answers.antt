use Rattle.std.proofs.Common.{rules, ap, ◌∙◌, sym, not, length, refl}
use Rattle.std.proofs.lemmas.List.Sorted.{IsPartitionPoint-from_clause}
use Rattle.std.proofs.lemmas.Option.{slice_get_past, slice_get_read}
use Rattle.registry_ranges.proofs.IntervalFacts.{ends_before, found, parted, starts_at}
use Rattle.registry_ranges.proofs.intervals.cover.Goals as goal

pub returns-in-Some : goal.returns-in-Some
returns-in-Some c =
    let v = c.args.version.now in
    let xs = c.args.intervals.now in
    let at = c.partition_point-place.result in
    let point = IsPartitionPoint-from_clause (ends_before v) xs at c.partition_point-place.ensures.partitioned (parted v xs c.requires) (λ a r q k. search rules) in
    let here = slice_get_read xs (length xs) at c.in-Some.interval.now refl c.in-Some.ensures.lookup.3.0 c.in-Some.ensures.lookup.1 in
    ap not c.starts_after.ensures ∙ ap (starts_at v) (sym here) ∙ found v xs at c.requires point

pub returns-in-None : goal.returns-in-None
returns-in-None c =
    let v = c.args.version.now in
    let xs = c.args.intervals.now in
    let at = c.partition_point-place.result in
    let point = IsPartitionPoint-from_clause (ends_before v) xs at c.partition_point-place.ensures.partitioned (parted v xs c.requires) (λ a r q k. search rules) in
    ap (starts_at v) (sym (slice_get_past xs at c.in-None.ensures.lookup.3)) ∙ found v xs at c.requires point
