use Rattle.std.proofs.Common.{sym, ap, ◌∙◌}
use Rattle.std.proofs.lemmas.List.{length-map}
use Rattle.registry_ranges.specs.Bounds.{comparator_view}
use Rattle.registry_ranges.specs.Comparators.{range_allows}
use Rattle.registry_ranges.proofs.PieceFacts.{next-ends, none-next, some-next, start-bound}
use Rattle.registry_ranges.proofs.range.set_allows.Goals as goal

pub range_at-requires : goal.range_at-requires
range_at-requires c =
    let next = next-ends _ _ _ _ c.places-test.true c.places.invariant.0 in
    (next.0, rw (length-map c.args.comparators.now comparator_view) at (start-bound _ _ _ next.1))

pub returns-then-range_allows : goal.returns-then-range_allows
returns-then-range_allows c =
    let here = ap (range_allows c.args.version.now) (sym c.range_at.ensures) ∙ sym c.range_allows.ensures ∙ c.if-range_allows.true in
    sym (c.places.invariant.1 ∙ some-next (range_allows c.args.version.now) _ _ _ _ c.places-test.true here)

pub places-preserved : goal.places-preserved
places-preserved c =
    let here = ap (range_allows c.args.version.now) (sym c.range_at.ensures) ∙ sym c.range_allows.ensures ∙ c.if-range_allows.false in (
      (next-ends _ _ _ _ c.places-test.true c.places.invariant.0).1,
      c.places.invariant.1 ∙ none-next (range_allows c.args.version.now) _ _ _ _ c.places-test.true here,
    )
