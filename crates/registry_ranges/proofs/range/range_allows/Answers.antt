use Rattle.std.proofs.Common.{◌≡◌, ◌∙◌, ◌==◌, sym, ap, Bool, true, false, List, length}
use Rattle.std.proofs.lemmas.List.Folds.{list_all-map}
use Rattle.std.specs.List.{list_all, list_any}
use Rattle.std.specs.Prelude.{◌||◌}
use Rattle.registry_names.specs.Versions.{VersionParts}
use Rattle.registry_ranges.specs.Bounds.{comparator_view}
use Rattle.registry_ranges.specs.Comparators.{holds, is_near, range_allows}
use Rattle.registry_ranges.specs.RangeViews.{comparators_view}
use Rattle.registry_ranges.specs.declared.comparator.Comparator.{Comparator}
use Rattle.registry_ranges.proofs.RangeFacts.{list_any-map}
use Rattle.registry_ranges.proofs.range.range_allows.Goals as goal

or_left : (a b x : Bool) → x ≡ a → x ≡ true → x ≡ (a || b)
or_left true b x e t = t
or_left false b x e t = absurd (cc)

or_right : (a b x : Bool) → a ≡ false → x ≡ b → x ≡ (a || b)
or_right true b x e f = absurd (cc)
or_right false b x e f = f

allowed : (v : VersionParts) (cs : List Comparator) (x : Bool) → list_all (λ c. holds v (comparator_view c)) cs ≡ true → x ≡ (length v.pre == 0 || list_any (λ c. is_near v (comparator_view c)) cs) → x ≡ range_allows v (comparators_view cs)
allowed v cs x all e = rw (list_all-map (holds v) comparator_view cs, list_any-map (is_near v) comparator_view cs, all) e

pub returns-then-is_empty : goal.returns-then-is_empty
returns-then-is_empty c =
    allowed c.args.version.now c.args.range.now _ (sym c.all_hold.ensures ∙ c.if-all_hold.true)
    (or_left _ _ _ (c.is_empty.ensures ∙ ap (λ v. length v.pre == 0) c.as_semver.ensures.parts) c.if-is_empty.true)

pub returns-else-is_empty : goal.returns-else-is_empty
returns-else-is_empty c =
    allowed c.args.version.now c.args.range.now _ (sym c.all_hold.ensures ∙ c.if-all_hold.true)
    (or_right _ _ _ (sym (c.is_empty.ensures ∙ ap (λ v. length v.pre == 0) c.as_semver.ensures.parts) ∙ c.if-is_empty.false) c.any_is_near.ensures)
