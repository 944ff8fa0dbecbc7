use Rattle.std.proofs.Common.{◌∙◌, ◌==◌, ap, length, List, sym, refl}
use Rattle.std.specs.List.{list_any}
use Rattle.std.specs.Prelude.{◌||◌, not}
use Rattle.registry_ranges.specs.declared.many.Numbers.{Numbers}
use Rattle.registry_ranges.specs.Many.{is_named}
use Rattle.registry_ranges.proofs.ManyFacts.{leaves-sorted, reads-allowed, reads-end, reads-or, reads-part, reads-start, reads-wrong}
use Rattle.registry_ranges.proofs.RangeTextFacts.{part-shorter, fresh-shorter, part-valid}
use Rattle.registry_ranges.proofs.many.binds_any.Goals as goal

pub steps-init : goal.steps-init
steps-init c = reads-start _ _ _ _ _ _ refl c.new-near.ensures.items c.new-reader.ensures.place (c.new-reader.ensures.rest ∙ c.as_bytes.ensures.value)

pub within_part-requires-clause-sorted : goal.within_part-requires-clause-sorted
within_part-requires-clause-sorted c = leaves-sorted _ _ _ _ c.requires.sorted c.steps.invariant.1

pub within_part-requires-clause-part : goal.within_part-requires-clause-part
within_part-requires-clause-part c = part-valid _ _ _ _ _ c.in-Part.ensures

pub steps-smaller-in-Part : goal.steps-smaller-in-Part
steps-smaller-in-Part c = part-shorter _ _ _ _ _ c.in-Part.ensures

pub steps-preserved-in-Part : goal.steps-preserved-in-Part
steps-preserved-in-Part c =
    reads-part _ _ _ _ _ _ _ _ _ _ _ c.steps.invariant c.in-Part.ensures c.in_ok-left-in-Part.ensures.ok c.in_ok-left-in-Part.ensures.near

pub returns-then-any_is_allowed-clause-ok : goal.returns-then-any_is_allowed-clause-ok
returns-then-any_is_allowed-clause-ok c =
    sym (reads-allowed _ _ _ _ _ _ _ c.steps.invariant c.in-Or.ensures
    (ap (λ (ns : List Numbers). list_any (λ v. length v.pre == 0 || is_named ns v) c.steps.left.now) (sym c.deref.ensures.value) ∙ sym c.any_is_allowed.ensures ∙ c.if-any_is_allowed.true))

pub steps-smaller : goal.steps-smaller
steps-smaller c = fresh-shorter _ _ _ _ _ c.in-Or.ensures c.new-reader-in-Or.ensures.place c.new-reader-in-Or.ensures.rest

pub steps-preserved : goal.steps-preserved
steps-preserved c =
    reads-or _ _ _ _ _ _ _ _ _ _ _ c.steps.invariant c.in-Or.ensures
    (ap (λ (ns : List Numbers). list_any (λ v. length v.pre == 0 || is_named ns v) c.steps.left.now) (sym c.deref.ensures.value) ∙ sym c.any_is_allowed.ensures ∙ c.if-any_is_allowed.false)
    refl c.clear.ensures.items c.new-reader-in-Or.ensures.place c.new-reader-in-Or.ensures.rest

pub returns-in-End-clause-ok : goal.returns-in-End-clause-ok
returns-in-End-clause-ok c =
    c.any_is_allowed-in-End.ensures ∙ ap (λ (ns : List Numbers). list_any (λ v. length v.pre == 0 || is_named ns v) c.steps.left.now) c.deref-in-End.ensures.value
    ∙ sym (reads-end _ _ _ _ _ _ c.steps.invariant c.in-End.ensures)

pub returns-in-Wrong-clause-ok : goal.returns-in-Wrong-clause-ok
returns-in-Wrong-clause-ok c = ap not c.is_empty.ensures ∙ sym (reads-wrong _ _ _ _ _ _ c.steps.invariant c.in-Wrong.ensures)
