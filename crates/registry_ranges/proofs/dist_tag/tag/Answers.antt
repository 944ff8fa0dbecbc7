use Rattle.std.proofs.Common.{◌≡◌, refl, Bool, true, false, List, ℕ, inl, inr}
use Rattle.std.proofs.lemmas.Result.{IfOk-weaker}
use Rattle.registry_ranges.specs.Grammar.{IsRangeText}
use Rattle.registry_ranges.proofs.dist_tag.tag.Goals as goal

is_true : (b : Bool) → (b ≡ false → ⊥) → b ≡ true
is_true true h = refl
is_true false h = absurd (h refl)

no_range : (b : Bool) (text : List ℕ) → (IsRangeText text → b ≡ true) → b ≡ false → IsRangeText text → ⊥
no_range b text f none t = let yes : b ≡ true = f t in cc

pub returns-clause-ok : goal.returns-clause-ok
returns-clause-ok c =
    let none = no_range c.is_range.result c.args.text.now c.is_range.ensures.1 (cc) in
    IfOk-weaker c.shape.result _ _ (λ x h. (h.0, (h.1, none))) c.shape.ensures.ok

pub returns-clause-range : goal.returns-clause-range
returns-clause-range c =
    let none = no_range c.is_range.result c.args.text.now c.is_range.ensures.1 (cc) in (
      λ e. elim (rw e at c.shape.ensures.err) [ inl m ↦ absurd (cc) | inr r ↦ absurd (cc (r.0)) ],
      λ t. absurd (none t),
    )

pub returns-clause-bad : goal.returns-clause-bad
returns-clause-bad c =
    let none = no_range c.is_range.result c.args.text.now c.is_range.ensures.1 (cc) in (
      λ e. (elim (rw e at c.shape.ensures.err) [ inl m ↦ absurd (cc) | inr r ↦ r.1 ], none),
      λ p. c.shape.ensures.refused p.0,
    )

pub returns-clause-fault : goal.returns-clause-fault
returns-clause-fault c =
    let none = no_range c.is_range.result c.args.text.now c.is_range.ensures.1 (cc) in
    λ e. (is_true _ (λ f. let bad = c.shape.ensures.refused f in cc), none)
