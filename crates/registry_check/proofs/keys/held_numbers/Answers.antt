use Rattle.std.proofs.Common.{◌∙◌, ℤ, ap, sym}
use Rattle.std.specs.List.{list_any}
use Rattle.std.specs.Ordering.{int_eq}
use Rattle.std.proofs.lemmas.List.Sorted.{list_any-IsPermutation}
use Rattle.registry_check.specs.declared.tables.HeldRow.{HeldRow}
use Rattle.registry_check.proofs.SearchFacts.{any_mapped}
use Rattle.registry_check.proofs.keys.held_numbers.Goals as goal

pub returns-clause-held : goal.returns-clause-held
returns-clause-held c = λ n.
    sym (list_any-IsPermutation (λ m. int_eq m n) _ _ c.sort_unstable.ensures.permutation) ∙ ap (list_any (λ m. int_eq m n)) c.in_ok-numbers.ensures
    ∙ sym (any_mapped (λ (m : ℤ). int_eq m n) (λ (r : HeldRow). r.archive) c.args.held.now)
