use Rattle.registry_tables.proofs.Words.{◌∙◌, ap, list_any, sym}
use Rattle.std.proofs.lemmas.List.Sorted.{list_any-IsPermutation}
use Rattle.registry_tables.proofs.dependents.in_order.Goals as goal

pub returns-clause-same : goal.returns-clause-same
returns-clause-same c = λ test. sym (list_any-IsPermutation test _ _ c.sort_unstable.ensures.permutation) ∙ ap (list_any test) c.in_ok-versions.ensures
