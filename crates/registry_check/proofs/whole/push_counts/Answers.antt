use Rattle.std.proofs.Common.{◌≡◌, ◌∙◌, ◌++◌, ap, List}
use Rattle.std.proofs.lemmas.Result.{on_ok_weaker}
use Rattle.registry_check.specs.Problems.{counted_problems, counter_problems}
use Rattle.registry_check.specs.Rows.{Rows, rows_of}
use Rattle.registry_check.specs.declared.problem.Problem.{Problem}
use Rattle.registry_check.proofs.whole.push_counts.Goals as goal

pub returns : goal.returns
returns c =
    let rows : Rows = rows_of c.args.all.now in
    let step1 : c.push_problems.new.problems.items ≡ c.args.problems.now.items ++ counted_problems rows = rw c.deref.ensures.value at c.in_ok-push_problems.ensures in
    on_ok_weaker c.push_broken.result (λ e. e ∙ ap (λ (l : List Problem). l ++ counter_problems rows) step1) c.push_broken.ensures
