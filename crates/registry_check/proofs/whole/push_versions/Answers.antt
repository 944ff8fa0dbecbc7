use Rattle.std.proofs.Common.{◌≡◌, ◌∙◌, ◌++◌, ap, List, OnOk}
use Rattle.std.proofs.lemmas.Result.{on_ok_weaker}
use Rattle.registry_check.specs.Problems.{held_problems, live_problems, need_problems}
use Rattle.registry_check.specs.Rows.{Rows, rows_of}
use Rattle.registry_check.specs.declared.problem.Problem.{Problem}
use Rattle.registry_check.proofs.whole.push_versions.Goals as goal

pub returns : goal.returns
returns c =
    let rows : Rows = rows_of c.args.all.now in
    let step1 : c.push_problems.new.problems.items ≡ c.args.problems.now.items ++ live_problems rows = rw c.deref.ensures.value at c.in_ok-push_problems.ensures in
    let step2 : c.push_needs.new.problems.items ≡ c.push_problems.new.problems.items ++ need_problems rows = rw c.deref-2.ensures.value at c.in_ok-push_needs.ensures in
    let last : OnOk c.push_problems-2.result (c.push_problems-2.new.problems.items ≡ c.push_needs.new.problems.items ++ held_problems rows) = rw c.deref-3.ensures.value at c.push_problems-2.ensures in
    on_ok_weaker c.push_problems-2.result (λ e. e ∙ ap (λ (l : List Problem). l ++ held_problems rows) (step2 ∙ ap (λ (l : List Problem). l ++ need_problems rows) step1)) last
