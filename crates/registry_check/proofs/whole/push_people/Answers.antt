use Rattle.std.proofs.Common.{◌≡◌, ◌∙◌, ◌++◌, ap, List, OnOk}
use Rattle.std.proofs.lemmas.Result.{on_ok_weaker}
use Rattle.registry_check.specs.Problems.{member_problems, organisation_problems, team_member_problems, team_problems, token_problems}
use Rattle.registry_check.specs.Rows.{Rows, rows_of}
use Rattle.registry_check.specs.declared.problem.Problem.{Problem}
use Rattle.registry_check.proofs.whole.push_people.Goals as goal

pub returns : goal.returns
returns c =
    let rows : Rows = rows_of c.args.all.now in
    let step1 : c.push_problems.new.problems.items ≡ c.args.problems.now.items ++ token_problems rows = rw c.deref.ensures.value at c.in_ok-push_problems.ensures in
    let step2 : c.push_problems-2.new.problems.items ≡ c.push_problems.new.problems.items ++ organisation_problems rows = rw c.deref-2.ensures.value at c.in_ok-push_problems-2.ensures in
    let step3 : c.push_problems-3.new.problems.items ≡ c.push_problems-2.new.problems.items ++ member_problems rows = rw c.deref-3.ensures.value at c.in_ok-push_problems-3.ensures in
    let step4 : c.push_problems-4.new.problems.items ≡ c.push_problems-3.new.problems.items ++ team_problems rows = rw c.deref-4.ensures.value at c.in_ok-push_problems-4.ensures in
    let last : OnOk c.push_problems-5.result (c.push_problems-5.new.problems.items ≡ c.push_problems-4.new.problems.items ++ team_member_problems rows) = rw c.deref-5.ensures.value at c.push_problems-5.ensures in
    on_ok_weaker c.push_problems-5.result (λ e. e ∙ ap (λ (l : List Problem). l ++ team_member_problems rows) (step4 ∙ ap (λ (l : List Problem). l ++ team_problems rows) (step3 ∙ ap (λ (l : List Problem). l ++ member_problems rows) (step2 ∙ ap (λ (l : List Problem). l ++ organisation_problems rows) step1)))) last
