use Rattle.std.proofs.Common.{◌≡◌, ◌∙◌, ◌++◌, ap, List, OnOk}
use Rattle.std.proofs.lemmas.Result.{on_ok_weaker}
use Rattle.registry_check.specs.Problems.{maintainer_form_problems, organisation_form_problems, package_form_problems, team_form_problems, token_form_problems, user_form_problems}
use Rattle.registry_check.specs.Rows.{Rows, rows_of}
use Rattle.registry_check.specs.declared.problem.Problem.{Problem}
use Rattle.registry_check.proofs.whole.push_names.Goals as goal

pub returns : goal.returns
returns c =
    let rows : Rows = rows_of c.args.all.now in
    let step1 : c.push_problems.new.problems.items ≡ c.args.problems.now.items ++ user_form_problems rows = rw c.deref.ensures.value at c.in_ok-push_problems.ensures in
    let step2 : c.push_problems-2.new.problems.items ≡ c.push_problems.new.problems.items ++ token_form_problems rows = rw c.deref-2.ensures.value at c.in_ok-push_problems-2.ensures in
    let step3 : c.push_problems-3.new.problems.items ≡ c.push_problems-2.new.problems.items ++ organisation_form_problems rows = rw c.deref-3.ensures.value at c.in_ok-push_problems-3.ensures in
    let step4 : c.push_problems-4.new.problems.items ≡ c.push_problems-3.new.problems.items ++ team_form_problems rows = rw c.deref-4.ensures.value at c.in_ok-push_problems-4.ensures in
    let step5 : c.push_problems-5.new.problems.items ≡ c.push_problems-4.new.problems.items ++ package_form_problems rows = rw c.deref-5.ensures.value at c.in_ok-push_problems-5.ensures in
    let last : OnOk c.push_problems-6.result (c.push_problems-6.new.problems.items ≡ c.push_problems-5.new.problems.items ++ maintainer_form_problems rows) = rw c.deref-6.ensures.value at c.push_problems-6.ensures in
    on_ok_weaker c.push_problems-6.result (λ e. e ∙ ap (λ (l : List Problem). l ++ maintainer_form_problems rows) (step5 ∙ ap (λ (l : List Problem). l ++ package_form_problems rows) (step4 ∙ ap (λ (l : List Problem). l ++ team_form_problems rows) (step3 ∙ ap (λ (l : List Problem). l ++ organisation_form_problems rows) (step2 ∙ ap (λ (l : List Problem). l ++ token_form_problems rows) step1))))) last
