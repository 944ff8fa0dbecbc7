use Rattle.std.proofs.Common.{◌∙◌, ap, sym}
use Rattle.std.proofs.lemmas.Result.{err_from_is_err_and}
use Rattle.registry_access.specs.Levels.{reads}
use Rattle.registry_npm.proofs.CollaboratorFacts.{asked-after, comes-formless, comes-taken, comes-tried, comes-unread, comes-untaken}
use Rattle.registry_npm.proofs.ComesFacts.{comes-either, comes-or_else, comes-starved}
use Rattle.registry_npm.proofs.collaborators.of_team.Goals as goal

pub returns-in_err-what : goal.returns-in_err-what
returns-in_err-what g c =
    let q = err_from_is_err_and c.from_residual.result c.from_residual.ensures.1 in
    rw (q.1, q.2, c.in_err-what.ensures.err) (λ members ts. comes-starved g.D.Service.answers _ _)

pub returns-in_err-taken : goal.returns-in_err-taken
returns-in_err-taken g c =
    let q = err_from_is_err_and c.from_residual-in_err-taken.result c.from_residual-in_err-taken.ensures.1 in
    rw (q.1, q.2) (λ members ts. comes-tried g.D.Service.answers _ _ _ _ _ _ _ _ _ _ c.in_ok-what.ensures.ok c.asked-outcome.ensures (comes-untaken g.D.Service.answers _ _ _ _ _ _ c.in_err-taken.ensures))

pub returns-in-Err : goal.returns-in-Err
returns-in-Err g c = λ members ts. comes-tried g.D.Service.answers _ _ _ _ _ _ _ _ _ _ c.in_ok-what.ensures.ok c.asked-outcome.ensures (comes-untaken g.D.Service.answers _ _ _ _ _ _ (rw c.in-Err.is at c.in_ok-taken.ensures))

pub returns-in_err-levels : goal.returns-in_err-levels
returns-in_err-levels g c =
    let q = err_from_is_err_and c.from_residual-in_err-levels.result c.from_residual-in_err-levels.ensures.1 in
    rw (q.1, q.2, c.in_err-levels.ensures.err) (λ members ts. comes-tried g.D.Service.answers _ _ _ _ _ _ _ _ _ _ c.in_ok-what.ensures.ok c.asked-outcome.ensures (comes-unread g.D.Service.answers _ _ _ _ _ _ _ (rw c.in-Ok.is at c.in_ok-taken.ensures).0 (rw c.in-Ok.is at c.in_ok-taken.ensures).1))

pub returns-in-None : goal.returns-in-None
returns-in-None g c = λ members ts. comes-tried g.D.Service.answers _ _ _ _ _ _ _ _ _ _ c.in_ok-what.ensures.ok c.asked-outcome.ensures (comes-formless g.D.Service.answers _ _ _ _ _ _ _ (rw c.in-Ok.is at c.in_ok-taken.ensures).0 (rw c.in-Ok.is at c.in_ok-taken.ensures).1 (sym (rw (c.as_str.ensures.text, c.in-None.is) at c.in_ok-levels.ensures.ok)))

pub returns-then-not-reads : goal.returns-then-not-reads
returns-then-not-reads g c =
    let level = (rw c.deref.ensures.value at c.level_on-level.ensures) in
    λ members ts e K h. comes-tried g.D.Service.answers _ _ _ _ _ _ _ _ _ _ c.in_ok-what.ensures.ok c.asked-outcome.ensures (comes-taken g.D.Service.answers _ _ _ _ _ _ _ (rw c.in-Ok.is at c.in_ok-taken.ensures).0 (rw c.in-Ok.is at c.in_ok-taken.ensures).1 _ c.in-Some.levels.items _ (sym (rw (c.as_str.ensures.text, c.in-Some.is) at c.in_ok-levels.ensures.ok))
    (comes-or_else g.D.Service.answers _ _ _ _ _ _ (sym (c.reads.ensures ∙ ap reads level) ∙ c.if-not-reads.true) h))

pub returns : goal.returns
returns g c =
    let level = (rw c.deref.ensures.value at c.level_on-level.ensures) in
    asked-after g.D.Service.answers _ _ _ _ _ _ _ _ _ _ _ (λ members ts e K h. comes-tried g.D.Service.answers _ _ _ _ _ _ _ _ _ _ c.in_ok-what.ensures.ok c.asked-outcome.ensures (comes-taken g.D.Service.answers _ _ _ _ _ _ _ (rw c.in-Ok.is at c.in_ok-taken.ensures).0 (rw c.in-Ok.is at c.in_ok-taken.ensures).1 _ c.in-Some.levels.items _ (sym (rw (c.as_str.ensures.text, c.in-Some.is) at c.in_ok-levels.ensures.ok))
    (comes-either g.D.Service.answers _ _ _ _ _ _ (sym (c.reads.ensures ∙ ap reads level) ∙ c.if-not-reads.false) (rw level at h)))) c.of_granted.ensures
