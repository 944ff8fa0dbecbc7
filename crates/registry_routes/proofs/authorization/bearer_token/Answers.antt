use Rattle.std.proofs.Common.{sym}
use Rattle.registry_routes.proofs.AuthorizationFacts.{no-scheme, no-space, no-text}
use Rattle.registry_routes.proofs.authorization.bearer_token.Goals as goal

pub returns-then-not-is_scheme : goal.returns-then-not-is_scheme
returns-then-not-is_scheme c =
    let cut = c.in_ok-scheme.ensures.cases in
    let missed = c.if-not-is_scheme.true in
    no-scheme _ _ cut.1 (λ e. let hit = c.is_scheme.ensures.1 e in cc (hit, missed))

pub returns-in_err-rest : goal.returns-in_err-rest
returns-in_err-rest c =
    let cut = c.in_ok-scheme.ensures.cases in
    let none = rw c.in_err-rest.was at c.after_space.ensures in
    rw c.from_residual-in_err-rest.ensures (no-space _ _ cut.2 (sym none))

pub returns-in-Err : goal.returns-in-Err
returns-in-Err c =
    let cut = c.in_ok-scheme.ensures.cases in
    let some = rw c.in_ok-rest.was at c.after_space.ensures in
    let wrong = c.in-Err.ensures.cases in
    no-text _ _ _ cut.2 (sym some) (λ u. wrong.0 (rw c.behind_spaces.ensures u))
