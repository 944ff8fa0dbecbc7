use Rattle.std.proofs.Common.{◌≡◌, [], take}
use Rattle.registry_http.specs.Services.{applied, shown}
use Rattle.registry_log.specs.Logs.{logging}
use Rattle.registry_log.specs.LookUps.{LooksUp, NamesEach}
use Rattle.registry_service.specs.Turns.{AnswersAsBefore}
use Rattle.registry_log.proofs.logged_service.name_all.Given as goal

-- whatever may be answered now might have been answered at first, and the first requests have their lines
abbrev pub invariant-loop-request : goal.invariant-loop-request
invariant-loop-request g l = record {
  before : AnswersAsBefore (applied (shown g.S.Store)) l.fn.inner l.inner;
  over : l.inner.is_over ≡ l.fn.inner.is_over;
  looks : LooksUp (shown g.S.Store l.fn.inner) (shown g.S.Store l.inner);
  names : NamesEach (shown g.S.Store l.fn.inner) (shown g.S.Store l.inner) (take l.request-index l.fn.log.unnamed)
      (logging l.fn.log.waiting l.fn.log.answered l.fn.log.later []) l.log;
}
