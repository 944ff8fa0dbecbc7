use Rattle.std.proofs.Common.{◌≡◌, length}
use Rattle.sqlite.specs.State.{HasCleanDisk}
use Rattle.registry_tables.specs.Effects.{stored}
use Rattle.registry_http.specs.Services.{applied, shown}
use Rattle.registry_log.specs.Logs.{AreFirstAsked}
use Rattle.registry_log.specs.LookUps.{LooksUp, MayNameEach}
use Rattle.registry_service.specs.Turns.{AnswersAsBefore}
use Rattle.registry_log.proofs.logged_service.known.Given as goal

-- of the first requests it is known who asks, and whatever may be answered now might have been
-- answered at first
abbrev pub invariant-loop-request : goal.invariant-loop-request
invariant-loop-request g l = record {
  many : length l.asked.items ≡ l.request-index;
  first : AreFirstAsked l.requests l.asked.items;
  before : AnswersAsBefore (applied (shown g.S.Store)) l.fn.inner l.inner;
  over : l.inner.is_over ≡ l.fn.inner.is_over;
  looks : LooksUp (shown g.S.Store l.fn.inner) (shown g.S.Store l.inner);
  named : HasCleanDisk (shown g.S.Store l.inner) → MayNameEach (stored (shown g.S.Store l.fn.inner)) l.requests l.asked.items;
}
