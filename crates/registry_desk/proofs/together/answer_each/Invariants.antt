use Rattle.registry_desk.proofs.Words.{take, IsTrue, HasCleanDisk, Stays, InForm, shown, HasAnswers, KeepNoMore}
use Rattle.registry_desk.specs.Resting.{HoldsAsWritten}
use Rattle.registry_desk.specs.Together.{AreAnsweredInside}
use Rattle.registry_desk.proofs.together.answer_each.Given as goal

-- the requests so far were answered in the transaction, which goes on
abbrev pub invariant-loop-place : goal.invariant-loop-place
invariant-loop-place g l = record {
  stays : Stays g.S.Store l.fn.tx l.tx;
  in_form : InForm g.S.Store l.tx;
  begun : HasCleanDisk (shown g.S.Store l.tx) → IsTrue (shown g.S.Store l.tx).in_transaction;
  written : HoldsAsWritten (shown g.S.Store l.tx);
  right : HasAnswers (shown g.S.Store l.tx) l.caches;
  no_more : KeepNoMore l.fn.caches l.caches;
  answered : AreAnsweredInside g.S.Store (take l.place l.requests) (take l.place l.outcomes) l.fn.tx.conn.now l.tx.conn.now;
}
