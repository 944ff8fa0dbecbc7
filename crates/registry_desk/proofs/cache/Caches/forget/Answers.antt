use Rattle.registry_desk.proofs.Words.{List, map, subst, sym, take, take_all, change_of, AreLeftBy}
use Rattle.registry_rules.specs.declared.change.Change.{Change}
use Rattle.registry_desk.proofs.KeptFacts.{left_next, left_no_more, left_none}
use Rattle.registry_desk.proofs.cache.Caches.forget.Goals as goal

pub loop-change-init : goal.loop-change-init
loop-change-init c = record { forgets = left_none c.args.self.now }

pub loop-change-preserved : goal.loop-change-preserved
loop-change-preserved c = record {
  forgets = left_next c.args.changes.now c.loop-change.change-index c.change-item.result c.loop-change-test.true c.change-item.is
      c.args.self.now c.loop-change.self c.forget_changed.new.self c.loop-change.invariant.forgets (c.in_ok-forget_changed.ensures.ok _ c.changed_by.ensures);
}

pub returns-in_err-forget_changed-clause-no_more : goal.returns-in_err-forget_changed-clause-no_more
returns-in_err-forget_changed-clause-no_more c =
    let cs = map change_of (take c.loop-change.change-index c.args.changes.now) in
    left_no_more cs c.args.self.now c.forget_changed.new.self (subst (AreLeftBy cs c.args.self.now) (sym c.in_err-forget_changed.ensures.err) c.loop-change.invariant.forgets)

pub returns-clause-ok : goal.returns-clause-ok
returns-clause-ok c =
    subst (λ (changes : List Change). AreLeftBy (map change_of changes) c.args.self.now c.loop-change.self) (take_all c.loop-change.change-index c.args.changes.now c.loop-change-test.false) c.loop-change.invariant.forgets

pub returns-clause-no_more : goal.returns-clause-no_more
returns-clause-no_more c = left_no_more _ c.args.self.now c.loop-change.self c.loop-change.invariant.forgets
