use Rattle.registry_tables.proofs.Words.{◌≡◌, ◌+◌, rules}
use Rattle.registry_tables.proofs.WalkSourceFacts.{goes_on, is_over, none_given, over_none, some_given}
use Rattle.registry_tables.proofs.walk.version_walk.VersionWalkVersionSource.next.Goals as goal

pub returns-in-Over-clause-gives : goal.returns-in-Over-clause-gives
returns-in-Over-clause-gives g c clean =
    let it = over_none g.R.LiveRows.store c.args.self.now.name.now (g.R.LiveRows.rows c.args.self.now.rows.now).conn.now c.args.self.now.given (rw (c.in-Over.is) at c.args.self.now.at) clean in
    (it, it)

pub invariant_of-self-in-Ok-Some : goal.invariant_of-self-in-Ok-Some
invariant_of-self-in-Ok-Some g c =
    let more : c.args.self.now.given + 1 ≡ c.in-Some.given = search rules in
    let it = goes_on g.R.LiveRows.store c.args.self.now.name.now (g.R.LiveRows.rows c.args.self.now.rows.now).conn.now (g.R.LiveRows.rows c.step.new.self).conn.now c.args.self.now.given c.in-Ok-Some.row (rw (c.in-Goes.is) at c.args.self.now.at)
    (λ clean. rw (c.in-Ok-Some.is) at (c.step.ensures.same clean)) c.step.ensures.left.survives (λ clean. rw (c.in-Ok-Some.is, c.in-Ok-Some.field-0-is) at (c.step.ensures.ok clean)) in
    record { at = rw more at it; unshut = λ _ clean. (rw (c.in-Ok-Some.is) at (c.step.ensures.same clean)).0.is_open }

pub invariant_of-self-in-Ok-None : goal.invariant_of-self-in-Ok-None
invariant_of-self-in-Ok-None g c =
    record {
      at = is_over g.R.LiveRows.store c.args.self.now.name.now (g.R.LiveRows.rows c.args.self.now.rows.now).conn.now (g.R.LiveRows.rows c.step.new.self).conn.now c.args.self.now.given (rw (c.in-Goes.is) at c.args.self.now.at)
          (λ clean. rw (c.in-Ok-None.is) at (c.step.ensures.same clean)) c.step.ensures.left.survives (λ clean. rw (c.in-Ok-None.is, c.in-Ok-None.field-0-is) at (c.step.ensures.ok clean));
      unshut = λ _ clean. (rw (c.in-Ok-None.is) at (c.step.ensures.same clean)).0.is_open;
    }

pub returns-in-Ok-Some-clause-gives : goal.returns-in-Ok-Some-clause-gives
returns-in-Ok-Some-clause-gives g c clean =
    let more : c.args.self.now.given + 1 ≡ c.in-Some.given = search rules in
    let it = some_given g.R.LiveRows.store c.args.self.now.name.now (g.R.LiveRows.rows c.args.self.now.rows.now).conn.now (g.R.LiveRows.rows c.step.new.self).conn.now c.args.self.now.given c.in-Ok-Some.row (rw (c.in-Goes.is) at c.args.self.now.at)
    (rw (c.in-Ok-Some.is) at (c.step.ensures.same clean)) c.step.ensures.left.survives (rw (c.in-Ok-Some.is, c.in-Ok-Some.field-0-is) at (c.step.ensures.ok clean)) clean in
    rw more at it

pub returns-in-Ok-None-clause-gives : goal.returns-in-Ok-None-clause-gives
returns-in-Ok-None-clause-gives g c clean =
    none_given g.R.LiveRows.store c.args.self.now.name.now (g.R.LiveRows.rows c.args.self.now.rows.now).conn.now (g.R.LiveRows.rows c.step.new.self).conn.now c.args.self.now.given (rw (c.in-Goes.is) at c.args.self.now.at)
    (rw (c.in-Ok-None.is) at (c.step.ensures.same clean)) c.step.ensures.left.survives (rw (c.in-Ok-None.is, c.in-Ok-None.field-0-is) at (c.step.ensures.ok clean)) clean
