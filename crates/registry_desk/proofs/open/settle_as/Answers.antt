use Rattle.registry_desk.proofs.Words.{◌≡◌, refl, rules, state, schema_as}
use Rattle.registry_desk.proofs.AdoptedFacts.{settled_by_commit, unsettled}
use Rattle.registry_desk.proofs.CommitFacts.{begun_ready}
use Rattle.registry_desk.proofs.open.settle_as.Goals as goal

pub settle_inside-requires : goal.settle_inside-requires
settle_inside-requires g c = record {
  ready = rw c.transaction-tx.ensures.begun (begun_ready g.S.Store c.args.conn.now (schema_as c.args.base) c.requires.ready);
  going = rw c.transaction-tx.ensures.begun refl;
}

pub returns-in-Ok : goal.returns-in-Ok
returns-in-Ok g c =
    let stays = rw c.transaction-tx.ensures.begun at c.settle_inside.ensures.stays in
    let same : c.commit.new.tx.0 ≡ c.conn-1.given.0 = search rules in
    rw (← same) (settled_by_commit g.S.Store c.args.conn.now (state g.S.Store c.settle_inside.new.tx.conn.now) (state g.S.Store c.commit.new.tx.0) _ _ stays.committed stays.survives c.commit.ensures.ended
    c.commit.result (rw c.transaction-tx.ensures.begun at c.in-Ok.ensures.made) c.commit.ensures.survives c.commit.ensures.ok c.commit.ensures.err)

pub returns-in-Err : goal.returns-in-Err
returns-in-Err g c =
    let stays = rw c.transaction-tx.ensures.begun at c.settle_inside.ensures.stays in
    let same : c.drop-tx.new.self.0 ≡ c.conn-in-Err-1.given.0 = search rules in
    rw (← same) (unsettled g.S.Store c.args.conn.now (state g.S.Store c.settle_inside.new.tx.conn.now) (state g.S.Store c.drop-tx.new.self.0) _ _ stays.committed stays.survives c.drop-tx.ensures.ended
    c.in-Err.fault c.drop-tx.ensures.survives c.drop-tx.ensures.undone)
