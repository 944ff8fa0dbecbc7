use Rattle.registry_desk.proofs.CommitFacts.{rests_sure}
use Rattle.registry_desk.proofs.registry.Registry.adopt.Goals as goal

pub invariant_of-result : goal.invariant_of-result
invariant_of-result g c = c.in-Ok.ensures.ok.cached

pub returns-in-Ok : goal.returns-in-Ok
returns-in-Ok g c =
    let it = c.in-Ok.ensures.ok in
    record {
      made = it.made;
      written = it.cached.rests.written;
      served = it.served;
      durable = λ clean. let on = it.served clean in rests_sure g.S.Store c.taken_over.new.conn (λ db. g.met.S.Store.settled c.taken_over.new.conn.store db on) it.cached.rests clean on;
      idle = λ inside. let never = (c.taken_over.ensures.inside inside).0 in absurd cc;
      back = tt;
      again = tt;
      left = tt;
      alone = tt;
      carried = it.carried;
    }

pub returns-in-Err : goal.returns-in-Err
returns-in-Err g c =
    let it = c.in-Err.ensures.err in
    record {
      made = tt;
      written = tt;
      served = tt;
      durable = tt;
      idle = λ inside. let same = c.taken_over.ensures.inside inside in cc;
      back = it.back;
      again = it.again;
      left = it.left;
      alone = it.alone;
      carried = tt;
    }
