use Rattle.registry_desk.proofs.Words.{◌≡◌, false, refl, rules, state, IsSettled}
use Rattle.registry_desk.proofs.AdoptedFacts.{adopted, given_back, given_back_same}
use Rattle.registry_desk.proofs.open.taken_over.Goals as goal

pub returns-then-not-is_autocommit : goal.returns-then-not-is_autocommit
returns-then-not-is_autocommit g c = record {
  ok = tt;
  err = given_back_same g.S.Store c.args.conn.now (λ db on. g.met.S.Store.settled c.args.conn.now.store db on) c.requires.rises;
  inside = λ _. (refl, refl);
}

pub returns-in-Err : goal.returns-in-Err
returns-in-Err g c =
    let was : c.args.conn.now.in_transaction ≡ false = search rules in
    record {
      ok = tt;
      err = given_back_same g.S.Store c.args.conn.now (λ db on. g.met.S.Store.settled c.args.conn.now.store db on) c.requires.rises;
      inside = λ inside. absurd cc;
    }

pub returns-in-Ok-settle : goal.returns-in-Ok-settle
returns-in-Ok-settle g c =
    let was : c.args.conn.now.in_transaction ≡ false = search rules in
    record {
      ok = adopted (state g.S.Store c.args.conn.now) (state g.S.Store c.settle.new.conn) c.in-Ok.caches c.in-Ok.ensures c.in-Ok-settle.ensures;
      err = tt;
      inside = λ inside. absurd cc;
    }

pub returns-in-Err-settle : goal.returns-in-Err-settle
returns-in-Err-settle g c =
    let was : c.args.conn.now.in_transaction ≡ false = search rules in
    let settled : IsSettled (state g.S.Store c.args.conn.now) = search rules in
    record {
      ok = tt;
      err = given_back g.S.Store c.settle.new.conn (λ db on. g.met.S.Store.settled c.settle.new.conn.store db on) (state g.S.Store c.args.conn.now) c.in-Err-settle.fault was (c.requires.rises was) settled c.in-Err-settle.ensures;
      inside = λ inside. absurd cc;
    }
