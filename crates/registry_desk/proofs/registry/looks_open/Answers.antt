use Rattle.registry_desk.proofs.Words.{[], arith, inl, inr, state, HasCleanDisk, rules}
use Rattle.registry_desk.proofs.LookFacts.{failed_looks, failed_stopped, only_fails, seen_open, seen_rests, seen_stored}
use Rattle.registry_desk.proofs.registry.looks_open.Goals as goal

pub returns-in-Ok-clause-rests : goal.returns-in-Ok-clause-rests
returns-in-Ok-clause-rests g c =
    seen_rests (state g.S.Store c.args.conn.now) (state g.S.Store c.prepare.new.self) c.requires.rests (c.prepare.ensures.mode c.requires.rests.idle)
    (λ clean. (omega (arith, c.prepare.ensures.survives.clean, clean), inl (c.in-Ok.ensures.ok clean).1))

pub returns-in-Ok-clause-stored : goal.returns-in-Ok-clause-stored
returns-in-Ok-clause-stored g c clean on =
    seen_stored (state g.S.Store c.args.conn.now) (state g.S.Store c.prepare.new.self) c.requires.rests (omega (arith, c.prepare.ensures.survives.clean, clean))
    (inl (c.in-Ok.ensures.ok clean).1) on

pub returns-in-Err : goal.returns-in-Err
returns-in-Err g c =
    let old = state g.S.Store c.args.conn.now in
    let new = state g.S.Store c.prepare.new.self in
    let were : HasCleanDisk new → HasCleanDisk old = λ clean. omega (arith, c.prepare.ensures.survives.clean, clean) in
    let only = λ (clean : HasCleanDisk new). only_fails old new c.requires.rests (were clean) _ (c.in-Err.ensures.err clean []) in
    record {
      rests = seen_rests old new c.requires.rests (c.prepare.ensures.mode c.requires.rests.idle) (λ clean. (were clean, inr (only clean).3));
      seen = λ clean. failed_looks old new _ c.seen_by.result c.seen_by.ensures (only clean);
      opened = λ clean on. seen_open old new c.requires.rests (were clean) (inr (only clean).3) on;
      stored = λ clean on. seen_stored old new c.requires.rests (were clean) (inr (only clean).3) on;
      survives = search rules;
      faults = λ clean. failed_stopped old new _ c.seen_by.result c.seen_by.ensures (only clean);
    }
