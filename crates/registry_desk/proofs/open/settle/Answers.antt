use Rattle.registry_desk.proofs.Words.{◌∙◌, sym, state}
use Rattle.registry_desk.proofs.AdoptedFacts.{settles_as, settles_not}
use Rattle.registry_desk.proofs.OpenedFacts.{as_ready}
use Rattle.registry_desk.proofs.open.settle.Goals as goal

pub settle_as-requires : goal.settle_as-requires
settle_as-requires g c =
    let has = rw c.in-Ok-Some.field-0-is at c.in-Ok-Some.ensures in
    record { idle = c.requires.idle; ready = as_ready _ (state g.S.Store c.args.conn.now) c.requires.rises c.schema.ensures.live (sym c.schema.ensures.value ∙ has) }

pub returns-in-Ok-Some : goal.returns-in-Ok-Some
returns-in-Ok-Some g c =
    let has = rw c.in-Ok-Some.field-0-is at c.in-Ok-Some.ensures in
    settles_as c.in-Ok-Some.base (state g.S.Store c.args.conn.now) (state g.S.Store c.settle_as.new.conn) c.settle_as.result (sym c.schema.ensures.value ∙ has) c.settle_as.ensures

pub returns-in-Ok-None : goal.returns-in-Ok-None
returns-in-Ok-None g c = settles_not (state g.S.Store c.args.conn.now) _ _ _ c.requires.idle c.requires.settled

pub returns-in-Err : goal.returns-in-Err
returns-in-Err g c = settles_not (state g.S.Store c.args.conn.now) _ _ _ c.requires.idle c.requires.settled
