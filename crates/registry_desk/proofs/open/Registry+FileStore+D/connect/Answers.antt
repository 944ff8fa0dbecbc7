use Rattle.registry_desk.proofs.Words.{file_state, image_of}
use Rattle.registry_desk.proofs.OpenedFacts.{fails_as, finds_in, opened_rises}
use Rattle.registry_desk.proofs.open.Registry+FileStore+D.connect.Goals as goal

pub returns-in-Ok-clause-rises : goal.returns-in-Ok-clause-rises
returns-in-Ok-clause-rises g c = opened_rises (image_of g.D.Disk c.args.files) (file_state c.in-Ok.conn) (file_state c.in-Ok.conn) c.in-Ok.ensures.opened (finds_in c.args.files c.in-Ok.conn c.in-Ok.ensures.found)

pub returns-in-Ok-clause-finds : goal.returns-in-Ok-clause-finds
returns-in-Ok-clause-finds g c = finds_in c.args.files c.in-Ok.conn c.in-Ok.ensures.found

pub returns-in-Err-clause-cause : goal.returns-in-Err-clause-cause
returns-in-Err-clause-cause g c clean = fails_as _ _ _ _ c.fault_of.result _ c.in-Err.error (c.in-Err.ensures.cause clean) c.fault_of.ensures
