use Rattle.registry_service.proofs.turning.end_of.Goals as goal

pub returns-in-Ok : goal.returns-in-Ok
returns-in-Ok c = rw c.in-Ok.is (c.end_after_reply.ensures c.in-Ok.field-0)
