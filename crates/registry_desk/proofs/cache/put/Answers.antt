use Rattle.registry_desk.proofs.Words.{refl}
use Rattle.registry_desk.proofs.CacheFacts.{is_put_as}
use Rattle.registry_desk.proofs.cache.put.Goals as goal

pub returns-in-Ok : goal.returns-in-Ok
returns-in-Ok g c =
    is_put_as c.args.name.now (g.V.Shared.bytes c.args.value.now) c.args.name.now (g.V.Shared.bytes c.in-Ok.value) c.put-kept.result c.args.cache.now c.put-kept.new.self refl c.in-Ok.ensures c.put-kept.ensures.ok c.put-kept.ensures.err
