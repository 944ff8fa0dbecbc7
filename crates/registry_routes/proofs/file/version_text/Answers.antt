use Rattle.registry_routes.proofs.FileFacts.{parts-tried}
use Rattle.registry_routes.proofs.file.version_text.Goals as goal

pub returns-in-None : goal.returns-in-None
returns-in-None c =
    let one = rw c.text.ensures.text at c.in-None.ensures in
    parts-tried c.version_behind-in-None.result _ _ _ c.part.ensures.0 c.part.ensures.1 one c.version_behind-in-None.ensures
