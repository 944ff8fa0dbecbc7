use Rattle.registry_packument.proofs.PackFacts.{pack_text-json}
use Rattle.registry_packument.proofs.laws.packuments_are_json.Goals as goal

pub returns : goal.returns
returns c = pack_text-json
