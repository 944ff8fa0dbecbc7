use Rattle.registry_desk.proofs.StopFacts.{migrations_lose_nothing}
use Rattle.registry_desk.proofs.laws.migrations_lose_nothing.Goals as goal

pub returns : goal.returns
returns c = migrations_lose_nothing
