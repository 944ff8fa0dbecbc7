use Rattle.std.proofs.Common.{option_map}
use Rattle.registry_npm.specs.Packages.{late}
use Rattle.registry_npm.proofs.ComesFacts.{comes-alone, comes-asked}
use Rattle.registry_npm.proofs.commands.command.Goals as goal

pub returns : goal.returns
returns g c = comes-asked g.D.Service.answers _ _ _ _ _ _ _ _ c.request-request.ensures c.answer-outcome.ensures (comes-alone g.D.Service.answers _ (late (option_map (λ t. t.now) c.args.path) c.answer-outcome.result) _ c.late.ensures)
