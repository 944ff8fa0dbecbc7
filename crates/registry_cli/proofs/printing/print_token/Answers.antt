use Rattle.registry_cli.proofs.PrintFacts.{either-way}
use Rattle.registry_cli.proofs.printing.print_token.Goals as goal

pub returns-clause-errors : goal.returns-clause-errors
returns-clause-errors g c = either-way _ c.write_refusal.ensures.ok c.write_refusal.ensures.err
