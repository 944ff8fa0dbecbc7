use Rattle.registry_cli.proofs.TokenFacts.{different}
use Rattle.registry_cli.proofs.tokens.different_bytes_make_different_tokens.Goals as goal

pub returns : goal.returns
returns c = different
