use Rattle.registry_log.proofs.MaskFacts.{revoked-hidden, tokens-hidden}
use Rattle.registry_log.proofs.laws.tokens_are_hidden.Goals as goal

pub returns : goal.returns
returns c = record { tokens = tokens-hidden; revoked = revoked-hidden }
