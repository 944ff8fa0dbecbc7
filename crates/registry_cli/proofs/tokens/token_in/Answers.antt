use Rattle.std.proofs.Common.{◌∙◌, ap}
use Rattle.std.proofs.lemmas.Result.{IfOk-weaker}
use Rattle.registry_publish.specs.Tokens.{is_token}
use Rattle.registry_cli.proofs.TokenFacts.{token_is}
use Rattle.registry_cli.proofs.tokens.token_in.Goals as goal

pub returns-clause-form : goal.returns-clause-form
returns-clause-form c =
    IfOk-weaker c.spelled.result _ _ (λ t h. ap is_token h ∙ token_is c.args.random.now c.requires.length (λ i. (c.type_inv.random i).fits)) c.spelled.ensures
