use Rattle.std.proofs.Common.{◌≡◌, rules, subst, sym, List}
use Rattle.clap.specs.Walk.{Text}
use Rattle.registry_cli.proofs.AskedFacts.{asked}
use Rattle.registry_cli.specs.Errands.{MeansTokenAdd, token_add_arguments}
use Rattle.registry_cli.proofs.errands.NewToken.arguments.Goals as goal

pub returns-clause-asked : goal.returns-clause-asked
returns-clause-asked c =
    let n = c.args.self.now in
    let token = c.args.token.now in
    let words_are : c.push_token_add.new.words.items ≡ token_add_arguments n token = search rules in
    subst (λ (words : List Text). MeansTokenAdd n token words) (sym words_are) (asked n token c.push_at.ensures.within)
