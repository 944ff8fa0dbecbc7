use Rattle.std.proofs.Common.{◌∙◌, ap, subst, sym, List}
use Rattle.clap.specs.Walk.{Text}
use Rattle.registry_cli.proofs.ErrandFacts.{added_asks, added_whole, adds_token}
use Rattle.registry_cli.specs.Errands.{AddsTokenOf}
use Rattle.registry_cli.specs.Lines.{IsWhole, asks_to_serve}
use Rattle.registry_cli.proofs.errands.NewToken.line.Goals as goal

pub returns-clause-whole : goal.returns-clause-whole
returns-clause-whole c = subst (λ (what : List Text). IsWhole what) (sym c.in_ok-what.ensures) (added_whole c.args.self.user c.args.token)

pub returns-clause-asks : goal.returns-clause-asks
returns-clause-asks c = ap asks_to_serve c.in_ok-what.ensures ∙ added_asks c.args.self.user c.args.token

pub returns-clause-stored : goal.returns-clause-stored
returns-clause-stored c =
    subst (λ (what : List Text). AddsTokenOf (record { db = c.args.self.db; existing = c.args.self.existing; who = c.args.self.who; at = c.args.self.at; what = what }) c.args.self.user c.args.token)
    (sym c.in_ok-what.ensures) (adds_token c.args.self c.args.token)
