use Rattle.std.proofs.Common.{◌≡◌, ◌∙◌, rules, ap₂, refl}
use Rattle.std.proofs.lemmas.Result.{IfOk-weaker}
use Rattle.clap.specs.Simple.{app_of, with_rule}
use Rattle.clap.specs.Walk.{rule_of}
use Rattle.registry_cli.specs.Subcommands.{existing, db}
use Rattle.registry_cli.proofs.command.with_file.Goals as goal

pub returns-clause-app : goal.returns-clause-app
returns-clause-app c =
    let db_is : rule_of c.default_value-db.result ≡ db = search rules in
    let existing_is : rule_of c.action-existing.result ≡ existing = search rules in
    let first : app_of c.in_ok-command.command ≡ with_rule (app_of c.args.command) db = c.in_ok-command.ensures.app ∙ ap₂ with_rule refl db_is in
    IfOk-weaker c.with_argument-2.result _ _ (λ m h. h ∙ ap₂ with_rule first existing_is) c.with_argument-2.ensures.app
