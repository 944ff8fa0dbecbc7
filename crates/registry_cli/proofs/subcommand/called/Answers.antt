use Rattle.std.proofs.Common.{◌∙◌, ap, find, Bool, List, ◌++◌}
use Rattle.std.specs.Str.{bytes_eq}
use Rattle.clap.specs.Walk.{Rule, Text}
use Rattle.registry_cli.specs.Subcommands.{organisations, packages, queries, serving, teams}
use Rattle.registry_cli.specs.Tables.{row_of}
use Rattle.registry_cli.proofs.RowFacts.{found_in_both}
use Rattle.registry_cli.proofs.subcommand.called.Goals as goal

pub returns : goal.returns
returns c =
    let called : Text × List Rule → Bool = λ row. bytes_eq row.0 c.args.name.now in
    let two = found_in_both (λ row. row_of row.now) called _ _ _ organisations teams c.or.ensures (c.called_in.ensures ∙ ap (find called) c.organisations.ensures) (c.called_in-2.ensures ∙ ap (find called) c.teams.ensures) in
    let three = found_in_both (λ row. row_of row.now) called _ _ _ (organisations ++ teams) packages c.or-2.ensures two (c.called_in-3.ensures ∙ ap (find called) c.packages.ensures) in
    let four = found_in_both (λ row. row_of row.now) called _ _ _ ((organisations ++ teams) ++ packages) queries c.or-3.ensures three (c.called_in-4.ensures ∙ ap (find called) c.queries.ensures) in
    found_in_both (λ row. row_of row.now) called _ _ _ (((organisations ++ teams) ++ packages) ++ queries) serving c.or-4.ensures four (c.called_in-5.ensures ∙ ap (find called) c.serving.ensures)
