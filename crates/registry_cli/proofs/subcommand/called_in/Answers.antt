use Rattle.std.proofs.Common.{◌∙◌, ap, ◌≡◌, find, option_map, rules, tests}
use Rattle.std.specs.Str.{bytes_eq}
use Rattle.std.proofs.lemmas.Iterator.{YieldsList-from_slice}
use Rattle.std.proofs.lemmas.Iterator.Search.{find_from_yields_List}
use Rattle.clap.proofs.WalkLemmas.{find-map}
use Rattle.registry_cli.specs.Tables.{row_of}
use Rattle.registry_cli.proofs.RowFacts.{mapped}
use Rattle.registry_cli.proofs.subcommand.called_in.Goals as goal

pub returns : goal.returns
returns c =
    let name = c.args.name.now in
    let rows = c.args.rows.now in
    let found : option_map (λ row. row.now) c.find.result ≡ find (λ row. bytes_eq row.name.now name) rows = find_from_yields_List (λ row. bytes_eq row.name.now name) _ _ c.find.result c.find.ensures.ran (YieldsList-from_slice rows cc) (λ x b q k. search (rules, tests)) in
    mapped c.find.result ∙ ap (option_map row_of) found ∙ find-map (λ row. bytes_eq row.0 name) row_of rows
