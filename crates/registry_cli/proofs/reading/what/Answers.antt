use Rattle.std.proofs.Common.{◌∙◌, ◌∷◌, ap, map}
use Rattle.std.proofs.lemmas.Result.{IfOk-weaker}
use Rattle.clap.specs.Matches.{found_of}
use Rattle.clap.specs.Walk.{rows_of}
use Rattle.registry_cli.specs.Lines.{told, value_in}
use Rattle.registry_cli.proofs.RowFacts.{met}
use Rattle.registry_cli.proofs.reading.what.Goals as goal

pub returns-in-Some : goal.returns-in-Some
returns-in-Some c =
    let rows = rows_of (found_of c.in-Some.found.now) in
    IfOk-weaker c.named.result _ _ (λ v h. h ∙ ap (λ ids. c.in-Some.name.now ∷ map (value_in rows) ids) c.parameters_of.ensures ∙ ap told (met _ c.in-Some.name.now rows c.in-Some.ensures.name c.in-Some.ensures.rows)) c.named.ensures
