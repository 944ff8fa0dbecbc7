use Rattle.std.proofs.Common.{◌∙◌, ap}
use Rattle.std.proofs.lemmas.Result.{IfOk-weaker}
use Rattle.clap.specs.Matches.{found_of}
use Rattle.clap.specs.Walk.{rows_of}
use Rattle.registry_cli.proofs.RowFacts.{met}
use Rattle.registry_cli.specs.Errands.{errand_by}
use Rattle.registry_cli.proofs.errands.errand_by.Goals as goal

pub returns-in-Some : goal.returns-in-Some
returns-in-Some c =
    let rows = rows_of (found_of c.args.matches.now) in
    let found = rows_of (found_of c.in-Some.found.now) in
    IfOk-weaker c.errand_called.result _ _ (λ e h. h ∙ ap (errand_by c.args.who rows) (met _ c.in-Some.name.now found c.in-Some.ensures.name c.in-Some.ensures.rows)) c.errand_called.ensures
