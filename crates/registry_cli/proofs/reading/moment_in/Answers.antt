use Rattle.std.proofs.Common.{◌∙◌, ap, subst, sym}
use Rattle.std.specs.Prelude.{FitsSigned}
use Rattle.std.specs.Int.{w64}
use Rattle.std.proofs.lemmas.Int.{to_z-of_z}
use Rattle.registry_names.specs.Moments.{moment_of}
use Rattle.registry_cli.proofs.MomentFacts.{moment_read, moment_unread}
use Rattle.registry_cli.proofs.reading.moment_in.Goals as goal

pub returns-in-Ok : goal.returns-in-Ok
returns-in-Ok c =
    let read = c.in-Ok.ensures.value.0 in
    let fits : FitsSigned w64 c.in-Ok.seconds = subst (FitsSigned w64) (sym read.1) read.0.1 in
    c.new.ensures ∙ ap moment_of (to_z-of_z w64 c.in-Ok.seconds fits) ∙ moment_read c.args.text.now c.in-Ok.seconds read.0.0 read.0.1 read.1

pub returns-in-Err : goal.returns-in-Err
returns-in-Err c = moment_unread c.args.text.now c.in-Err.ensures.value.0
