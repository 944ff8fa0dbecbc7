use Rattle.std.proofs.Common.{rules, sym, subst, Ok, Err}
use Rattle.std.proofs.lemmas.Result.{err_from_is_err_and}
use Rattle.registry_cli.specs.Lines.{argument_at}
use Rattle.registry_cli.specs.Readings.{four}
use Rattle.registry_cli.proofs.ArgumentFacts.{four_stops}
use Rattle.registry_cli.proofs.argument_values.four.Goals as goal

pub returns-in_err-fourth : goal.returns-in_err-fourth
returns-in_err-fourth g c =
    let arguments = c.args.arguments.now in
    let q = err_from_is_err_and c.from_residual-in_err-fourth.result c.from_residual-in_err-fourth.ensures.1 in
    let first : g.A.FromArgument.reads (argument_at arguments 1) (Ok c.in_ok-first.first) = search rules in
    let second : g.B.FromArgument.reads (argument_at arguments 2) (Ok c.in_ok-second.second) = search rules in
    let third : g.C.FromArgument.reads (argument_at arguments 3) (Ok c.in_ok-third.third) = search rules in
    let fourth : g.D.FromArgument.reads (argument_at arguments 4) (Err q.0) = search rules in
    subst (four g.A.FromArgument.reads g.B.FromArgument.reads g.C.FromArgument.reads g.D.FromArgument.reads arguments) (sym q.1)
    (four_stops g.A.FromArgument.reads g.B.FromArgument.reads g.C.FromArgument.reads g.D.FromArgument.reads arguments c.in_ok-first.first c.in_ok-second.second c.in_ok-third.third q.0 first second third fourth)
