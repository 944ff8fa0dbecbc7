use Rattle.std.proofs.Common.{◌≡◌, ◌∙◌, ◌+◌, arith, rules, [], length, refl, sym, ap}
use Rattle.std.proofs.lemmas.Result.{err_from_is_err_and}
use Rattle.registry_names.proofs.ByteStreamFacts.{on_err, Writes-nothing}
use Rattle.registry_packument.proofs.SendingFacts.{member_unwritten, prefix_within}
use Rattle.registry_packument.proofs.sending.write_within.Goals as goal

pub returns-in_err-member-clause-err : goal.returns-in_err-member-clause-err
returns-in_err-member-clause-err g c = on_err c.from_residual.result (member_unwritten c.args.form c.args.later c.args.row _ _)

pub returns-in_err-member-clause-within : goal.returns-in_err-member-clause-within
returns-in_err-member-clause-within g c =
    let q = err_from_is_err_and c.from_residual.result c.from_residual.ensures.1 in
    rw q.1 ([], (omega arith, Writes-nothing _ _))

pub returns-in_default-clause-err : goal.returns-in_default-clause-err
returns-in_default-clause-err g c = member_unwritten c.args.form c.args.later c.args.row _ _

pub returns-in_default-clause-within : goal.returns-in_default-clause-within
returns-in_default-clause-within g c = ([], (omega arith, Writes-nothing _ _))

pub returns-in_err-write_whole-clause-err : goal.returns-in_err-write_whole-clause-err
returns-in_err-write_whole-clause-err g c =
    on_err c.from_residual-in_err-write_whole.result
    (rw (c.as_bytes.ensures.value ∙ c.in_ok-member.ensures.ok) at c.in_err-write_whole.ensures.err)

pub returns-clause-ok : goal.returns-clause-ok
returns-clause-ok g c = rw (c.as_bytes.ensures.value ∙ c.in_ok-member.ensures.ok) at c.in_ok-write_whole.ensures.ok

pub returns-in_err-write_whole-clause-within : goal.returns-in_err-write_whole-clause-within
returns-in_err-write_whole-clause-within g c =
    let q = err_from_is_err_and c.from_residual-in_err-write_whole.result c.from_residual-in_err-write_whole.ensures.1 in
    rw q.1 (prefix_within c.as_bytes.result.now c.in-Some.left c.args.room (search rules) c.in_err-write_whole.ensures.err)
