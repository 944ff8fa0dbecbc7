use Rattle.std.proofs.Common.{◌∙◌, ◌+◌, true, [], drop, ap, sym, append-nil}
use Rattle.std.proofs.lemmas.List.{drop_all}
use Rattle.registry_names.proofs.ByteStreamFacts.{on_err}
use Rattle.registry_packument.specs.Heads.{time_entry}
use Rattle.registry_packument.specs.ObjectTexts.{member_text}
use Rattle.registry_packument.specs.Packuments.{time_pair, times_text}
use Rattle.registry_packument.proofs.PackFacts.{times_text-next}
use Rattle.registry_packument.proofs.StreamFacts.{HasLeft-piece, HasLeft-failed, HasLeft-stopped, HasLeft-none, length-times_text}
use Rattle.registry_packument.proofs.opening.write_times.Goals as goal

pub returns-in_err-member-clause-err : goal.returns-in_err-member-clause-err
returns-in_err-member-clause-err g c =
    on_err c.from_residual.result (HasLeft-stopped c.loop-time.invariant.prefix (length-times_text c.args.head.now c.loop-time.later (drop c.loop-time.time-index c.args.times.now)))

pub returns-in_err-write_whole-clause-err : goal.returns-in_err-write_whole-clause-err
returns-in_err-write_whole-clause-err g c =
    let i = c.loop-time.time-index in
    let time = c.time-item.result in
    on_err c.from_residual-in_err-write_whole.result
    (HasLeft-failed (member_text c.loop-time.later (time_pair (time_entry time))) (times_text c.args.head.now true (drop (i + 1) c.args.times.now)) c.loop-time.invariant.prefix
    (times_text-next c.args.head.now c.loop-time.later c.args.times.now i time c.loop-time-test.true c.time-item.is)
    (rw (c.as_bytes.ensures.value ∙ c.in_ok-member.ensures) at c.in_err-write_whole.ensures.err) c.in_err-write_whole.ensures.unknown)

pub loop-time-preserved : goal.loop-time-preserved
loop-time-preserved g c =
    let i = c.loop-time.time-index in
    let time = c.time-item.result in
    record {
      prefix = HasLeft-piece (member_text c.loop-time.later (time_pair (time_entry time))) (times_text c.args.head.now true (drop (i + 1) c.args.times.now)) c.loop-time.invariant.prefix
          (times_text-next c.args.head.now c.loop-time.later c.args.times.now i time c.loop-time-test.true c.time-item.is)
          (rw (c.as_bytes.ensures.value ∙ c.in_ok-member.ensures) at c.in_ok-write_whole.ensures.ok) c.in_ok-write_whole.ensures.unknown;
      failures = cc (c.in_ok-write_whole.ensures.counted);
      still_unknown = cc (c.in_ok-write_whole.ensures.told);
    }

pub returns-in_err-after-clause-err : goal.returns-in_err-after-clause-err
returns-in_err-after-clause-err g c =
    on_err c.from_residual-in_err-after.result
    (HasLeft-stopped c.loop-time.invariant.prefix (length-times_text c.args.head.now c.loop-time.later (drop c.loop-time.time-index c.args.times.now)))

pub returns-in_err-write_whole-2-clause-err : goal.returns-in_err-write_whole-2-clause-err
returns-in_err-write_whole-2-clause-err g c =
    let last = times_text c.args.head.now c.loop-time.later [] in
    on_err c.from_residual-in_err-write_whole-2.result
    (HasLeft-failed last [] c.loop-time.invariant.prefix
    (ap (times_text c.args.head.now c.loop-time.later) (drop_all c.loop-time.time-index c.args.times.now c.loop-time-test.false) ∙ sym (append-nil last))
    (rw (c.as_bytes-2.ensures.value ∙ c.in_ok-after.ensures) at c.in_err-write_whole-2.ensures.err) c.in_err-write_whole-2.ensures.unknown)

pub returns-clause-ok : goal.returns-clause-ok
returns-clause-ok g c =
    let last = times_text c.args.head.now c.loop-time.later [] in
    HasLeft-none (HasLeft-piece last [] c.loop-time.invariant.prefix
    (ap (times_text c.args.head.now c.loop-time.later) (drop_all c.loop-time.time-index c.args.times.now c.loop-time-test.false) ∙ sym (append-nil last))
    (rw (c.as_bytes-2.ensures.value ∙ c.in_ok-after.ensures) at c.in_ok-write_whole-2.ensures.ok) c.in_ok-write_whole-2.ensures.unknown)
