use Rattle.std.proofs.Common.{arith, ◌≤◌, ◌-◌, length, drop, ◌∙◌, length-drop, ◌≡◌, take}
use Rattle.std.proofs.lemmas.List.{length-take, take-take, take_all}
use Rattle.std.proofs.Math.Seq.{take-add}
use Rattle.registry_names.proofs.ByteStreamFacts.{Writes-append, Writes-one}
use Rattle.registry_names.proofs.streams.writing.write_whole.Goals as goal

pub pieces-preserved : goal.pieces-preserved
pieces-preserved g c =
    let text = c.args.text.now in
    let at = c.pieces.written in
    let n = c.in_ok-written.field-0 in
    let fits : n ≤ length text - at = omega (arith, c.in_ok-written.ensures.bound, length-take (length text - at) (drop at text), length-drop at text) in
    record {
      within = omega (arith, fits, c.pieces.invariant.within);
      wrote = rw (take-add at n text, ← take-take n (length text - at) (drop at text) fits) (Writes-append c.pieces.invariant.wrote (Writes-one c.in_ok-written.ensures.added) c.in_ok-written.ensures.unknown);
      unwritten = λ full. let refused = c.in_ok-written.ensures.full (c.pieces.invariant.failures ∙ full) in cc;
      failures = cc (c.in_ok-written.ensures.counted);
      still_unknown = cc (c.in_ok-written.ensures.told);
    }

pub returns-clause-ok : goal.returns-clause-ok
returns-clause-ok g c =
    let all : take c.pieces.written c.args.text.now ≡ c.args.text.now = take_all _ _ (omega arith) in
    rw all at c.pieces.invariant.wrote
