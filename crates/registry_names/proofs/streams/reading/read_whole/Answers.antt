use Rattle.std.proofs.Common.{◌++◌, drop, take, length-append, arith, ◌+◌, add-one, ◌∙◌, ap, refl}
use Rattle.std.proofs.lemmas.List.{length-take, take-append-le}
use Rattle.registry_names.specs.ByteStreams.{ReadsUpTo, raised, raised_by}
use Rattle.registry_names.proofs.ByteStreamFacts.{Reads-nothing, Reads-append, Reads-one, Reads-failed, on_err, raised_by-full}
use Rattle.registry_names.proofs.streams.reading.read_whole.Goals as goal
use Rattle.registry_names.proofs.streams.reading.read_whole.Goals.{else-pieces-test, then-pieces-test+in-Ok-eq0}

pub pieces-init : goal.pieces-init
pieces-init g c = record {
  within = omega (arith, c.new-bytes.ensures.len);
  few = omega arith;
  taken = rw c.new-bytes.ensures.items (Reads-nothing _ _);
  counted = refl;
  unread = λ full. c.new-bytes.ensures.len;
  unknown = λ unknown. unknown;
}

pub returns-in-Err-clause-stopped : goal.returns-in-Err-clause-stopped
returns-in-Err-clause-stopped g c = λ stopped. (c.pieces.retries + 1, omega (arith, c.pieces.invariant.few), omega (arith, c.pieces.invariant.few), rw add-one (c.in-Err.ensures.counted ∙ ap raised c.pieces.invariant.counted))

pub pieces-preserved-in-Continue-1 : goal.pieces-preserved-in-Continue-1
pieces-preserved-in-Continue-1 g c =
    let n = c.in-Ok.n in
    let piece = c.read.new.buf in
    let rest = drop c.min-room.result c.pieces.piece in
    let grown = c.in_ok-extend_from_slice-in-Ok.ensures.len in
    let bound = c.in-Ok.ensures.bound in
    let took = c.in-Ok.ensures.taken in
    record {
      within = omega (arith, grown, bound, length-take n (piece ++ rest), length-take c.min-room.result c.pieces.piece);
      few = c.pieces.invariant.few;
      taken = rw (c.in_ok-extend_from_slice-in-Ok.ensures.items, take-append-le n piece rest bound)
          (Reads-append c.pieces.invariant.taken (Reads-one (λ told. (took told).0)) c.in-Ok.ensures.unknown);
      counted = c.in-Ok.ensures.counted ∙ c.pieces.invariant.counted;
      unread = λ full.
          let refused = c.in-Ok.ensures.full (c.pieces.invariant.counted ∙ ap (raised_by c.pieces.retries) full ∙ raised_by-full c.pieces.retries) in cc;
      unknown = λ unknown. c.in-Ok.ensures.unknown (c.pieces.invariant.unknown unknown);
    }

pub returns-clause-full : goal.returns-clause-full
returns-clause-full g c = λ full some.
    elim c.pieces-test.branch [
      | else-pieces-test w ↦ absurd (omega (arith, w.pieces-test.false, c.len.ensures, c.pieces.invariant.unread full, some))
      | then-pieces-test+in-Ok-eq0 w ↦ w.in-Ok-eq0.ensures.full (c.pieces.invariant.counted ∙ ap (raised_by c.pieces.retries) full ∙ raised_by-full c.pieces.retries)
    ]

pub returns-in_err-extend_from_slice-in-Ok-clause-lost : goal.returns-in_err-extend_from_slice-in-Ok-clause-lost
returns-in_err-extend_from_slice-in-Ok-clause-lost g c =
    let n = c.in-Ok.n in
    let read = c.pieces.bytes in
    let piece = c.read.new.buf in
    let took = c.in-Ok.ensures.taken in
    let lost : ReadsUpTo c.args.limit _ _ _ = record {
      given = read.items ++ take n piece;
      is_within = omega (arith, length-append read.items (take n piece), length-take n piece, length-take c.min-room.result c.pieces.piece, read.ok.0);
      read = Reads-append c.pieces.invariant.taken (Reads-one (λ told. (took told).0)) c.in-Ok.ensures.unknown;
    } in
    on_err _ lost

pub returns-in-Err-clause-lost : goal.returns-in-Err-clause-lost
returns-in-Err-clause-lost g c = record {
  given = c.pieces.bytes.items;
  is_within = omega (arith, c.pieces.bytes.ok.0);
  read = Reads-failed c.pieces.invariant.taken c.in-Err.ensures.taken c.in-Err.ensures.unknown;
}
