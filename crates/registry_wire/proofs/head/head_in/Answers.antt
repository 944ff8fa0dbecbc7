use Rattle.std.proofs.Common.{arith, ◌≡◌, length}
use Rattle.registry_wire.proofs.HeadFacts.{found-head, never-at_limit}
use Rattle.registry_wire.proofs.head.head_in.Goals as goal

pub returns-in-Ok-Complete : goal.returns-in-Ok-Complete
returns-in-Ok-Complete c =
    let room : length c.parse_request.new.headers ≡ 64 = omega arith in
    let within = rw c.in-Ok-Complete.field-0-is at c.in-Ok-Complete.ensures.within in
    let found = rw c.in-Ok-Complete.field-0-is at c.in-Ok-Complete.ensures.complete in
    record {
      head = found.0;
      begins = rw c.parts.ensures.len (found-head c.args.bytes.now c.parse_request.new.headers c.in-Ok-Complete.spans found.0 room (omega arith) within found.1);
      parts = c.parts.ensures.parts found.0 found.1;
      len = omega (arith, c.parts.ensures.len, within.section.len_fits);
      bound = c.parts.ensures.bound;
    }

pub returns-else-bytes-lt-HEAD_LIMIT : goal.returns-else-bytes-lt-HEAD_LIMIT
returns-else-bytes-lt-HEAD_LIMIT c = never-at_limit c.args.bytes.now (omega arith) (rw c.in-Ok-Partial.field-0-is at c.in-Ok-Partial.ensures.partial)
