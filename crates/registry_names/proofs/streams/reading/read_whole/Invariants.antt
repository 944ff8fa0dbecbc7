use Rattle.std.proofs.Common.{◌≡◌, ◌≤◌, ◌-◌, ◌+◌, vec_len, true}
use Rattle.registry_names.specs.ByteStreams.{Reads, raised_by, full_count}
use Rattle.registry_names.proofs.streams.reading.read_whole.Given as goal

abbrev pub invariant-pieces : goal.invariant-pieces
invariant-pieces g l = record {
  within : vec_len l.bytes ≤ l.limit;
  few : l.retries ≤ 1000;
  taken : Reads (g.R.ByteIn.bytes l.fn.reader) (g.R.ByteIn.bytes l.reader) (g.R.ByteIn.is_unknown l.reader) l.bytes.items;
  counted : g.R.ByteIn.failures l.reader ≡ raised_by l.retries (g.R.ByteIn.failures l.fn.reader);
  unread : g.R.ByteIn.failures l.fn.reader ≡ full_count → vec_len l.bytes ≡ 0;
  unknown : g.R.ByteIn.is_unknown l.fn.reader ≡ true → g.R.ByteIn.is_unknown l.reader ≡ true;
}

abbrev pub decreases-pieces : goal.decreases-pieces
decreases-pieces g l = (l.limit - vec_len l.bytes) + (1000 - l.retries)
