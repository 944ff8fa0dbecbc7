use Rattle.std.proofs.Common.{◌≡◌, ◌≤◌, ◌-◌, length, take}
use Rattle.registry_names.specs.ByteStreams.{Writes, full_count}
use Rattle.registry_names.proofs.streams.writing.write_whole.Given as goal

abbrev pub invariant-pieces : goal.invariant-pieces
invariant-pieces g l = record {
  within : l.written ≤ length l.text;
  wrote : Writes (g.W.ByteOut.bytes l.fn.writer) (g.W.ByteOut.bytes l.writer) (g.W.ByteOut.is_unknown l.writer) (take l.written l.text);
  unwritten : g.W.ByteOut.failures l.fn.writer ≡ full_count → l.written ≡ 0;
  failures : g.W.ByteOut.failures l.writer ≡ g.W.ByteOut.failures l.fn.writer;
  still_unknown : g.W.ByteOut.is_unknown l.writer ≡ g.W.ByteOut.is_unknown l.fn.writer;
}

abbrev pub decreases-pieces : goal.decreases-pieces
decreases-pieces g l = length l.text - l.written
