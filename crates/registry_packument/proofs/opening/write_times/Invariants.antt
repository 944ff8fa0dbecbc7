use Rattle.std.proofs.Common.{◌≡◌, false, drop}
use Rattle.registry_packument.specs.Packuments.{times_text}
use Rattle.registry_packument.proofs.StreamFacts.{HasLeft}
use Rattle.registry_packument.proofs.opening.write_times.Given as goal

abbrev pub invariant-loop-time : goal.invariant-loop-time
invariant-loop-time g l = record {
  prefix : HasLeft (g.W.ByteOut.bytes l.fn.writer) (g.W.ByteOut.bytes l.writer) (g.W.ByteOut.is_unknown l.writer)
      (times_text l.head false l.times) (times_text l.head l.later (drop l.time-index l.times));
  failures : g.W.ByteOut.failures l.writer ≡ g.W.ByteOut.failures l.fn.writer;
  still_unknown : g.W.ByteOut.is_unknown l.writer ≡ g.W.ByteOut.is_unknown l.fn.writer;
}
