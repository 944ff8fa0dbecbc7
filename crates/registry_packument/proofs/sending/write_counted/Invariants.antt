use Rattle.std.proofs.Common.{◌≡◌, ◌+◌, List, ℕ, false, length, None}
use Rattle.registry_names.specs.ByteStreams.{Writes}
use Rattle.registry_packument.specs.Counted.{rows_text}
use Rattle.registry_packument.specs.Packuments.{version_pairs}
use Rattle.registry_packument.proofs.StreamFacts.{HasLeft}
use Rattle.registry_packument.proofs.sending.write_counted.Given as goal

abbrev pub invariant-versions : goal.invariant-versions
invariant-versions g l = record {
  known : g.S.VersionSource.is_known l.source → g.S.VersionSource.is_known l.fn.source;
  behind : g.S.VersionSource.leaves l.fn.source l.source;
  prefix : g.S.VersionSource.is_known l.source → HasLeft (g.W.ByteOut.bytes l.fn.writer) (g.W.ByteOut.bytes l.writer) (g.W.ByteOut.is_unknown l.writer)
      (rows_text l.form false (g.S.VersionSource.rows l.fn.source)) (rows_text l.form l.later (g.S.VersionSource.rows l.source));
  -- what was given has as many bytes as were written
  long : g.S.VersionSource.is_known l.source
      → length (rows_text l.form false (g.S.VersionSource.rows l.fn.source)) + l.left ≡ l.room + length (rows_text l.form l.later (g.S.VersionSource.rows l.source));
  -- a document that is missing among the rows that are left is missing among all
  missing : g.S.VersionSource.is_known l.source
      → version_pairs l.form (g.S.VersionSource.rows l.source) ≡ None → version_pairs l.form (g.S.VersionSource.rows l.fn.source) ≡ None;
  -- so many bytes were written, and so many are left
  within : (bytes : List ℕ) × ((length bytes + l.left ≡ l.room) × Writes (g.W.ByteOut.bytes l.fn.writer) (g.W.ByteOut.bytes l.writer) (g.W.ByteOut.is_unknown l.writer) bytes);
  failures : g.W.ByteOut.failures l.writer ≡ g.W.ByteOut.failures l.fn.writer;
  still_unknown : g.W.ByteOut.is_unknown l.writer ≡ g.W.ByteOut.is_unknown l.fn.writer;
}

abbrev pub decreases-versions : goal.decreases-versions
decreases-versions g l = g.S.VersionSource.most l.source
