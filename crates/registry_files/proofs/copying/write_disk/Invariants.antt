use Rattle.std.proofs.Common.{◌≡◌, ◌≤◌, ◌-◌, ℕ, IsTrue, List, length, take}
use Rattle.std.specs.Io.KnownBytes.{Appends}
use Rattle.registry_files.proofs.copying.write_disk.Given as goal

abbrev pub invariant-pieces : goal.invariant-pieces
invariant-pieces g l = record {
  within : l.at ≤ l.size;
  usable : IsTrue (g.D.Disk.is_usable l.disk);
  clean : IsTrue (g.D.Disk.is_clean l.disk) → IsTrue (g.D.Disk.is_clean l.fn.disk);
  seen : g.D.Disk.seen l.disk ≡ g.D.Disk.seen l.fn.disk;
  crash : (bytes : List ℕ) → g.D.Disk.may_leave l.disk bytes → g.D.Disk.may_leave l.fn.disk bytes;
  size : IsTrue (g.D.Disk.is_clean l.disk) → l.size ≡ length (g.D.Disk.seen l.fn.disk);
  wrote : IsTrue (g.D.Disk.is_clean l.disk) → Appends (g.W.Write.contents l.fn.output) (g.W.Write.contents l.output) (take l.at (g.D.Disk.seen l.fn.disk));
}

abbrev pub decreases-pieces : goal.decreases-pieces
decreases-pieces g l = l.size - l.at
