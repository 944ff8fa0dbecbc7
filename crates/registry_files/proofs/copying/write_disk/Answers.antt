use Rattle.std.proofs.Common.{◌≡◌, ◌∙◌, ◌+◌, ◌<◌, ◌++◌, ℕ, List, ap, arith, drop, length, length-take, subst, sym, take}
use Rattle.std.specs.Io.KnownBytes.{Appends}
use Rattle.std.proofs.Math.Seq.{take-append_seam}
use Rattle.sqlite_disk.specs.Disk.{Holds}
use Rattle.registry_names.proofs.ByteStreamFacts.{Appends-append}
use Rattle.registry_files.proofs.CopyFacts.{held_next}
use Rattle.registry_files.proofs.copying.write_disk.Goals as goal

pub pieces-preserved : goal.pieces-preserved
pieces-preserved g c =
    let inv = c.pieces.invariant in
    let at = c.pieces.at in
    let n = c.min-count.result in
    let buf = c.read_at.new.buf in
    let rest = drop n c.pieces.piece in
    let file = g.D.Disk.seen c.args.disk.now in
    let contents = g.W.Write.contents in
    let long : length buf ≡ n = omega (arith, length-take n c.pieces.piece) in
    let some : 0 < length (take n c.pieces.piece) = omega (arith, length-take n c.pieces.piece) in
    record {
      within = omega (arith, inv.within);
      usable = c.in_ok-read_at.ensures.usable;
      clean = λ is. inv.clean (c.in_ok-read_at.ensures.clean is);
      seen = c.in_ok-read_at.ensures.seen ∙ inv.seen;
      crash = λ bytes may. inv.crash bytes (c.in_ok-read_at.ensures.crash bytes may);
      size = λ is. inv.size (c.in_ok-read_at.ensures.clean is);
      wrote = λ is.
          let held : Holds file at buf = subst (λ (f : List ℕ). Holds f at buf) inv.seen (c.in_ok-read_at.ensures.read is some) in
          let next : take (at + n) file ≡ take at file ++ buf = ap (λ (k : ℕ). take (at + k) file) (sym long) ∙ held_next file buf at held in
          let whole : take n (buf ++ rest) ≡ buf = ap (λ (k : ℕ). take k (buf ++ rest)) (sym long) ∙ take-append_seam buf rest in
          let added : Appends (contents c.pieces.output) (contents c.write_all.new.self) buf =
          subst (λ (bs : List ℕ). Appends (contents c.pieces.output) (contents c.write_all.new.self) bs) whole c.in_ok-write_all.ensures.bytes in
          let both = Appends-append (contents c.args.output.now) (contents c.pieces.output) (contents c.write_all.new.self) (take at file) buf (inv.wrote (c.in_ok-read_at.ensures.clean is)) added in
          subst (λ (bs : List ℕ). Appends (contents c.args.output.now) (contents c.write_all.new.self) bs) (sym next) both;
    }
