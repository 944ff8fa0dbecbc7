use Rattle.std.proofs.lemmas.Result.{IfOk-weaker}
use Rattle.registry_files.proofs.CopyFacts.{is_copy, still_copied}
use Rattle.registry_files.proofs.copying.write_copy.Goals as goal

pub returns-in-Ok : goal.returns-in-Ok
returns-in-Ok g c =
    let old = g.W.Write.contents c.args.output.now in
    let new = g.W.Write.contents c.write_files.new.output in
    record {
      copied = IfOk-weaker c.write_files.result _ _
          (λ left h clean.
          let it = h clean in
          is_copy {g = g.D.Disk} c.args.registry c.in-Ok.files old new c.close_files.ensures.rests (c.in-Ok.ensures.copied it.0) it.1)
          c.write_files.ensures.wrote;
      kept = IfOk-weaker c.write_files.result _ _
          (λ left h clean.
          let it = h clean in
          still_copied {g = g.D.Disk} c.args.registry c.in-Ok.files left it.2 it.3 (c.in-Ok.ensures.copied it.0))
          c.write_files.ensures.wrote;
    }
