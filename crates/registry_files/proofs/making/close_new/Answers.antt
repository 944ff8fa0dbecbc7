use Rattle.registry_files.proofs.CopyFacts.{holds_stored}
use Rattle.registry_files.proofs.making.close_new.Goals as goal

pub returns-in-Ok : goal.returns-in-Ok
returns-in-Ok g c = record {
  holds = λ clean.
      let copied = c.in-Ok.ensures.copied clean in
      (copied.was_clean, holds_stored {g = g.D.Disk} c.args.registry c.in-Ok.files c.close_files.ensures.rests copied);
}
