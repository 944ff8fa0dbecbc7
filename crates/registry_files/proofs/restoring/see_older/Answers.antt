use Rattle.std.proofs.Common.{rules}
use Rattle.registry_files.proofs.CopyFacts.{same_seen}
use Rattle.registry_files.proofs.restoring.see_older.Goals as goal

pub returns-in-Ok : goal.returns-in-Ok
returns-in-Ok g c = record {
  seen = λ clean. same_seen {g = g.D.Disk} c.args.conn c.in-Ok.files c.args.checks _ (search rules) (search rules) (search rules) (c.in-Ok.ensures.copied clean);
}
