use Rattle.std.proofs.Common.{map}
use Rattle.std.specs.Prelude.{string_bytes}
use Rattle.std.proofs.lemmas.Result.{IfOk-weaker}
use Rattle.registry_files.proofs.CopyFacts.{is_restored}
use Rattle.registry_files.proofs.restoring.settle_copy.Goals as goal

pub returns-in-Ok : goal.returns-in-Ok
returns-in-Ok g c = record {
  restored = IfOk-weaker c.see_tables.result _ _
      (λ seen held clean. is_restored {g = g.D.Disk} c.args.files c.in-Ok.conn (g.D.Disk.seen seen.0.db) c.args.checks (map string_bytes seen.1.items) c.in-Ok.ensures.opened c.in-Ok.ensures.found (held clean))
      c.see_tables.ensures.seen;
}
