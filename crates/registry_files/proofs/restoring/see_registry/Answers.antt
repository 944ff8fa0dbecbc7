use Rattle.std.proofs.Common.{map}
use Rattle.std.specs.Prelude.{string_bytes}
use Rattle.std.proofs.lemmas.Result.{IfOk-weaker}
use Rattle.sqlite.specs.Files.{file_state}
use Rattle.registry_files.proofs.CopyFacts.{made_seen}
use Rattle.registry_files.proofs.restoring.see_registry.Goals as goal

pub returns-in-Ok : goal.returns-in-Ok
returns-in-Ok g c = record {
  seen = IfOk-weaker c.see_inside.result _ _
      (λ seen held clean. made_seen (file_state c.args.conn) (file_state c.in-Ok.registry) (g.D.Disk.seen seen.0.db) c.args.checks (map string_bytes seen.1.items) c.requires.ours c.in-Ok.ensures.made (held clean))
      c.see_inside.ensures.whole;
}
