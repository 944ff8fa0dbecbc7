use Rattle.std.proofs.Common.{map, subst}
use Rattle.std.specs.Prelude.{string_bytes}
use Rattle.sqlite.specs.Files.{file_state}
use Rattle.registry_files.specs.Copies.{IsHeld}
use Rattle.registry_files.proofs.CopyFacts.{is_held}
use Rattle.registry_files.proofs.copying.see_inside.Goals as goal

pub returns-in_ok-lines-in-Ok : goal.returns-in_ok-lines-in-Ok
returns-in_ok-lines-in-Ok g c = record {
  whole = λ clean.
      let lines = map string_bytes c.in_ok-lines-in-Ok.field-0.items in
      subst (λ r. IsHeld (file_state r) (g.D.Disk.seen c.in-Ok.files.db) c.args.checks lines) c.release-conn.ensures.same
      (is_held {g = g.D.Disk} c.lines_in-lines.new.conn c.in-Ok.files (file_state c.release-conn.result) c.args.checks lines c.release-conn.ensures.rests c.lines_in-lines.ensures.still
      c.in_ok-lines-in-Ok.ensures.told (c.in-Ok.ensures.copied clean));
}
