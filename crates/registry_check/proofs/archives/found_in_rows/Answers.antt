use Rattle.std.proofs.Common.{◌∙◌, ap}
use Rattle.std.proofs.lemmas.Result.{IfOk-weaker}
use Rattle.registry_publish.specs.Integrity.{integrity_text}
use Rattle.registry_tables.specs.Spelled.{number_among}
use Rattle.registry_check.specs.Rows.{bytes_under}
use Rattle.registry_check.proofs.archives.found_in_rows.Goals as goal

pub returns : goal.returns
returns c = IfOk-weaker c.found_among.result _ _ (λ found e bytes is. e bytes (ap (bytes_under c.args.row.now.number) c.in_ok-likes.ensures ∙ is) ∙ ap (λ likes. (c.args.row.now.number, (c.args.row.now.integrity, (integrity_text bytes, number_among bytes likes)))) c.in_ok-likes.ensures) (rw c.deref.ensures.value at c.found_among.ensures)
