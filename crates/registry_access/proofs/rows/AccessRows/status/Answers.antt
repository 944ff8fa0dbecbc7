use Rattle.std.proofs.Common.{◌∙◌}
use Rattle.registry_names.proofs.KeyFacts.{text_key}
use Rattle.registry_names.proofs.RowFacts.{at-find}
use Rattle.registry_access.specs.RowMaps.{package_entry}
use Rattle.registry_access.proofs.rows.AccessRows.status.Goals as goal

pub returns : goal.returns
returns c = c.status_of.ensures ∙ rw c.deref.ensures.value (at-find text_key package_entry _ _)
