use Rattle.std.proofs.Common.{◌∙◌}
use Rattle.registry_names.proofs.KeyFacts.{text_key}
use Rattle.registry_names.proofs.RowFacts.{at-any}
use Rattle.registry_access.specs.RowMaps.{organisation_entry}
use Rattle.registry_access.proofs.rows.AccessRows.has_organisation.Goals as goal

pub returns : goal.returns
returns c = c.has_text.ensures ∙ rw c.deref.ensures.value (at-any text_key organisation_entry _ _)
