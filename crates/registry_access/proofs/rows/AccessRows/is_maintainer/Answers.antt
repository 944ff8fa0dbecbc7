use Rattle.std.proofs.Common.{◌∙◌}
use Rattle.registry_names.proofs.KeyFacts.{pair_key}
use Rattle.registry_names.proofs.RowFacts.{at-any}
use Rattle.registry_access.specs.RowMaps.{maintainer_entry}
use Rattle.registry_access.proofs.rows.AccessRows.is_maintainer.Goals as goal

pub returns-in-User : goal.returns-in-User
returns-in-User c = rw c.in-User.is (c.has_maintainer.ensures ∙ rw (c.deref.ensures.value, c.text.ensures.text) (at-any pair_key maintainer_entry _ _))
