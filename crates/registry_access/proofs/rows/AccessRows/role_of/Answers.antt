use Rattle.std.proofs.Common.{◌∙◌}
use Rattle.registry_names.proofs.KeyFacts.{pair_key}
use Rattle.registry_names.proofs.RowFacts.{at-find}
use Rattle.registry_access.specs.RowMaps.{member_entry}
use Rattle.registry_access.proofs.rows.AccessRows.role_of.Goals as goal

pub returns-in-User : goal.returns-in-User
returns-in-User c = rw c.in-User.is (c.role_of.ensures ∙ rw (c.deref.ensures.value, c.text.ensures.text) (at-find pair_key member_entry _ _))
