use Rattle.std.proofs.Common.{◌∙◌}
use Rattle.registry_names.proofs.KeyFacts.{triple_key}
use Rattle.registry_names.proofs.RowFacts.{at-find}
use Rattle.registry_access.specs.RowMaps.{grant_entry}
use Rattle.registry_access.proofs.rows.AccessRows.team_grant.Goals as goal

pub returns : goal.returns
returns c = c.grant_of.ensures ∙ rw (c.deref.ensures.value, c.as_str.ensures.text, c.as_str-2.ensures.text) (at-find triple_key grant_entry _ _)
