use Rattle.std.proofs.Common.{◌∙◌, rules}
use Rattle.registry_names.specs.Keys.{pair_cmp}
use Rattle.registry_names.proofs.KeyFacts.{pair_key}
use Rattle.registry_access.specs.declared.rows.TeamRow.{TeamRow}
use Rattle.registry_access.specs.RowMaps.{team_entry}
use Rattle.registry_check.proofs.OrderFacts.{rises}
use Rattle.registry_check.proofs.SearchFacts.{has_mapped}
use Rattle.registry_check.proofs.tables.Tables.has_team.Goals as goal

pub returns : goal.returns
returns c =
    let call = rw c.deref.ensures.value at c.contains.ensures in
    call (λ (r : TeamRow). pair_cmp (r.organisation, r.team) (c.args.organisation.now, c.args.team.now)) (λ row answer k. search rules) (rises pair_key.total (λ (r : TeamRow). (r.organisation, r.team)) _ (c.args.organisation.now, c.args.team.now) c.args.self.now.groups.teams_rise)
    ∙ has_mapped pair_key team_entry (c.args.organisation.now, c.args.team.now) c.args.self.now.groups.teams.items
