use Rattle.std.proofs.Common.{◌∙◌, rules}
use Rattle.registry_names.specs.Keys.{pair_cmp}
use Rattle.registry_names.proofs.KeyFacts.{pair_key}
use Rattle.registry_access.specs.declared.rows.MemberRow.{MemberRow}
use Rattle.registry_access.specs.RowMaps.{member_entry}
use Rattle.registry_check.proofs.OrderFacts.{rises}
use Rattle.registry_check.proofs.SearchFacts.{has_mapped}
use Rattle.registry_check.proofs.tables.Tables.is_member.Goals as goal

pub returns : goal.returns
returns c =
    let call = rw c.deref.ensures.value at c.contains.ensures in
    call (λ (r : MemberRow). pair_cmp (r.organisation, r.user) (c.args.organisation.now, c.args.user.now)) (λ row answer k. search rules) (rises pair_key.total (λ (r : MemberRow). (r.organisation, r.user)) _ (c.args.organisation.now, c.args.user.now) c.args.self.now.groups.members_rise)
    ∙ has_mapped pair_key member_entry (c.args.organisation.now, c.args.user.now) c.args.self.now.groups.members.items
