use Rattle.std.proofs.Common.{◌∙◌, ◌&&◌, Some, ap, is_eq, rules, sym}
use Rattle.std.specs.List.{list_any}
use Rattle.registry_names.specs.Keys.{Pair}
use Rattle.registry_names.specs.Texts.{is, text_cmp}
use Rattle.registry_names.proofs.KeyFacts.{text_key}
use Rattle.registry_access.specs.Levels.{is_owner}
use Rattle.registry_access.specs.RowMaps.{member_entry}
use Rattle.registry_access.specs.declared.role.Role.{Role}
use Rattle.registry_access.specs.declared.rows.MemberRow.{MemberRow}
use Rattle.registry_check.proofs.OrderFacts.{rises, rises_by_first}
use Rattle.registry_check.proofs.SearchFacts.{kept_mapped}
use Rattle.registry_check.proofs.tables.Tables.has_owner.Goals as goal

pub returns : goal.returns
returns c =
    let o = c.args.organisation.now in
    let call = rw c.deref.ensures.value at c.rows_with.ensures in
    let first = rises_by_first text_cmp (λ (r : MemberRow). (r.organisation, r.user)) _ c.args.self.now.groups.members_rise in
    let owners = λ (r : MemberRow). is_owner (Some r.role) in
    c.any_owner.ensures
    ∙ ap (list_any owners) (call (λ (r : MemberRow). text_cmp r.organisation o) (λ row answer k. search rules) (rises text_key.total (λ (r : MemberRow). r.organisation) _ o first))
    ∙ kept_mapped (λ (r : MemberRow). is_eq (text_cmp r.organisation o)) owners (λ (e : Pair × Role). is e.0.0 o && is_owner (Some e.1)) member_entry (λ r. ap (λ b. b && owners r) (sym (text_key.test r.organisation o))) c.args.self.now.groups.members.items
