use Rattle.std.proofs.Common.{◌∙◌, rules}
use Rattle.registry_names.specs.Texts.{Text, text_cmp}
use Rattle.registry_names.proofs.KeyFacts.{text_key}
use Rattle.registry_access.specs.RowMaps.{organisation_entry}
use Rattle.registry_check.proofs.OrderFacts.{rises}
use Rattle.registry_check.proofs.SearchFacts.{has_mapped}
use Rattle.registry_check.proofs.tables.Tables.has_organisation.Goals as goal

pub returns : goal.returns
returns c =
    let call = rw c.deref.ensures.value at c.contains.ensures in
    call (λ (r : Text). text_cmp r c.args.organisation.now) (λ row answer k. search rules) (rises text_key.total (λ (r : Text). r) _ c.args.organisation.now c.args.self.now.accounts.organisations_rise)
    ∙ has_mapped text_key organisation_entry c.args.organisation.now c.args.self.now.accounts.organisations.items
