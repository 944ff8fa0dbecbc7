use Rattle.std.proofs.Common.{◌∙◌, rules}
use Rattle.registry_names.specs.Texts.{Text, text_cmp}
use Rattle.registry_names.proofs.KeyFacts.{text_key}
use Rattle.registry_check.specs.Rows.{user_entry}
use Rattle.registry_check.proofs.OrderFacts.{rises}
use Rattle.registry_check.proofs.SearchFacts.{has_mapped}
use Rattle.registry_check.proofs.tables.Tables.has_user.Goals as goal

pub returns : goal.returns
returns c =
    let call = rw c.deref.ensures.value at c.contains.ensures in
    call (λ (r : Text). text_cmp r c.args.user.now) (λ row answer k. search rules) (rises text_key.total (λ (r : Text). r) _ c.args.user.now c.args.self.now.accounts.users_rise)
    ∙ has_mapped text_key user_entry c.args.user.now c.args.self.now.accounts.users.items
