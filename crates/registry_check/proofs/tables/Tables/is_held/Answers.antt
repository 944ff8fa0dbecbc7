use Rattle.std.proofs.Common.{rules, sym, ◌∙◌, ℤ}
use Rattle.std.specs.Ordering.{int_cmp, int_eq}
use Rattle.registry_names.specs.Keys.{Pair}
use Rattle.registry_rows.proofs.KeyedFacts.{number_key}
use Rattle.registry_check.specs.Rows.{held_entry}
use Rattle.registry_check.proofs.OrderFacts.{rises}
use Rattle.registry_check.proofs.SearchFacts.{any_mapped, has_mapped}
use Rattle.registry_check.proofs.tables.Tables.is_held.Goals as goal

pub returns : goal.returns
returns c =
    let call = rw c.deref.ensures.value at c.contains.ensures in
    call (λ (m : ℤ). int_cmp m c.args.number) (λ row answer k. search rules) (rises number_key.total (λ (m : ℤ). m) _ c.args.number c.args.self.now.versions.numbers_rise)
    ∙ has_mapped number_key (λ (m : ℤ). (m, tt)) c.args.number c.args.self.now.versions.numbers.items ∙ sym (any_mapped (λ (e : ℤ × Unit {0}). int_eq e.0 c.args.number) (λ (m : ℤ). (m, tt)) c.args.self.now.versions.numbers.items)
    ∙ c.args.self.now.versions.are_held c.args.number ∙ any_mapped (λ (e : Pair × ℤ). int_eq e.1 c.args.number) held_entry c.args.self.now.versions.held.items
