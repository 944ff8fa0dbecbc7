use Rattle.std.proofs.Common.{Bor, ◌∙◌, ℤ, ap, option_map, rules}
use Rattle.registry_names.specs.Keys.{Pair, pair_cmp}
use Rattle.registry_names.proofs.KeyFacts.{pair_key}
use Rattle.registry_check.specs.Rows.{held_entry}
use Rattle.registry_check.specs.declared.tables.HeldRow.{HeldRow}
use Rattle.registry_check.proofs.OrderFacts.{rises}
use Rattle.registry_check.proofs.SearchFacts.{first_mapped, twice}
use Rattle.registry_check.proofs.tables.Tables.held_number.Goals as goal

pub returns : goal.returns
returns c =
    let asked : Pair = (c.args.name.now, c.args.version.now) in
    let call = rw c.deref.ensures.value at c.first_with.ensures in
    let found = call (λ (r : HeldRow). pair_cmp (r.package, r.version) asked) (λ row answer k. search rules) (rises pair_key.total (λ (r : HeldRow). (r.package, r.version)) _ asked c.args.self.now.versions.held_rise) in
    c.archive_in.ensures ∙ twice (λ (r : Bor HeldRow). r.now) (λ (r : HeldRow). r.archive) c.first_with.result ∙ ap (option_map (λ (r : HeldRow). r.archive)) found
    ∙ first_mapped pair_key held_entry asked (λ (e : Pair × ℤ). e.1) c.args.self.now.versions.held.items
