use Rattle.std.proofs.Common.{◌∙◌, ap₂, rules, sym}
use Rattle.registry_names.specs.Keys.{Pair, pair_cmp}
use Rattle.registry_names.specs.Texts.{Text}
use Rattle.registry_names.proofs.KeyFacts.{pair_key}
use Rattle.registry_check.specs.Rows.{rows_of}
use Rattle.registry_check.specs.Rules.{is_named}
use Rattle.registry_check.specs.declared.tables.LiveRow.{LiveRow}
use Rattle.registry_check.proofs.NamedFacts.{names_all}
use Rattle.registry_check.proofs.OrderFacts.{rises}
use Rattle.registry_check.proofs.named.Named.load.Goals as goal

pub returns-clause-names : goal.returns-clause-names
returns-clause-names c =
    let asked : Pair = (c.args.row.now.package, c.args.row.now.version) in
    let call = rw c.deref.ensures.value at c.rows_with-live.ensures in
    let found = call (λ (r : LiveRow). pair_cmp (r.package, r.version) asked) (λ row answer k. search rules) (rises pair_key.total (λ (r : LiveRow). (r.package, r.version)) _ asked c.args.all.now.versions.live_rise) in
    λ target range.
    names_all c.args.all.now.versions.live.items c.rows_with-live.result.now asked _ _ found c.in_ok-needs.ensures c.in_order_of_targets.ensures.same target range
    ∙ ap₂ (λ (p v : Text). is_named (rows_of c.args.all.now) (p, (v, (target, range)))) (sym c.in_ok-copied.ensures) (sym c.in_ok-copied-2.ensures)
