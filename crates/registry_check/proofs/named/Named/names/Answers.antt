use Rattle.std.proofs.Common.{◌∙◌, is_eq, rules, sym}
use Rattle.registry_names.specs.Keys.{Pair, pair_cmp, pair_is}
use Rattle.registry_names.proofs.KeyFacts.{pair_key}
use Rattle.registry_publish.specs.declared.need.Need.{Need}
use Rattle.registry_check.specs.Naming.{key_of}
use Rattle.registry_check.proofs.NamedFacts.{any_agree}
use Rattle.registry_check.proofs.OrderFacts.{rises}
use Rattle.registry_check.proofs.named.Named.names.Goals as goal

pub returns : goal.returns
returns c =
    let asked : Pair = (c.args.target.now, c.args.range.now) in
    let call = rw c.deref.ensures.value at c.contains.ensures in
    call (λ (n : Need). pair_cmp (n.target, n.range) asked) (λ row answer k. search rules) (rises pair_key.total (λ (n : Need). (n.target, n.range)) _ asked c.args.self.now.needs_rise)
    ∙ any_agree (λ (n : Need). is_eq (pair_cmp (n.target, n.range) asked)) (λ (n : Need). pair_is (key_of n) asked) (λ n. sym (pair_key.test (n.target, n.range) asked)) c.args.self.now.needs.items
