use Rattle.registry_tables.proofs.Words.{◌∙◌, sym, pair_key, as_withdrawal}
use Rattle.registry_tables.proofs.InsideFacts.{finds_so}
use Rattle.registry_tables.proofs.ReadFacts.{some-read}
use Rattle.registry_tables.proofs.spent.is_spent.Goals as goal

pub returns : goal.returns
returns g c = finds_so g.S.Store c.args.tx.now c.has_withdrawal.new.tx c.has_withdrawal.result
    (λ d _ is. is ∙ sym (some-read pair_key d.spent (λ _ v. as_withdrawal v) (c.args.name.now, c.args.version.now))) c.has_withdrawal.ensures
