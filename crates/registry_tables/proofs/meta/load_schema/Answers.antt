use Rattle.registry_tables.proofs.Words.{◌∙◌, sym, IfOk-weaker, shown_keeps, shown}
use Rattle.registry_tables.proofs.MetaFacts.{number_found}
use Rattle.registry_tables.proofs.meta.load_schema.Goals as goal

pub returns-clause-ours : goal.returns-clause-ours
returns-clause-ours g c form clean =
    let call = rw (c.params-to_sql.ensures) at c.in_ok-rows.ensures.shown in
    let it = number_found (shown g.S.Store c.args.tx.now) (shown g.S.Store c.read.new.tx) _ form call clean in
    IfOk-weaker c.first_number.result _ _ (λ _ e. (it.0, sym it.1 ∙ e)) (rw c.deref.ensures.value at c.first_number.ensures)

pub returns-clause-committed : goal.returns-clause-committed
returns-clause-committed g c on clean = (shown_keeps _ _ (shown g.S.Store c.args.tx.now) (shown g.S.Store c.read.new.tx) _ on (c.in_ok-rows.ensures.shown.shown clean)).0

pub returns-clause-shows : goal.returns-clause-shows
returns-clause-shows g c =
    let call = rw (c.params-to_sql.ensures) at c.in_ok-rows.ensures.shown in
    IfOk-weaker c.first_number.result _ _ (λ _ e. (_, call, e)) (rw c.deref.ensures.value at c.first_number.ensures)
