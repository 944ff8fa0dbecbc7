use Rattle.registry_tables.proofs.Words.{rules, ◌==◌, ◌∙◌, length, IfOk-weaker, Contents, name_archives_alone}
use Rattle.registry_tables.proofs.CounterFacts.{counts_means, counts_told}
use Rattle.registry_tables.proofs.InsideFacts.{finds_of, is_query, shown_of}
use Rattle.registry_tables.proofs.counters.counts_archives_alone.Goals as goal

pub returns : goal.returns
returns g c = finds_of g.S.Store c.args.tx.now c.query.new.tx c.in_ok-rows.rows c.name_archives.result (c.in_ok-rows.ensures (is_query counts_means)) (λ d shown.
    IfOk-weaker c.name_archives.result _ _ (λ _ is. is ∙ shown_of _ _ _ _ name_archives_alone (λ (e : Contents). length e.counters == 0) (counts_told _ _) d _ shown) (rw c.deref.ensures.value at c.name_archives.ensures))

pub returns-in_err-rows : goal.returns-in_err-rows
returns-in_err-rows g c = let it = c.in_err-rows.ensures (is_query counts_means) in search rules
