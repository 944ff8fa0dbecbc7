use Rattle.registry_tables.proofs.Words.{◌==◌, ap, ◌∙◌, shown_keeps, shown}
use Rattle.registry_tables.proofs.CatalogFacts.{none_found, ours_found}
use Rattle.registry_tables.proofs.meta.lacks_tables.Goals as goal

pub returns-clause-ours : goal.returns-clause-ours
returns-clause-ours g c form clean =
    let it = ours_found (shown g.S.Store c.args.tx.now) (shown g.S.Store c.read.new.tx) _ form c.in_ok-objects.ensures.shown clean in
    (it.0, c.is_empty.ensures ∙ ap (λ n. n == 0) c.in_ok-objects.objects.ok.0 ∙ it.1)

pub returns-clause-none : goal.returns-clause-none
returns-clause-none g c form clean =
    let it = none_found (shown g.S.Store c.args.tx.now) (shown g.S.Store c.read.new.tx) _ form c.in_ok-objects.ensures.shown clean in
    (it.0, c.is_empty.ensures ∙ ap (λ n. n == 0) c.in_ok-objects.objects.ok.0 ∙ it.1)

pub returns-clause-committed : goal.returns-clause-committed
returns-clause-committed g c on clean = (shown_keeps _ _ (shown g.S.Store c.args.tx.now) (shown g.S.Store c.read.new.tx) _ on (c.in_ok-objects.ensures.shown.shown clean)).0

pub returns-clause-going : goal.returns-clause-going
returns-clause-going g c on clean = (shown_keeps _ _ (shown g.S.Store c.args.tx.now) (shown g.S.Store c.read.new.tx) _ on (c.in_ok-objects.ensures.shown.shown clean)).1
