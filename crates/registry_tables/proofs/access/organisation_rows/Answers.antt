use Rattle.registry_tables.proofs.Words.{◌∙◌, sym, IfOk-weaker}
use Rattle.registry_tables.proofs.AccessFacts.{organisation_is, organisation_isnt}
use Rattle.registry_tables.proofs.InsideFacts.{finds_of}
use Rattle.registry_tables.proofs.access.organisation_rows.Goals as goal

pub returns-then-branch : goal.returns-then-branch
returns-then-branch g c = finds_of g.S.Store c.args.tx.now c.has_organisation.new.tx _ c.one_name.result c.in_ok-has_organisation.ensures
    (λ d it. IfOk-weaker c.one_name.result _ _ (λ _ e rows same. organisation_is rows c.args.organisation.now (same ∙ e) ∙ sym c.if-branch.true ∙ it) c.one_name.ensures)

pub returns-else-branch : goal.returns-else-branch
returns-else-branch g c = finds_of g.S.Store c.args.tx.now c.has_organisation.new.tx _ _ c.in_ok-has_organisation.ensures
    (λ d it rows same. organisation_isnt rows c.args.organisation.now (same ∙ c.new.ensures.items) ∙ sym c.if-branch.false ∙ it)
