use Rattle.registry_tables.proofs.Words.{◌∙◌, sym, IfOk-weaker}
use Rattle.registry_tables.proofs.AccessFacts.{member_is, member_isnt}
use Rattle.registry_tables.proofs.InsideFacts.{finds_of}
use Rattle.registry_tables.proofs.access.user_rows.Goals as goal

pub returns-in-Some : goal.returns-in-Some
returns-in-Some g c = finds_of g.S.Store c.args.tx.now c.load_role.new.tx _ c.one_member.result c.in_ok-role.ensures
    (λ d it. IfOk-weaker c.one_member.result _ _ (λ _ e rows same. member_is rows c.args.organisation.now c.args.user.now c.in-Some.role (same ∙ e) ∙ sym c.in-Some.is ∙ it) c.one_member.ensures)

pub returns-in-None : goal.returns-in-None
returns-in-None g c = finds_of g.S.Store c.args.tx.now c.load_role.new.tx _ _ c.in_ok-role.ensures
    (λ d it rows same. member_isnt rows c.args.organisation.now c.args.user.now (same ∙ c.new.ensures.items) ∙ sym c.in-None.is ∙ it)
