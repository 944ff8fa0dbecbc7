use Rattle.registry_tables.proofs.Words.{◌∙◌, ap, Bool, ◌&&◌, not, Some, list_any, is_owner, Role, Text, is, member_entry}
use Rattle.registry_tables.proofs.InsideFacts.{finds_of}
use Rattle.registry_tables.proofs.MemberFacts.{any_listed}
use Rattle.registry_tables.proofs.members.has_other_owner.Goals as goal

pub returns : goal.returns
returns g c =
    let test : Text × Role → Bool = λ e. not (is e.0 c.args.user.now) && is_owner (Some e.1) in
    finds_of g.S.Store c.args.tx.now c.load_members.new.tx _ _ c.in_ok-members.ensures
    (λ d it. (rw (c.text.ensures.text) at c.owned_by_another.ensures) ∙ ap (list_any (λ m. test (member_entry m))) c.deref.ensures.value ∙ any_listed test c.in_ok-members.members.items ∙ ap (list_any test) it)
