use Rattle.std.proofs.Common.{◌∙◌, ap, rules, subst, sym}
use Rattle.std.proofs.lemmas.Fn.{filter_same}
use Rattle.json.specs.Json.{object}
use Rattle.json.specs.Print.{print}
use Rattle.json.specs.Tree.{json_tokens, MembersHaveNumbers}
use Rattle.json.proofs.Trees.{view-Object}
use Rattle.registry_packument.specs.Abbreviated.{is_install_key}
use Rattle.registry_packument.proofs.DocumentFacts.{abbreviated_members, abbreviated_numbers}
use Rattle.registry_packument.proofs.abbreviated.abbreviated.Goals as goal

pub text_of-requires : goal.text_of-requires
text_of-requires c =
    let manifest = c.args.manifest.now in
    let message = c.args.message.now in
    let kept = filter_same _ (λ m. is_install_key m.0.now) _ (λ x b f t. search rules) _ _ c.retain.ensures.filtered in
    let all = abbreviated_members manifest message c.in_ok-members.members.items c.put_message.new.members.items c.add_script.new.members.items c.retain.new.self.items
    c.in_ok-members.ensures.ok c.in_ok-put_message.ensures c.in_ok-add_script.ensures kept in
    rw (view-Object c.retain.new.self)
    (subst MembersHaveNumbers (sym all) (abbreviated_numbers manifest message (rw c.in_ok-members.ensures.ok at c.in_ok-members.ensures.numbers)))

pub returns-clause-ok : goal.returns-clause-ok
returns-clause-ok c =
    let kept = filter_same _ (λ m. is_install_key m.0.now) _ (λ x b f t. search rules) _ _ c.retain.ensures.filtered in
    let all = abbreviated_members c.args.manifest.now c.args.message.now c.in_ok-members.members.items c.put_message.new.members.items c.add_script.new.members.items c.retain.new.self.items
    c.in_ok-members.ensures.ok c.in_ok-put_message.ensures c.in_ok-add_script.ensures kept in
    c.in_ok-text_of.ensures ∙ ap (λ j. print (json_tokens j)) (view-Object c.retain.new.self ∙ ap object all)
