use Rattle.std.proofs.Common.{◌∙◌, ap, rules}
use Rattle.std.proofs.lemmas.Fn.{filter_same}
use Rattle.json.specs.Value.{members_view}
use Rattle.json.specs.Json.{string}
use Rattle.registry_packument.specs.Documents.{placed}
use Rattle.registry_packument.proofs.DocumentFacts.{is_other, members_view-filter, value_view-String}
use Rattle.registry_packument.proofs.StreamFacts.{on_ok_weaker}
use Rattle.registry_packument.proofs.document.put_text.Goals as goal

pub returns : goal.returns
returns c =
    let key = c.args.key.now in
    let kept = filter_same _ (is_other key) _ (λ x b f t. search rules) _ _ c.retain.ensures.filtered in
    on_ok_weaker c.place.result
    (λ put. put ∙ ap (λ j. placed key j (members_view c.retain.new.self.items)) (value_view-String _ c.args.text)
    ∙ ap (placed key (string c.args.text.now)) (ap members_view kept ∙ members_view-filter key c.args.members.now.items))
    c.place.ensures
