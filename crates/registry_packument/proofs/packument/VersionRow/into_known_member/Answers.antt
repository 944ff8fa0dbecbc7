use Rattle.std.proofs.Common.{◌∙◌, ℕ, List, ap}
use Rattle.registry_packument.specs.ObjectTexts.{member_text}
use Rattle.registry_packument.proofs.SendingFacts.{member_is}
use Rattle.registry_packument.proofs.packument.VersionRow.into_known_member.Goals as goal

pub returns-clause-ok : goal.returns-clause-ok
returns-clause-ok c =
    let key = rw (c.as_str-4.ensures.text, c.in_ok-text.ensures.bytes) at c.in_ok-push_key.ensures in
    let document = c.as_str-5.ensures.text ∙ (rw c.as_str.ensures.text at c.in_ok-document.ensures.ok) in
    c.in_ok-push_str.ensures.bytes ∙ member_is _ c.args.self.version c.as_str-5.result.now c.args.later key
    ∙ ap (λ (d : List ℕ). member_text c.args.later (c.args.self.version, d)) document
