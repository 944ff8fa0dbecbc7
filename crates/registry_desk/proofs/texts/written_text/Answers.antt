use Rattle.registry_desk.proofs.Words.{◌≡◌, ap, Some, IfOk-weaker, state, HasCleanDisk, Text, pack_text, registry_in, versions_in}
use Rattle.registry_desk.proofs.QueryFacts.{taken_whole}
use Rattle.registry_desk.proofs.texts.written_text.Goals as goal

pub returns-clause-text : goal.returns-clause-text
returns-clause-text g c clean =
    let old = state g.S.Store c.args.conn.now in
    let new = state g.S.Store c.send_again-sent.new.conn in
    IfOk-weaker c.text_sent.result _ _ (λ text it. it clean)
    (taken_whole (λ (text : Text). HasCleanDisk new → pack_text c.args.head.now (versions_in (registry_in old) c.args.name.now) ≡ Some text) _ c.send_again-sent.new.writer.bytes.items c.send_again-sent.result c.text_sent.result
    c.text_sent.ensures.whole c.text_sent.ensures.text (ap Some c.requires.empty) c.send_again-sent.ensures.sends.takes)
