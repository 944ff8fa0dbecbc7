use Rattle.registry_desk.proofs.Words.{◌≡◌, ◌∙◌, arith, ap, sym, subst, Some, state, HasCleanDisk, Text, pack_len, pack_text, State, registry_of, registry_in, versions_in}
use Rattle.registry_desk.proofs.SendingFacts.{takes_as, walk_opens, walk_stored, walks_then}
use Rattle.registry_desk.proofs.sending.send_stored.Goals as goal

pub send_again-requires : goal.send_again-requires
send_again-requires g c =
    let old = state g.S.Store c.args.conn.now in
    let mid = state g.S.Store c.stored_within.new.conn in
    let walks = c.stored_within.ensures.walks in
    let rests = walk_opens old mid c.requires.rests.rests walks.left (λ clean. rw c.in-Ok-Longer.is at (walks.unshut clean)) in
    record {
      rests = rests;
      counted = λ clean.
          let stays : registry_in mid ≡ registry_in old = ap registry_of (walk_stored old mid c.requires.rests.rests walks.left clean (rests.unshut clean)) in
          let longer = rw (c.in-Ok-Longer.is, c.in-Ok-Longer.field-0-is) at (c.stored_within.ensures.within clean) in
          subst (λ (T : State). pack_len c.args.head.now (versions_in T c.args.name.now) ≡ Some c.in-Ok-Longer.len) (sym stays) longer.0;
    }

-- ---- a short one

pub returns-in-Ok-Text-clause-walks : goal.returns-in-Ok-Text-clause-walks
returns-in-Ok-Text-clause-walks g c = let walks = c.stored_within.ensures.walks in record { left = walks.left; unshut = λ clean _. rw c.in-Ok-Text.is at (walks.unshut clean) }

pub returns-in-Ok-Text-clause-sends : goal.returns-in-Ok-Text-clause-sends
returns-in-Ok-Text-clause-sends g c =
    let old = state g.S.Store c.args.conn.now in
    let new = state g.S.Store c.stored_within.new.conn in
    let sent = c.send_text.ensures in
    record {
      takes = takes_as (g.O.Opener.opens c.args.opener.now)
          (λ (bytes : Text). bytes ≡ c.in-Ok-Text.text)
          (λ (text : Text). HasCleanDisk new → pack_text c.args.head.now (versions_in (registry_in old) c.args.name.now) ≡ Some text) _ _ _ c.send_text.result
          (λ bytes is clean.
          let within = rw (c.in-Ok-Text.is, c.in-Ok-Text.field-0-is) at (c.stored_within.ensures.within clean) in
          within.0 ∙ ap Some (sym is))
          (rw c.as_str.ensures.text at sent.takes);
      counts = record { counted = sent.counted; told = sent.told; unknown = sent.unknown };
    }

-- ---- a long one

pub returns-in-Ok-Longer-clause-walks : goal.returns-in-Ok-Longer-clause-walks
returns-in-Ok-Longer-clause-walks g c =
    walks_then (state g.S.Store c.args.conn.now) (state g.S.Store c.stored_within.new.conn) (state g.S.Store c.send_again.new.conn) _ c.stored_within.ensures.walks.left c.send_again.ensures.walks

pub returns-in-Ok-Longer-clause-sends : goal.returns-in-Ok-Longer-clause-sends
returns-in-Ok-Longer-clause-sends g c =
    let old = state g.S.Store c.args.conn.now in
    let mid = state g.S.Store c.stored_within.new.conn in
    let new = state g.S.Store c.send_again.new.conn in
    let walks = c.stored_within.ensures.walks in
    let sends = c.send_again.ensures.sends in
    record {
      takes = takes_as (g.O.Opener.opens c.args.opener.now)
          (λ (text : Text). HasCleanDisk new → pack_text c.args.head.now (versions_in (registry_in mid) c.args.name.now) ≡ Some text)
          (λ (text : Text). HasCleanDisk new → pack_text c.args.head.now (versions_in (registry_in old) c.args.name.now) ≡ Some text) _ _ _ c.send_again.result
          (λ text written clean.
          let were : HasCleanDisk mid = omega (arith, c.send_again.ensures.walks.left.survives.clean, clean) in
          let stays : registry_in mid ≡ registry_in old = ap registry_of (walk_stored old mid c.requires.rests.rests walks.left were (rw c.in-Ok-Longer.is at (walks.unshut were))) in
          subst (λ (T : State). pack_text c.args.head.now (versions_in T c.args.name.now) ≡ Some text) stays (written clean))
          sends.takes;
      counts = sends.counts;
    }
