use Rattle.registry_desk.proofs.Words.{◌≡◌, arith, ap, sym, subst, Some, IfOk-weaker, state, HasCleanDisk, pack_len, pack_text, State, registry_of, registry_in, versions_in}
use Rattle.registry_desk.proofs.SendingFacts.{walk_opens, walk_stored, walks_then}
use Rattle.registry_desk.proofs.texts.made_text.Goals as goal

pub written_text-requires : goal.written_text-requires
written_text-requires g c =
    let old = state g.S.Store c.args.conn.now in
    let mid = state g.S.Store c.stored_within.new.conn in
    let walks = c.in_ok-within.ensures.walks in
    record {
      rests = walk_opens old mid c.requires.rests.rests walks.left walks.unshut;
      counted = λ clean.
          let stays : registry_in mid ≡ registry_in old = ap registry_of (walk_stored old mid c.requires.rests.rests walks.left clean (walks.unshut clean)) in
          let longer = rw c.in-Longer.is at (c.in_ok-within.ensures.within clean) in
          subst (λ (T : State). pack_len c.args.head.now (versions_in T c.args.name.now) ≡ Some c.in-Longer.len) (sym stays) longer.0;
      empty = c.in_ok-room-in-Longer.ensures.empty;
      exact = c.in_ok-room-in-Longer.ensures.exact;
    }

pub returns-in_ok-room-in-Longer-clause-walks : goal.returns-in_ok-room-in-Longer-clause-walks
returns-in_ok-room-in-Longer-clause-walks g c =
    walks_then (state g.S.Store c.args.conn.now) (state g.S.Store c.stored_within.new.conn) (state g.S.Store c.written_text.new.conn) _ c.in_ok-within.ensures.walks.left c.written_text.ensures.walks

pub returns-in_ok-room-in-Longer-clause-text : goal.returns-in_ok-room-in-Longer-clause-text
returns-in_ok-room-in-Longer-clause-text g c clean =
    let old = state g.S.Store c.args.conn.now in
    let mid = state g.S.Store c.stored_within.new.conn in
    let walks = c.in_ok-within.ensures.walks in
    let were : HasCleanDisk mid = omega (arith, c.written_text.ensures.walks.left.survives.clean, clean) in
    let stays : registry_in mid ≡ registry_in old = ap registry_of (walk_stored old mid c.requires.rests.rests walks.left were (walks.unshut were)) in
    IfOk-weaker c.written_text.result _ _ (λ text written. subst (λ (T : State). pack_text c.args.head.now (versions_in T c.args.name.now) ≡ Some text) stays written) (c.written_text.ensures.text clean)
