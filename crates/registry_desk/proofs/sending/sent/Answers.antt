use Rattle.registry_desk.proofs.Words.{sym, subst, refl, state, KeepsNoMore, LeavesAll, Full}
use Rattle.registry_desk.proofs.CacheFacts.{same_no_more}
use Rattle.registry_desk.proofs.KeptFacts.{by_view, keep_same}
use Rattle.registry_desk.proofs.SendingFacts.{asked_no_more, cached_left, fault_sends, kept_sends, refused_sends, stored_sends, walk_leaves}
use Rattle.registry_desk.proofs.sending.sent.Goals as goal

pub origin_of-requires-clause-right : goal.origin_of-requires-clause-right
origin_of-requires-clause-right g c clean on = (c.requires.cached.right clean on).texts Full

pub returns-in-Ok-Refused : goal.returns-in-Ok-Refused
returns-in-Ok-Refused g c =
    let caches = c.args.caches.now in
    let left = c.origin_of.ensures.left in
    record {
      cached = cached_left (state g.S.Store c.args.conn.now) (state g.S.Store c.origin_of.new.conn) caches caches left (keep_same caches) c.requires.cached;
      stored = left.same;
      sends = refused_sends g.S.Store (λ h db on. g.met.S.Store.settled h.store db on) (g.O.Opener.opens c.args.opener.now) c.args.conn.now c.origin_of.new.conn c.args.request.now c.requires.cached.rests c.requests_are_in_form.ensures c.args.name.now
          c.requires.asks left (λ clean. rw c.in-Ok-Refused.is at (c.origin_of.ensures.served clean)) c.in-Ok-Refused.refusal
          (λ clean. rw (c.in-Ok-Refused.is, c.in-Ok-Refused.field-0-is) at (c.origin_of.ensures.origin clean)) _ _;
      counts = record { counted = refl; told = λ _. refl; unknown = λ is. is };
    }

pub returns-in-Ok-Kept : goal.returns-in-Ok-Kept
returns-in-Ok-Kept g c =
    let was = c.args.caches.now in
    let left = c.origin_of.ensures.left in
    let sent = c.send_text.ensures in
    record {
      cached = cached_left (state g.S.Store c.args.conn.now) (state g.S.Store c.origin_of.new.conn) was _ left
          (record {
            texts = by_view _ (subst (KeepsNoMore was.packuments) (sym c.ask-is_kept.ensures.asked) (asked_no_more was.packuments c.text.result.now)) (same_no_more was.abbreviated) (same_no_more was.revised);
            archives = same_no_more was.archives;
          })
          c.requires.cached;
      stored = left.same;
      sends = kept_sends g.S.Store (λ h db on. g.met.S.Store.settled h.store db on) (g.O.Opener.opens c.args.opener.now) c.args.conn.now c.origin_of.new.conn c.args.request.now c.requires.cached.rests c.requests_are_in_form.ensures c.args.name.now
          c.requires.asks left (λ clean. rw c.in-Ok-Kept.is at (c.origin_of.ensures.served clean)) c.in-Ok-Kept.text
          (λ clean. rw (c.in-Ok-Kept.is, c.in-Ok-Kept.field-0-is) at (c.origin_of.ensures.origin clean)) _ _ _ c.send_text.result
          (rw c.as_str.ensures.text at sent.takes);
      counts = record { counted = sent.counted; told = sent.told; unknown = sent.unknown };
    }

pub returns-in-Ok-Stored : goal.returns-in-Ok-Stored
returns-in-Ok-Stored g c =
    let caches = c.args.caches.now in
    let old = state g.S.Store c.args.conn.now in
    let new = state g.S.Store c.send_stored.new.conn in
    let all = c.origin_of.ensures.left in
    let walks = c.send_stored.ensures.walks in
    let left : LeavesAll old new = walk_leaves (state g.S.Store c.origin_of.new.conn) new all.rests walks.left old all in
    record {
      cached = cached_left old new caches caches left (keep_same caches) c.requires.cached;
      stored = left.same;
      sends = stored_sends g.S.Store (λ h db on. g.met.S.Store.settled h.store db on) (g.O.Opener.opens c.args.opener.now) c.args.conn.now c.origin_of.new.conn c.args.request.now c.requires.cached.rests c.requests_are_in_form.ensures c.args.name.now
          c.requires.asks all (λ clean. rw c.in-Ok-Stored.is at (c.origin_of.ensures.served clean)) c.in-Ok-Stored.head
          (λ clean. let it = rw (c.in-Ok-Stored.is, c.in-Ok-Stored.field-0-is) at (c.origin_of.ensures.origin clean) in (it.0, it.1.0)) c.send_stored.new.conn walks.left _ _ _ c.send_stored.result
          walks.unshut c.send_stored.ensures.sends.takes;
      counts = c.send_stored.ensures.sends.counts;
    }

pub returns : goal.returns
returns g c =
    let caches = c.args.caches.now in
    let left = c.origin_of.ensures.left in
    record {
      cached = cached_left (state g.S.Store c.args.conn.now) (state g.S.Store c.origin_of.new.conn) caches caches left (keep_same caches) c.requires.cached;
      stored = left.same;
      sends = fault_sends g.S.Store (λ h db on. g.met.S.Store.settled h.store db on) (g.O.Opener.opens c.args.opener.now) c.args.conn.now c.origin_of.new.conn c.args.request.now c.requires.cached.rests c.requests_are_in_form.ensures c.args.name.now
          c.requires.asks left c.in-Err.fault _ _;
      counts = record { counted = refl; told = λ _. refl; unknown = λ is. is };
    }
