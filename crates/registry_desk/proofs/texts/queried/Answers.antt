use Rattle.registry_desk.proofs.Words.{◌≡◌, arith, ap, sym, subst, err_from_is_err_and, state, HasCleanDisk, State, registry_of, registry_in, stored, AnswersOne, IsMadeOf, KeepsOutcome, LeavesAll}
use Rattle.registry_desk.proofs.KeptFacts.{keep_same, limited_reply, right_kept, shown_packument}
use Rattle.registry_desk.proofs.QueryFacts.{alone_shows, made_shows, made_told, query_answers, query_fails}
use Rattle.registry_desk.proofs.SendingFacts.{cached_left, right_left, walk_leaves}
use Rattle.registry_desk.proofs.texts.queried.Goals as goal

pub origin_of-requires : goal.origin_of-requires
origin_of-requires g c = record { rests = c.requires.cached.rests; right = λ clean on. rw c.texts.ensures ((c.requires.cached.right clean on).texts c.args.view); asks = c.requires.asks }

pub reply_of-requires : goal.reply_of-requires
reply_of-requires g c = record { rests = record { rests = c.origin_of.ensures.left.rests; unshut = c.in_ok-origin.ensures.served } }

-- ---- a fault

pub returns-in_err-origin : goal.returns-in_err-origin
returns-in_err-origin g c =
    let old = state g.S.Store c.args.conn.now in
    let new = state g.S.Store c.origin_of.new.conn in
    let caches = c.args.caches.now in
    let r = c.args.request.now in
    let fault = err_from_is_err_and c.from_residual.result c.from_residual.ensures.1 in
    record {
      cached = cached_left old new caches caches c.origin_of.ensures.left (keep_same caches) c.requires.cached;
      answers = subst (AnswersOne old new r) (sym fault.1) (query_fails c.args.view old new r c.args.name.now c.requires.asks c.origin_of.ensures.left fault.0);
      kept = subst (KeepsOutcome r.what caches caches) (sym fault.1) (keep_same caches);
    }

pub returns-in_err-reply : goal.returns-in_err-reply
returns-in_err-reply g c =
    let old = state g.S.Store c.args.conn.now in
    let mid = state g.S.Store c.origin_of.new.conn in
    let new = state g.S.Store c.reply_of.new.conn in
    let caches = c.args.caches.now in
    let r = c.args.request.now in
    let left : LeavesAll old new = walk_leaves mid new c.origin_of.ensures.left.rests c.reply_of.ensures.walks.left old c.origin_of.ensures.left in
    let fault = err_from_is_err_and c.from_residual-in_err-reply.result c.from_residual-in_err-reply.ensures.1 in
    record {
      cached = cached_left old new caches caches left (keep_same caches) c.requires.cached;
      answers = subst (AnswersOne old new r) (sym fault.1) (query_fails c.args.view old new r c.args.name.now c.requires.asks left fault.0);
      kept = subst (KeepsOutcome r.what caches caches) (sym fault.1) (keep_same caches);
    }

-- ---- the reply

pub returns : goal.returns
returns g c =
    let old = state g.S.Store c.args.conn.now in
    let mid = state g.S.Store c.origin_of.new.conn in
    let new = state g.S.Store c.reply_of.new.conn in
    let was = c.args.caches.now in
    let r = c.args.request.now in
    let p = c.args.name.now in
    let reply = c.in_ok-reply.reply in
    let left : LeavesAll old new = walk_leaves mid new c.origin_of.ensures.left.rests c.reply_of.ensures.walks.left old c.origin_of.ensures.left in
    let were : HasCleanDisk new → HasCleanDisk mid = λ clean. omega (arith, c.reply_of.ensures.walks.left.survives.clean, clean) in
    let stays : (clean : HasCleanDisk new) → registry_in mid ≡ registry_in old = λ clean. ap registry_of (c.origin_of.ensures.left.same (were clean) (c.in_ok-origin.ensures.served (were clean))) in
    let made : HasCleanDisk new → IsMadeOf reply c.in_ok-origin.origin (registry_in old) p = λ clean. subst (λ (T : State). IsMadeOf reply c.in_ok-origin.origin T p) (stays clean) (c.in_ok-reply.ensures.made clean) in
    record {
      cached = record {
        rests = left.rests;
        right = λ clean on.
            right_kept (stored new) r.what reply was c.keep_reply.new.caches (right_left old new was was left (keep_same was) c.requires.cached.right clean on)
            (shown_packument c.args.view (stored new) r.what reply p c.requires.asks
            (alone_shows c.args.view (registry_in old) (registry_in new) r.what p reply (ap registry_of (left.same clean on)) c.requires.asks
            (made_shows c.args.view reply c.in_ok-origin.origin (registry_in old) p (made clean) (c.in_ok-origin.ensures.shows (were clean))))) c.keep_reply.ensures;
        limited = limited_reply r.what reply was c.keep_reply.new.caches c.keep_reply.ensures c.requires.cached.limited;
      };
      answers = query_answers c.args.view old new r p c.requires.asks left reply
          (λ clean. made_told c.args.view reply c.in_ok-origin.origin (registry_in old) r p (made clean) (c.in_ok-origin.ensures.origin (were clean))) c.in_ok-reply.ensures.walks.unshut;
      kept = (was, keep_same was, c.keep_reply.ensures);
    }
