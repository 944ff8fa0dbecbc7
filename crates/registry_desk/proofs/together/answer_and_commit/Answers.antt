use Rattle.registry_desk.proofs.Words.{◌≡◌, rules, sym, subst, IfErr, err_from_is_err_and, state, HasCleanDisk, KeepsCommit, LeavesAll, Survives, survives_begin, survives_then}
use Rattle.registry_desk.specs.Together.{FailTogether}
use Rattle.registry_desk.proofs.SendingFacts.{dropped_all, right_left}
use Rattle.registry_desk.proofs.TogetherFacts.{leaves_after, leaves_broken}
use Rattle.registry_desk.proofs.together.answer_and_commit.Goals as goal

pub returns : goal.returns
returns g c =
    let old = c.args.conn.now in
    let mid = c.answer_each.new.tx.conn.now in
    let new = c.commit.new.tx.0 in
    let told = c.in_ok-answer_each.ensures in
    let same : c.commit.new.tx.0 ≡ c.conn-2-1.given.0 = search rules in
    let stays = rw c.transaction-tx.ensures.begun at c.answer_each.ensures.stays in
    let inside = rw c.transaction-tx.ensures.begun at told.answered in
    let keeps : HasCleanDisk (state g.S.Store mid) → KeepsCommit (state g.S.Store old) (state g.S.Store mid) = λ clean. let kept = stays.committed clean in record { was_open = kept.was_open; committed = kept.committed } in
    let it = leaves_after g.S.Store (λ h db on. g.met.S.Store.settled h.store db on) old mid new c.args.caches.now c.answer_each.new.caches c.args.requests.now c.answer_each.new.outcomes
    c.requires.some c.answer_each.ensures.many inside c.requires.rests c.requires.right c.answer_each.ensures.no_more told.right told.begun keeps c.commit.ensures.ended c.commit.ensures.survives
    c.commit.result c.commit.ensures.ok c.commit.ensures.err in
    rw (← same) (record {
      rests = it.rests;
      right = it.right;
      no_more = c.answer_each.ensures.no_more;
      many = c.answer_each.ensures.many;
      ok = it.ok;
      err = it.err;
    })

pub returns-in_err-answer_each : goal.returns-in_err-answer_each
returns-in_err-answer_each g c =
    let old = state g.S.Store c.args.conn.now in
    let mid = state g.S.Store c.answer_each.new.tx.conn.now in
    let new = state g.S.Store c.drop-tx.new.self.0 in
    let no_more = c.answer_each.ensures.no_more in
    let fault = err_from_is_err_and c.from_residual.result c.from_residual.ensures.1 in
    let same : c.drop-tx.new.self.0 ≡ c.conn-1.given.0 = search rules in
    let stays = rw c.transaction-tx.ensures.begun at c.answer_each.ensures.stays in
    let left : LeavesAll old new = dropped_all g.S.Store c.args.conn.now mid new c.requires.rests c.drop-tx.ensures.ended stays.survives
    (λ were. let kept = stays.committed were in record { was_open = kept.was_open; committed = kept.committed }) c.drop-tx.ensures.survives c.drop-tx.ensures.undone in
    let whole : Survives old new (λ db. ⊥) = survives_then old mid new _ _ (λ db. ⊥) (λ _ _ none. none) (λ _ _ none. none) (survives_begin g.S.Store c.args.conn.now mid _ stays.survives) c.drop-tx.ensures.survives in
    rw (← same) (record {
      rests = left.rests;
      right = right_left old new c.args.caches.now c.answer_each.new.caches left no_more c.requires.right;
      no_more = no_more;
      many = c.answer_each.ensures.many;
      ok = search rules;
      err = subst (λ r. IfErr r (FailTogether g.S.Store c.args.conn.now c.drop-tx.new.self.0 c.args.requests.now)) (sym fault.1)
          (leaves_broken g.S.Store (λ h db on. g.met.S.Store.settled h.store db on) c.args.conn.now c.answer_each.new.tx.conn.now c.drop-tx.new.self.0 c.args.caches.now c.answer_each.new.caches c.args.requests.now c.answer_each.new.outcomes
          c.requires.some c.requires.rests left whole fault.0);
    })
