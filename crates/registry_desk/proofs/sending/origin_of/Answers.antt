use Rattle.registry_desk.proofs.Words.{◌≡◌, arith, rules, refl, sym, subst, IsTrue, state, HasCleanDisk, Contents, registry_of, stored, AreTeamsSound, ArePackuments, IsFrom, IsOrigin, LeavesAll}
use Rattle.registry_tables.proofs.TeamReferenceFacts.{teams_sound}
use Rattle.registry_desk.proofs.CommitFacts.{failed_undone}
use Rattle.registry_tables.proofs.InsideFacts.{finds_reads, finds_stays}
use Rattle.registry_desk.proofs.InsideFacts.{begun_inside}
use Rattle.registry_desk.proofs.SendingFacts.{committed_all, dropped_all, uncommitted_all}
use Rattle.registry_desk.proofs.sending.origin_of.Goals as goal

pub returns-in-Ok : goal.returns-in-Ok
returns-in-Ok g c =
    let old = state g.S.Store c.args.conn.now in
    let tx = c.transaction-tx.result in
    let mid = state g.S.Store c.find_origin.new.tx.conn.now in
    let new = state g.S.Store c.commit.new.tx.0 in
    let inside = begun_inside g.S.Store c.args.conn.now tx c.transaction-tx.ensures.begun c.requires.rests.in_form in
    let stays = rw c.transaction-tx.ensures.begun at (finds_stays g.S.Store tx c.find_origin.new.tx c.find_origin.result inside.0 inside.1 c.find_origin.ensures) in
    let same : c.commit.new.tx.0 ≡ c.conn-2-1.given.0 = search (rules, stays.same_reference) in
    let read = finds_reads g.S.Store tx c.find_origin.new.tx _ inside.0 inside.1 c.in_ok-origin.ensures in
    let seen : stored (state g.S.Store tx.conn.now) ≡ stored old = rw c.transaction-tx.ensures.begun refl in
    let were : HasCleanDisk new → HasCleanDisk mid = λ clean. omega (arith, c.commit.ensures.survives.clean, clean) in
    let first : HasCleanDisk new → HasCleanDisk old = λ clean. omega (arith, stays.survives.clean, were clean) in
    let was_open : HasCleanDisk new → IsTrue old.is_open = λ clean. rw c.transaction-tx.ensures.begun at (read (were clean)).0.was_open in
    let are = λ (clean : HasCleanDisk new). subst (λ (d : Contents). ArePackuments c.args.view d c.args.cache.now) (sym seen) (c.requires.right (first clean) (was_open clean)) in
    let teams = λ (clean : HasCleanDisk new). subst AreTeamsSound (sym seen) (teams_sound old (c.requires.rests.in_form (first clean) (was_open clean)) (c.requires.rests.written (first clean) (was_open clean)).grants) in
    rw (← same) (record {
      left = committed_all g.S.Store c.args.conn.now mid new c.requires.rests c.commit.ensures.ended (λ clean. rw c.transaction-tx.ensures.begun at (read clean).0) stays.survives c.commit.ensures.survives c.in-Ok.ensures.ok;
      served = λ clean. (c.in-Ok.ensures.ok clean).1.is_open;
      origin = λ clean. subst (λ (d : Contents). IsOrigin c.args.view c.in_ok-origin.origin (registry_of d) c.args.request.now c.args.name.now) seen ((read (were clean)).1.told (teams clean) (are clean));
      shows = λ clean. subst (λ (d : Contents). IsFrom c.args.view c.in_ok-origin.origin (registry_of d) c.args.name.now) seen ((read (were clean)).1.shows (are clean));
    })

pub returns-in-Err-clause-left : goal.returns-in-Err-clause-left
returns-in-Err-clause-left g c =
    let old = state g.S.Store c.args.conn.now in
    let tx = c.transaction-tx.result in
    let mid = state g.S.Store c.find_origin.new.tx.conn.now in
    let new = state g.S.Store c.commit.new.tx.0 in
    let inside = begun_inside g.S.Store c.args.conn.now tx c.transaction-tx.ensures.begun c.requires.rests.in_form in
    let stays = rw c.transaction-tx.ensures.begun at (finds_stays g.S.Store tx c.find_origin.new.tx c.find_origin.result inside.0 inside.1 c.find_origin.ensures) in
    let same : c.commit.new.tx.0 ≡ c.conn-2-1.given.0 = search (rules, stays.same_reference) in
    let read = finds_reads g.S.Store tx c.find_origin.new.tx _ inside.0 inside.1 c.in_ok-origin.ensures in
    let whole : LeavesAll old new = uncommitted_all g.S.Store c.args.conn.now mid new c.requires.rests c.commit.ensures.ended
    (λ clean. rw c.transaction-tx.ensures.begun at (read clean).0) stays.survives c.commit.ensures.survives
    (λ clean.
    let were : HasCleanDisk mid = omega (arith, c.commit.ensures.survives.clean, clean) in
    failed_undone mid new _ (rw c.transaction-tx.ensures.begun at (read were).0.mode) (c.in-Err.ensures.err clean).1) in
    subst (λ h. LeavesAll old (state g.S.Store h)) same whole

pub returns-in_err-origin-clause-left : goal.returns-in_err-origin-clause-left
returns-in_err-origin-clause-left g c =
    let old = state g.S.Store c.args.conn.now in
    let tx = c.transaction-tx.result in
    let mid = state g.S.Store c.find_origin.new.tx.conn.now in
    let new = state g.S.Store c.drop-tx.new.self.0 in
    let inside = begun_inside g.S.Store c.args.conn.now tx c.transaction-tx.ensures.begun c.requires.rests.in_form in
    let stays = rw c.transaction-tx.ensures.begun at (finds_stays g.S.Store tx c.find_origin.new.tx c.find_origin.result inside.0 inside.1 c.find_origin.ensures) in
    let same : c.drop-tx.new.self.0 ≡ c.conn-1.given.0 = search (rules, stays.same_reference) in
    let whole : LeavesAll old new = dropped_all g.S.Store c.args.conn.now mid new c.requires.rests c.drop-tx.ensures.ended stays.survives
    (λ were. let kept = stays.committed were in record { was_open = kept.was_open; committed = kept.committed })
    c.drop-tx.ensures.survives (λ clean. c.drop-tx.ensures.undone clean) in
    subst (λ h. LeavesAll old (state g.S.Store h)) same whole
