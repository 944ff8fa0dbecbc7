use Rattle.registry_desk.proofs.Words.{◌≡◌, ◌∙◌, arith, rules, ap, refl, sym, subst, IsTrue, Ok, err_from_is_err_and, survives_begin, survives_then, Database, state, HasCleanDisk, KeepsCommit}
use Rattle.registry_desk.proofs.Words.{Contents, contents, registry_of, stored, HasNumbersInRange, AreTeamsSound, answer, Outcome, NeedsFor, LeavesOne, next_stored, settled_by, AreAnswers, KeepsOutcome, LeavesAll}
use Rattle.registry_tables.proofs.TeamReferenceFacts.{teams_sound}
use Rattle.registry_desk.proofs.CommitFacts.{commit_rests, failed_undone, registry_left, undone_open, undone_rests, undone_stored}
use Rattle.registry_desk.proofs.InsideFacts.{answered_shows, begun_inside, does_stay}
use Rattle.registry_desk.proofs.SendingFacts.{dropped_all, never_enters, right_left}
use Rattle.registry_desk.proofs.SettlingFacts.{faulted_next, settled_next}
use Rattle.registry_desk.proofs.KeptFacts.{limited_reply, limited_still, right_answered, right_kept, right_unchanged, shown_answered}
use Rattle.registry_desk.proofs.registry.answer_in_transaction.Goals as goal

pub returns-in-Ok : goal.returns-in-Ok
returns-in-Ok g c =
    let old = state g.S.Store c.args.conn.now in
    let tx = c.transaction-tx.result in
    let begun = state g.S.Store tx.conn.now in
    let mid = state g.S.Store c.identify_and_answer.new.tx.conn.now in
    let new = state g.S.Store c.commit.new.tx.0 in
    let r = c.args.request.now in
    let reply = c.in_ok-reply.reply in
    let between = c.identify_and_answer.new.caches in
    let no_more = c.identify_and_answer.ensures.no_more in
    let after = c.keep_reply.new.caches in
    let inside = begun_inside g.S.Store c.args.conn.now tx c.transaction-tx.ensures.begun c.requires.cached.rests.in_form in
    let stays = rw c.transaction-tx.ensures.begun at (does_stay g.S.Store tx c.identify_and_answer.new.tx inside.0 inside.1 c.identify_and_answer.result c.identify_and_answer.ensures.answers) in
    let same : c.commit.new.tx.0 ≡ c.conn-2-1.given.0 = search (rules, stays.same_reference) in
    let seen : stored begun ≡ stored old = rw c.transaction-tx.ensures.begun refl in
    let were : HasCleanDisk new → HasCleanDisk mid = λ clean. omega (arith, c.commit.ensures.survives.clean, clean) in
    let first : HasCleanDisk new → HasCleanDisk old = λ clean. omega (arith, stays.survives.clean, were clean) in
    let told = λ (clean : HasCleanDisk new). answered_shows g.S.Store tx c.identify_and_answer.new.tx inside.0 inside.1 c.in_ok-reply.ensures.answers c.in_ok-reply.ensures.served (were clean) in
    let was_open : HasCleanDisk new → IsTrue old.is_open = λ clean. rw c.transaction-tx.ensures.begun at (told clean).was_open in
    let written = λ (clean : HasCleanDisk new). c.requires.cached.rests.written (first clean) (was_open clean) in
    let teams = λ (clean : HasCleanDisk new). subst AreTeamsSound (sym seen) (teams_sound old (c.requires.cached.rests.in_form (first clean) (was_open clean)) (written clean).grants) in
    let needs = subst (λ (d : Contents). NeedsFor r.what d) (sym seen) in
    let are = λ (clean : HasCleanDisk new). subst (λ (d : Contents). AreAnswers d c.args.caches.now) (sym seen) (c.requires.cached.right (first clean) (was_open clean)) in
    let left : HasCleanDisk new → stored new ≡ stored mid = λ clean. ap (λ (d : Database). contents d.trees) (c.in-Ok.ensures.ok clean).1.now_is in
    rw (← same) (record {
      cached = record {
        rests = commit_rests (stored mid) mid new c.commit.ensures.ended (λ clean. (told clean).goes_on) (λ clean. (told clean).answered.written (teams clean) (subst HasNumbersInRange (sym seen) (written clean).numbers)) (λ clean. (c.in-Ok.ensures.ok clean).1);
        right = λ clean on. subst (λ (d : Contents). AreAnswers d after) (sym (left clean))
            (right_kept (stored mid) r.what reply between after
            (right_answered (stored begun) (stored mid) r.what c.args.caches.now between reply (told clean).answered.right no_more (are clean))
            (shown_answered (stored begun) (stored mid) r.what c.args.caches.now between reply c.requires.other (told clean).answered.right (are clean)) c.keep_reply.ensures);
        limited = limited_reply r.what reply between after c.keep_reply.ensures (limited_still c.args.caches.now between c.requires.cached.limited no_more);
      };
      answers = record {
        answer = λ needed clean. (told clean).answered.answer (teams clean) (needs needed) (are clean) ∙ ap (λ (d : Contents). answer (registry_of d) r) seen;
        served = λ clean. (was_open clean, (c.in-Ok.ensures.ok clean).1.is_open);
        opened = λ clean _. was_open clean;
        unchanged = λ clean _ none. left clean ∙ (told clean).answered.unchanged none ∙ seen;
        step = λ needed clean _. left clean ∙ (told clean).answered.settled (teams clean) (needs needed) ∙ settled_next (stored begun) r reply ((told clean).answered.answer (teams clean) (needs needed) (are clean)) ∙ ap (next_stored r (Ok reply)) seen;
        survives = survives_then old mid new _ _ (LeavesOne r old) (λ _ _ none. absurd none)
            (λ clean db is.
            let whole_left = λ (d : Contents). registry_left mid db d (told clean).goes_on.ready is in
            record {
              was_open = was_open clean;
              form = (whole_left (stored mid) refl).0;
              query = λ asks. (whole_left (stored old) ((told clean).answered.unchanged (never_enters r asks (Ok reply)) ∙ seen)).1;
              settled = λ needed. (whole_left (settled_by r (stored old)) ((told clean).answered.settled (teams clean) (needs needed) ∙ ap (settled_by r) seen)).1;
            })
            (survives_begin g.S.Store c.args.conn.now mid _ stays.survives) c.commit.ensures.survives;
      };
      -- what is replied is kept after all else
      kept = (between, no_more, c.keep_reply.ensures);
    })

pub returns-in-Err : goal.returns-in-Err
returns-in-Err g c =
    let old = state g.S.Store c.args.conn.now in
    let tx = c.transaction-tx.result in
    let begun = state g.S.Store tx.conn.now in
    let mid = state g.S.Store c.identify_and_answer.new.tx.conn.now in
    let new = state g.S.Store c.commit.new.tx.0 in
    let r = c.args.request.now in
    let no_more = c.identify_and_answer.ensures.no_more in
    let inside = begun_inside g.S.Store c.args.conn.now tx c.transaction-tx.ensures.begun c.requires.cached.rests.in_form in
    let stays = rw c.transaction-tx.ensures.begun at (does_stay g.S.Store tx c.identify_and_answer.new.tx inside.0 inside.1 c.identify_and_answer.result c.identify_and_answer.ensures.answers) in
    let same : c.commit.new.tx.0 ≡ c.conn-2-1.given.0 = search (rules, stays.same_reference) in
    let seen : stored begun ≡ stored old = rw c.transaction-tx.ensures.begun refl in
    let were : HasCleanDisk new → HasCleanDisk mid = λ clean. omega (arith, c.commit.ensures.survives.clean, clean) in
    let first : HasCleanDisk new → HasCleanDisk old = λ clean. omega (arith, stays.survives.clean, were clean) in
    let told = λ (clean : HasCleanDisk new). answered_shows g.S.Store tx c.identify_and_answer.new.tx inside.0 inside.1 c.in_ok-reply.ensures.answers c.in_ok-reply.ensures.served (were clean) in
    let was_open : HasCleanDisk new → IsTrue old.is_open = λ clean. rw c.transaction-tx.ensures.begun at (told clean).was_open in
    let keeps : HasCleanDisk new → KeepsCommit old mid = λ clean. let kept = stays.committed (were clean) in record { was_open = kept.was_open; committed = kept.committed } in
    let back = λ (clean : HasCleanDisk new). failed_undone mid new _ (told clean).goes_on.mode (c.in-Err.ensures.err clean).1 in
    let left = λ (clean : HasCleanDisk new) (on : IsTrue new.is_open). undone_stored old mid new c.requires.cached.rests (first clean) (keeps clean) (back clean) on in
    rw (← same) (record {
      cached = record {
        rests = undone_rests old mid new c.requires.cached.rests c.commit.ensures.ended (λ clean. (first clean, keeps clean, back clean));
        right = right_unchanged old new c.args.caches.now c.identify_and_answer.new.caches (λ clean on. (first clean, undone_open old mid new (keeps clean) (back clean) on, left clean on)) no_more c.requires.cached.right;
        limited = limited_still c.args.caches.now c.identify_and_answer.new.caches c.requires.cached.limited no_more;
      };
      answers = record {
        -- a fault is no answer, and leaves what the disk holds open
        answer = λ needed clean. tt;
        served = λ clean. tt;
        opened = λ clean on. undone_open old mid new (keeps clean) (back clean) on;
        unchanged = λ clean on none. left clean on;
        step = λ needed clean on. left clean on ∙ faulted_next (stored old) r c.in-Err.fault;
        survives = survives_then old mid new _ _ (LeavesOne r old) (λ _ _ none. absurd none)
            (λ clean db is.
            let whole_left = λ (d : Contents). registry_left mid db d (told clean).goes_on.ready is in
            let teams = subst AreTeamsSound (sym seen) (teams_sound old (c.requires.cached.rests.in_form (first clean) (was_open clean)) (c.requires.cached.rests.written (first clean) (was_open clean)).grants) in
            record {
              was_open = was_open clean;
              form = (whole_left (stored mid) refl).0;
              query = λ asks. (whole_left (stored old) ((told clean).answered.unchanged (never_enters r asks (Ok c.in_ok-reply.reply)) ∙ seen)).1;
              settled = λ needed. (whole_left (settled_by r (stored old)) ((told clean).answered.settled teams (subst (λ (d : Contents). NeedsFor r.what d) (sym seen) needed) ∙ ap (settled_by r) seen)).1;
            })
            (survives_begin g.S.Store c.args.conn.now mid _ stays.survives) c.commit.ensures.survives;
      };
      kept = no_more;
    })

pub returns-in_err-reply : goal.returns-in_err-reply
returns-in_err-reply g c =
    let old = state g.S.Store c.args.conn.now in
    let tx = c.transaction-tx.result in
    let mid = state g.S.Store c.identify_and_answer.new.tx.conn.now in
    let new = state g.S.Store c.drop-tx.new.self.0 in
    let r = c.args.request.now in
    let no_more = c.identify_and_answer.ensures.no_more in
    let fault = err_from_is_err_and c.from_residual.result c.from_residual.ensures.1 in
    let inside = begun_inside g.S.Store c.args.conn.now tx c.transaction-tx.ensures.begun c.requires.cached.rests.in_form in
    let stays = rw c.transaction-tx.ensures.begun at (does_stay g.S.Store tx c.identify_and_answer.new.tx inside.0 inside.1 c.identify_and_answer.result c.identify_and_answer.ensures.answers) in
    let same : c.drop-tx.new.self.0 ≡ c.conn-1.given.0 = search (rules, stays.same_reference) in
    let left : LeavesAll old new = dropped_all g.S.Store c.args.conn.now mid new c.requires.cached.rests c.drop-tx.ensures.ended stays.survives
    (λ were. let kept = stays.committed were in record { was_open = kept.was_open; committed = kept.committed }) c.drop-tx.ensures.survives c.drop-tx.ensures.undone in
    rw (← same) (record {
      cached = record {
        rests = left.rests;
        right = right_left old new c.args.caches.now c.identify_and_answer.new.caches left no_more c.requires.cached.right;
        limited = limited_still c.args.caches.now c.identify_and_answer.new.caches c.requires.cached.limited no_more;
      };
      answers = record {
        answer = search rules;
        served = search rules;
        opened = left.opened;
        unchanged = λ clean on none. left.same clean on;
        -- what a search finds too, where the schema is smaller
        step = λ needed clean on. left.same clean on ∙ faulted_next (stored old) r fault.0 ∙ ap (λ (o : Outcome). next_stored r o (stored old)) (sym fault.1);
        survives = survives_then old mid new _ _ (LeavesOne r old) (λ _ _ none. absurd none) (λ _ _ none. absurd none) (survives_begin g.S.Store c.args.conn.now mid _ stays.survives) c.drop-tx.ensures.survives;
      };
      kept = subst (KeepsOutcome r.what c.args.caches.now c.identify_and_answer.new.caches) (sym fault.1) no_more;
    })
