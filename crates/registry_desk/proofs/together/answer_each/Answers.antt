use Rattle.registry_desk.proofs.Words.{◌≡◌, ◌∙◌, ◌+◌, ◌++◌, ◌∷◌, [], List, arith, ap, sym, subst₂, refl, take, IsTrue, true, Ok, HasCleanDisk, stays_then, shown, stored}
use Rattle.registry_desk.proofs.Words.{AreTeamsSound, AreAnswers, IsAsWritten, Request, Outcome, is_command}
use Rattle.std.proofs.lemmas.List.{take_more, take_more_set}
use Rattle.registry_tables.proofs.TeamReferenceFacts.{teams_sound}
use Rattle.registry_desk.specs.Together.{AreAnsweredInside, IsAnsweredInside}
use Rattle.registry_desk.proofs.InsideFacts.{answered_shows, does_stay}
use Rattle.registry_desk.proofs.KeptFacts.{keep_same, right_answered}
use Rattle.registry_desk.proofs.TogetherFacts.{command_is_other, each_is, inside_push, keep_no_more_then, stays_same}
use Rattle.registry_desk.proofs.together.answer_each.Goals as goal

pub loop-place-init : goal.loop-place-init
loop-place-init g c = record {
  stays = stays_same g.S.Store c.args.tx.now;
  in_form = c.requires.in_form;
  begun = λ _. c.requires.begun;
  written = c.requires.written;
  right = c.requires.right;
  no_more = keep_same c.args.caches.now;
  answered = refl;
}

pub identify_and_answer-requires : goal.identify_and_answer-requires
identify_and_answer-requires g c =
    let r = c.index-requests-place.result in
    record { other = command_is_other r.what (each_is (λ (q : Request). is_command q.what ≡ true) c.args.requests.now c.loop-place.place r c.loop-place-test.true c.index-requests-place.is c.requires.commands) }

pub loop-place-preserved : goal.loop-place-preserved
loop-place-preserved g c =
    let i = c.loop-place.invariant in
    let n = c.loop-place.place in
    let rs = c.args.requests.now in
    let os = c.loop-place.outcomes in
    let r = c.index-requests-place.result in
    let old = shown g.S.Store c.loop-place.tx in
    let new = shown g.S.Store c.identify_and_answer.new.tx in
    let no_more = c.identify_and_answer.ensures.no_more in
    let stays = does_stay g.S.Store c.loop-place.tx c.identify_and_answer.new.tx i.in_form i.begun c.identify_and_answer.result c.identify_and_answer.ensures.answers in
    let told = λ (clean : HasCleanDisk new). answered_shows g.S.Store c.loop-place.tx c.identify_and_answer.new.tx i.in_form i.begun c.in_ok-reply.ensures.answers c.in_ok-reply.ensures.served clean in
    let reply = c.in_ok-reply.reply in
    let were : HasCleanDisk new → HasCleanDisk old = λ clean. omega (arith, stays.survives.clean, clean) in
    let on : HasCleanDisk new → IsTrue old.is_open = λ clean. (told clean).was_open in
    let was : HasCleanDisk new → IsAsWritten (stored old) = λ clean. i.written (were clean) (on clean) in
    let teams : HasCleanDisk new → AreTeamsSound (stored old) = λ clean. teams_sound old (i.in_form (were clean) (on clean)) (was clean).grants in
    let are : HasCleanDisk new → AreAnswers (stored old) c.loop-place.caches = λ clean. i.right (were clean) (on clean) in
    let is_now : HasCleanDisk new → IsAsWritten (stored new) = λ clean. (told clean).answered.written (teams clean) (was clean).numbers in
    let turn : IsAnsweredInside r reply old new = record {
      form = c.requests_are_in_form.ensures;
      survives = stays.survives;
      finds = λ clean. (on clean, i.in_form (were clean) (on clean));
      answer = λ needs clean. (told clean).answered.answer (teams clean) needs (are clean);
      leaves = λ clean. ((told clean).goes_on.ready, is_now clean);
      settled = λ needs clean. (told clean).answered.settled (teams clean) needs;
      unchanged = λ clean. (told clean).answered.unchanged;
    } in
    let asked : take n rs ++ r ∷ [] ≡ take (n + 1) rs = ap (λ q. take n rs ++ q ∷ []) c.index-requests-place.is ∙ sym (take_more rs n r c.loop-place-test.true) in
    record {
      stays = stays_then g.S.Store c.args.tx.now c.loop-place.tx c.identify_and_answer.new.tx i.stays stays;
      in_form = λ clean _. (told clean).goes_on.ready;
      begun = λ clean. (told clean).goes_on.mode;
      written = λ clean _. is_now clean;
      right = λ clean _. right_answered (stored old) (stored new) r.what c.loop-place.caches c.identify_and_answer.new.caches reply (told clean).answered.right no_more (are clean);
      no_more = keep_no_more_then c.args.caches.now c.loop-place.caches c.identify_and_answer.new.caches i.no_more no_more;
      answered = subst₂ (λ (qs : List Request) (ps : List Outcome). AreAnsweredInside g.S.Store qs ps c.args.tx.now.conn.now c.identify_and_answer.new.tx.conn.now) asked
          (sym (take_more_set os n (Ok reply) (omega arith)))
          (inside_push g.S.Store (take n rs) (take n os) r reply c.args.tx.now.conn.now c.loop-place.tx.conn.now c.identify_and_answer.new.tx.conn.now i.answered turn);
    }

pub returns-in_err-reply-clause-no_more : goal.returns-in_err-reply-clause-no_more
returns-in_err-reply-clause-no_more g c =
    keep_no_more_then c.args.caches.now c.loop-place.caches c.identify_and_answer.new.caches c.loop-place.invariant.no_more c.identify_and_answer.ensures.no_more

pub returns-in_err-reply-clause-stays : goal.returns-in_err-reply-clause-stays
returns-in_err-reply-clause-stays g c =
    let i = c.loop-place.invariant in
    stays_then g.S.Store c.args.tx.now c.loop-place.tx c.identify_and_answer.new.tx i.stays
    (does_stay g.S.Store c.loop-place.tx c.identify_and_answer.new.tx i.in_form i.begun c.identify_and_answer.result c.identify_and_answer.ensures.answers)
