use Rattle.registry_desk.proofs.Words.{◌≡◌, ◌∙◌, refl, sym, Some, NoCaller, caller_of, FactsTell, registry_of, AreTeamsSound, NeedsFor, TellsSome}
use Rattle.registry_desk.specs.declared.policy.Found.TheVariants as found
use Rattle.registry_desk.proofs.AnswerFacts.{known_stands, nobody_is_refused, refused, same_caller}
use Rattle.registry_desk.proofs.EarlyFacts.{found_some, found_told, known_refused}
use Rattle.registry_desk.proofs.InsideFacts.{found_does, found_then, known_does, known_found}
use Rattle.registry_desk.proofs.KeptFacts.{leaves_refused, sound_for}
use Rattle.registry_desk.proofs.SettlingFacts.{refused_settles}
use Rattle.registry_desk.proofs.answer.identify_and_answer.Goals as goal

-- ---- nobody asks

pub returns-in_default-clause-answers : goal.returns-in_default-clause-answers
returns-in_default-clause-answers g c = known_does c.in_ok-caller.ensures.knows (λ d known.
    let r = c.args.request.now in
    let none = nobody_is_refused (registry_of d) r (sym c.in_default.is ∙ known) in
    record {
      answer = λ _ _ _. sym (refused (registry_of d) r NoCaller none);
      settled = λ _ _. sym (refused_settles d r NoCaller none);
      written = λ teams numbers. record { grants = teams.grants; numbers = numbers };
      unchanged = λ _. refl;
      right = leaves_refused d d r.what c.args.caches.now NoCaller refl;
    })

-- ---- refused early

pub returns-in-Refused-clause-answers : goal.returns-in-Refused-clause-answers
returns-in-Refused-clause-answers g c = found_does (known_found c.in_ok-caller.ensures.knows c.in_ok-refusal.ensures) (λ d held it.
    let r = c.args.request.now in
    let why = c.in-Refused.refusal in
    let early = λ (teams : AreTeamsSound d) (needs : NeedsFor r.what d). rw c.in-Refused.is at (found_told _ d r.at c.in-Some.caller r.what (it.1 teams) needs) in
    let none = λ (teams : AreTeamsSound d) (needs : NeedsFor r.what d). known_refused (registry_of d) c.in-Some.caller r why (sym c.in-Some.is ∙ it.0) (early teams needs) in
    record {
      answer = λ teams needs _. sym (refused (registry_of d) r why (none teams needs));
      settled = λ teams needs. sym (refused_settles d r why (none teams needs));
      written = λ teams numbers. record { grants = teams.grants; numbers = numbers };
      unchanged = λ _. refl;
      right = leaves_refused d d r.what c.args.caches.now why refl;
    })

-- ---- decided

pub returns-in-About-clause-answers : goal.returns-in-About-clause-answers
returns-in-About-clause-answers g c =
    let r = c.args.request.now in
    let who = c.in-Some.caller in
    let about = c.in-About.about in
    let was = c.args.caches.now in
    found_then c.decide_and_apply.result (known_found c.in_ok-caller.ensures.knows c.in_ok-refusal.ensures) c.decide_and_apply.ensures.answers (λ given d e held it decided.
    let known : Some who ≡ caller_of (registry_of d) r.who = sym c.in-Some.is ∙ it.0 in
    let stands : AreTeamsSound d → NeedsFor r.what d → FactsTell (record { caller = Some who; about = about }) (registry_of d) r = λ teams needs.
    known_stands (registry_of d) who about r known (rw c.in-About.is at (found_told _ d r.at who r.what (it.1 teams) needs)).1 in
    record {
      answer = λ teams needs are. decided.answer (stands teams needs) (sound_for r.what d was teams are);
      settled = λ teams needs. decided.settled (stands teams needs);
      written = λ teams numbers.
          let some : TellsSome (found.About about) (registry_of d) who r.what = rw c.in-About.is at (found_some _ d r.at who r.what (it.1 teams)) in
          decided.written some.0 (known_stands some.0 who about r (known ∙ sym (same_caller (registry_of d) some.0 some.1 r.who)) some.2) (record { grants = teams.grants; numbers = numbers });
      unchanged = decided.unchanged;
      right = decided.right held;
    })
