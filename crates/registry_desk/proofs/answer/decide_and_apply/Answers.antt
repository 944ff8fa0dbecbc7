use Rattle.registry_desk.proofs.Words.{◌≡◌, ◌∙◌, ap, refl, sym, subst, Option, Ok, Err, IfOk, OnOk, true, List, map, Refusal, Caller, Change, change_of, Refused, Reply, all_stored, registry_of, GrantsInScope, Outcome, accepts, reply_to, AreLeftBy, Caches}
use Rattle.registry_names.specs.declared.stop.Stop.{Stop}
use Rattle.registry_desk.specs.Answering.{IsDecided}
use Rattle.registry_desk.proofs.AnswerFacts.{refused, unrefused}
use Rattle.registry_desk.proofs.GrantFacts.{made_in_scope}
use Rattle.registry_desk.proofs.InsideFacts.{does_if, does_nothing}
use Rattle.registry_desk.proofs.SettlingFacts.{accepted_settles, query_changes_nothing, refused_settles}
use Rattle.registry_desk.proofs.KeptFacts.{leaves_accepted, leaves_refused}
use Rattle.registry_desk.proofs.answer.decide_and_apply.Goals as goal

-- what follows of a reply that accepts, after which these are left
accepted : {R : Reply → Type 0} (r : Outcome) (cs : List Change) (was is_now : Caches) → IfOk r (λ given. accepts (Ok given) ≡ true) → OnOk r (AreLeftBy cs was is_now)
    → ((given : Reply) → accepts (Ok given) ≡ true → AreLeftBy cs was is_now → R given) → IfOk r R
accepted (Ok given) cs was is_now accepting left so = so given accepting left
accepted (Err fault) cs was is_now accepting left so = tt

pub returns-in-Ok-clause-answers : goal.returns-in-Ok-clause-answers
returns-in-Ok-clause-answers g c =
    let r = c.args.request.now in
    let cs = map change_of c.deref.result.now in
    let was = c.args.caches.now in
    let call = c.reply_and_apply.ensures in
    does_if c.reply_and_apply.result call.answers (accepted c.reply_and_apply.result cs was c.reply_and_apply.new.caches (call.accepts c.requires.known) call.forgets (λ given accepting left d e it. record {
      answer = λ stands sound. it.answer sound ∙ ap (λ (who : Option Caller). reply_to (registry_of d) who r.what) stands.caller ∙ sym (unrefused (registry_of d) r (c.in-Ok.ensures.makes (registry_of d) stands).0);
      settled = λ stands.
          let decided = c.in-Ok.ensures.makes (registry_of d) stands in
          it.made.made ∙ ap (λ changes. all_stored changes d) (ap (map change_of) c.deref.ensures.value ∙ decided.1) ∙ sym (accepted_settles d r decided.0);
      -- what is decided in any state grants in scope alone
      written = λ T stands written.
          let decided = c.in-Ok.ensures.makes T stands in
          record {
            grants = subst GrantsInScope (sym it.made.made) (made_in_scope T r cs d decided.0 (ap (map change_of) c.deref.ensures.value ∙ decided.1) written.grants);
            numbers = it.made.in_range written.numbers;
          };
      -- what isn't refused is accepted, so a request that isn't entered is a query, and has no changes
      unchanged = query_changes_nothing d e r cs given (λ query. ap (map change_of) (c.deref.ensures.value ∙ c.in-Ok.ensures.query query)) it.made.made accepting;
      right = λ held. leaves_accepted d e c.args.facts.now.caller r.what cs was c.reply_and_apply.new.caches given held it.made.made (λ query. ap (map change_of) (c.deref.ensures.value ∙ c.in-Ok.ensures.query query)) left it.answer;
    }))

pub returns-in-Err-Refused-clause-answers : goal.returns-in-Err-Refused-clause-answers
returns-in-Err-Refused-clause-answers g c =
    let r = c.args.request.now in
    let caches = c.args.caches.now in
    let why = c.in-Err-Refused.refusal in
    does_nothing (λ d. subst (λ (given : Refusal). IsDecided c.args.facts.now r caches caches (Refused given) d d) (sym c.in-Err-Refused.refusal-is) (record {
      answer = λ stands sound. sym (refused (registry_of d) r why ((c.decide.ensures.refused (registry_of d) stands why).1 (c.in-Err-Refused.is ∙ ap (λ (stop : Stop). Err stop) c.in-Err-Refused.field-0-is)));
      settled = λ stands. sym (refused_settles d r why ((c.decide.ensures.refused (registry_of d) stands why).1 (c.in-Err-Refused.is ∙ ap (λ (stop : Stop). Err stop) c.in-Err-Refused.field-0-is)));
      written = λ T stands written. written;
      unchanged = λ none. refl;
      right = λ held. leaves_refused d d r.what caches why refl;
    }))
