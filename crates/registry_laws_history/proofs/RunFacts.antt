-- Runs, one request at a time, and the histories that they leave.
use Rattle.std.proofs.Common.{◌≡◌, ◌≢◌, ℕ, Bool, true, false, cond, ◌&&◌, List, [], ◌∷◌, ◌++◌, refl, sym, ap, ◌∙◌, subst, true≢false, Some, None, Option, is_some, Ok, Err, IsTrue, OnOk}
use Rattle.std.proofs.lemmas.Bool.{and_parts}
use Rattle.registry_names.specs.Texts.{Text}
use Rattle.registry_names.specs.declared.refusal.Refusal.{Refusal}
use Rattle.registry_publish.specs.Form.{FormParts}
use Rattle.registry_rules.specs.Actions.{is_command}
use Rattle.registry_rules.specs.State.{State, nothing}
use Rattle.registry_rules.specs.Refusals.{refusal, refusal_for}
use Rattle.registry_rules.specs.Changes.{all_made}
use Rattle.registry_rules.specs.Effects.{effects_for}
use Rattle.registry_rules.specs.Callers.{caller_of}
use Rattle.registry_access.specs.declared.caller.Caller.{Caller}
use Rattle.registry_rules.specs.declared.reply.Reply.{Reply}
use Rattle.registry_rules.specs.declared.reply.Reply.TheVariants.{Created, Done, Count, Doc, Bytes, Refused}
use Rattle.registry_rules.specs.declared.request.Action.{Action}
use Rattle.registry_rules.specs.declared.request.Action.TheVariants.{Publish}
use Rattle.registry_rules.specs.declared.request.Credential.{Credential}
use Rattle.registry_rules.specs.declared.request.Request.{Request}
use Rattle.registry_laws_history.specs.Answers.{reply_to, unless_refused}
use Rattle.registry_laws_history.specs.Headline.{AddsAcceptedPublish, Headline, accepted_publish, accepted_publishes}
use Rattle.registry_laws_history.specs.History.{Entry, Legal, after}
use Rattle.registry_laws_history.specs.Readings.{published, published_by}
use Rattle.registry_laws_history.specs.Runs.{Outcome, accepts, enters, entered, next, grown, IsAnswer, HaveOutcomes, end_of, history, Ran}
use Rattle.registry_laws_history.specs.Says.{Says}
use Rattle.registry_rules.proofs.CallerFacts.{caller_known}
use Rattle.registry_laws_history.proofs.AccessFacts.{has_access}
use Rattle.registry_laws_history.proofs.LegalFacts.{histories_allowed, histories_sound}
use Rattle.registry_laws_history.proofs.StatusFacts.{has_statuses}
use Rattle.registry_laws_history.proofs.TagFacts.{has_tags}
use Rattle.registry_laws_history.proofs.VersionFacts.{has_versions, has_records}

-- ---- a run goes on by one request

pub answers_push : (S : State) (rs : List Request) (os : List Outcome) (r : Request) (o : Outcome) → HaveOutcomes S rs os → IsAnswer (end_of S rs os) r o → HaveOutcomes S (rs ++ r ∷ []) (os ++ o ∷ [])
answers_push S [] [] r o before answered = (answered, tt)
answers_push S (q ∷ rs) (p ∷ os) r o before answered = (before.0, answers_push (next S q p) rs os r o before.1 answered)
answers_push S [] (p ∷ os) r o before answered = absurd before
answers_push S (q ∷ rs) [] r o before answered = absurd before

pub end_push : (S : State) (rs : List Request) (os : List Outcome) (r : Request) (o : Outcome) → HaveOutcomes S rs os → end_of S (rs ++ r ∷ []) (os ++ o ∷ []) ≡ next (end_of S rs os) r o
end_push S [] [] r o before = refl
end_push S (q ∷ rs) (p ∷ os) r o before = end_push (next S q p) rs os r o before.1
end_push S [] (p ∷ os) r o before = absurd before
end_push S (q ∷ rs) [] r o before = absurd before

-- a fault says nothing of the state, and a reply comes from a registry that was open
answer_on : (S T : State) (r : Request) (o : Outcome) (was : Bool) → (IsTrue was → T ≡ S) → OnOk o (IsTrue was) → IsAnswer T r o → IsAnswer S r o
answer_on S T r (Ok reply) was same open_before answered = subst (λ S. IsAnswer S r (Ok reply)) (same open_before) answered
answer_on S T r (Err fault) was same open_before answered = tt

-- one more request, and one more outcome
pub ran_push : (S T U : State) (was is_open : Bool) (rs : List Request) (os : List Outcome) (r : Request) (o : Outcome)
    → Ran S rs os was T → IsAnswer T r o → OnOk o (IsTrue was) → (IsTrue is_open → IsTrue was) → (IsTrue is_open → U ≡ next T r o)
    → Ran S (rs ++ r ∷ []) (os ++ o ∷ []) is_open U
ran_push S T U was is_open rs os r o ran answered served stays steps = record {
  answers = answers_push S rs os r o ran.answers (answer_on (end_of S rs os) T r o was ran.left served answered);
  left = λ still. steps still ∙ ap (λ S. next S r o) (ran.left (stays still)) ∙ sym (end_push S rs os r o ran.answers);
}

pub ran_none : (S : State) (is_open : Bool) → Ran S [] [] is_open S
ran_none S is_open = record { answers = tt; left = λ still. refl }

-- ---- the histories that runs leave

-- what is accepted is refused by nothing
not_refused : (why : Option Refusal) (else_reply reply : Reply) → reply ≡ unless_refused why else_reply → accepts (Ok reply) ≡ true → why ≡ None
not_refused None else_reply reply e accepted = refl
not_refused (Some why) else_reply reply e accepted = absurd (true≢false (sym accepted ∙ ap (λ (r : Reply). accepts (Ok r)) e))

pub accepted : (S : State) (r : Request) (o : Outcome) → IsAnswer S r o → enters r o ≡ true → refusal S r ≡ None
accepted S r (Ok reply) answered e = not_refused _ _ reply answered (and_parts (is_command r.what) _ e).1
accepted S r (Err fault) answered e = absurd (true≢false (sym (and_parts (is_command r.what) _ e).1))

-- what is refused to nobody is asked by somebody
somebody : (S : State) (now : ℕ) (who : Option Caller) (what : Action) → refusal_for S now who what ≡ None → is_some who ≡ true
somebody S now None what e = cc
somebody S now (Some who) what e = refl

grown_by : (h : List Entry) (r : Request) (who : Option Caller) (b : Bool) → Legal h → caller_of (after h) r.who ≡ who
    → (b ≡ true → (is_command r.what ≡ true) × (refusal_for (after h) r.at who r.what ≡ None))
    → Legal (cond b (entered who r h) h) × (cond b (all_made (after h) (effects_for (after h) r.at who r.what)) (after h) ≡ after (cond b (entered who r h) h))
grown_by h r (Some who) true legal is allowed = (((allowed refl).0, (allowed refl).1, caller_known (after h) r.who who (histories_sound h legal) is, legal), refl)
grown_by h r None true legal is allowed = absurd (true≢false (sym (somebody (after h) r.at None r.what (allowed refl).1)))
grown_by h r who false legal is allowed = (legal, refl)

pub legal_grown : (h : List Entry) (r : Request) (o : Outcome) → Legal h → IsAnswer (after h) r o → Legal (grown h (after h) r o) × (next (after h) r o ≡ after (grown h (after h) r o))
legal_grown h r o legal answered =
    grown_by h r (caller_of (after h) r.who) (enters r o) legal refl (λ e. ((and_parts (is_command r.what) _ e).0, accepted (after h) r o answered e))

-- from this history and the state that it left, the outcomes leave a legal history and what it
-- leaves
abbrev Grows : List Entry → List Request → List Outcome → State → Type 0
Grows h rs os S = Legal (history h S rs os) × (end_of S rs os ≡ after (history h S rs os))

pub legal_history : (h : List Entry) (rs : List Request) (os : List Outcome) → Legal h → HaveOutcomes (after h) rs os → Grows h rs os (after h)
legal_history h [] [] legal answered = (legal, refl)
legal_history h (r ∷ rs) (o ∷ os) legal answered =
    let grows = legal_grown h r o legal answered.0 in
    subst (Grows (grown h (after h) r o) rs os) (sym grows.1)
    (legal_history (grown h (after h) r o) rs os grows.0 (subst (λ S. HaveOutcomes S rs os) grows.1 answered.1))
legal_history h [] (o ∷ os) legal answered = absurd answered
legal_history h (r ∷ rs) [] legal answered = absurd answered

pub history_says : (h : List Entry) → Legal h → Says h (after h)
history_says h legal = record {
  legal = legal;
  left = refl;
  versions = has_versions h legal;
  records = has_records h;
  tags = has_tags h legal;
  statuses = has_statuses h legal;
  access = has_access h legal;
  sound = histories_sound h legal;
  allowed = histories_allowed h legal;
}

says : (h : List Entry) (S : State) → Legal h → S ≡ after h → Says h S
says h S legal left = subst (Says h) (sym left) (history_says h legal)

pub apply_says : (h : List Entry) (S T : State) (r : Request) (o : Outcome) → IsAnswer S r o → T ≡ next S r o → Legal h → S ≡ after h → Says (grown h S r o) T
apply_says h S T r o answered steps legal left =
    subst (λ S. IsAnswer S r o → T ≡ next S r o → Says (grown h S r o) T) (sym left)
    (λ told is. let grows = legal_grown h r o legal told in says (grown h (after h) r o) T grows.0 (is ∙ grows.1)) answered steps

pub run_says : (h : List Entry) (S : State) (rs : List Request) (os : List Outcome) (opened : Bool) (T : State) → Ran S rs os opened T → IsTrue opened → Legal h → S ≡ after h
    → Says (history h S rs os) T
run_says h S rs os opened T ran still legal left =
    subst (λ S. HaveOutcomes S rs os → T ≡ end_of S rs os → Says (history h S rs os) T) (sym left)
    (λ told is. let ends = legal_history h rs os legal told in says (history h (after h) rs os) T ends.0 (is ∙ ends.1)) ran.answers (ran.left still)

-- ---- each accepted publish publishes one version

-- a publish is answered nothing else, whoever asks
not_done : (S : State) (f : FormParts) (who : Option Caller) (why : Option Refusal) → Done ≢ unless_refused why (reply_to S who (Publish f))
not_done S f None None e = cc
not_done S f (Some who) None e = cc
not_done S f who (Some why) e = cc

no_count : (S : State) (f : FormParts) (who : Option Caller) (why : Option Refusal) (n : ℕ) → Count n ≢ unless_refused why (reply_to S who (Publish f))
no_count S f None None n e = cc
no_count S f (Some who) None n e = cc
no_count S f who (Some why) n e = cc

no_document : (S : State) (f : FormParts) (who : Option Caller) (why : Option Refusal) (t : Text) → Doc t ≢ unless_refused why (reply_to S who (Publish f))
no_document S f None None t e = cc
no_document S f (Some who) None t e = cc
no_document S f who (Some why) t e = cc

no_bytes : (S : State) (f : FormParts) (who : Option Caller) (why : Option Refusal) (b : List ℕ) → Bytes b ≢ unless_refused why (reply_to S who (Publish f))
no_bytes S f None None b e = cc
no_bytes S f (Some who) None b e = cc
no_bytes S f who (Some why) b e = cc

-- an entry that publishes nothing leaves the versions that were published
unpublishing : (h : List Entry) (r : Request) (who : Option Caller) (b : Bool) → published_by r.what (published h) ≡ published h → published (cond b (entered who r h) h) ≡ published h
unpublishing h r (Some who) true same = same
unpublishing h r None true same = refl
unpublishing h r who false same = refl

-- one that publishes adds its version
publishing : (h : List Entry) (r : Request) (who : Option Caller) → is_some who ≡ true → published (entered who r h) ≡ published_by r.what (published h)
publishing h r (Some who) known = refl
publishing h r None known = absurd (true≢false (sym known))

one_grown : (h : List Entry) (S : State) (now : ℕ) (who : Credential) (c : Action) (o : Outcome)
    → IsAnswer S (record { at = now; who = who; what = c }) o
    → published (grown h S (record { at = now; who = who; what = c }) o) ≡ accepted_publish c o (published h)
one_grown h S now who (Publish f) (Ok Created) answered =
    let r : Request = record { at = now; who = who; what = Publish f } in
    let known = somebody S now (caller_of S who) (Publish f) (accepted S r (Ok Created) answered refl) in
    publishing h r (caller_of S who) known
one_grown h S now who (Publish f) (Ok Done) answered = absurd (not_done S f (caller_of S who) _ answered)
one_grown h S now who (Publish f) (Ok (Count n)) answered = absurd (no_count S f (caller_of S who) _ n answered)
one_grown h S now who (Publish f) (Ok (Doc t)) answered = absurd (no_document S f (caller_of S who) _ t answered)
one_grown h S now who (Publish f) (Ok (Bytes b)) answered = absurd (no_bytes S f (caller_of S who) _ b answered)
one_grown h S now who (Publish f) (Ok (Refused why)) answered = refl
one_grown h S now who (Publish f) (Err fault) answered = refl
one_grown h S now who c o answered = unpublishing h (record { at = now; who = who; what = c }) (caller_of S who) (is_command c && accepts o) refl

pub adds_accepted_publish : AddsAcceptedPublish
adds_accepted_publish h S r o answered = one_grown h S r.at r.who r.what o answered

all_grown : (h : List Entry) (S : State) (rs : List Request) (os : List Outcome) → HaveOutcomes S rs os → published (history h S rs os) ≡ accepted_publishes (published h) rs os
all_grown h S [] [] answered = refl
all_grown h S (r ∷ rs) (o ∷ os) answered =
    all_grown (grown h S r o) (next S r o) rs os answered.1
    ∙ ap (λ ks. accepted_publishes ks rs os) (adds_accepted_publish h S r o answered.0)
all_grown h S [] (o ∷ os) answered = absurd answered
all_grown h S (r ∷ rs) [] answered = absurd answered

pub headline_of : (rs : List Request) (os : List Outcome) (opened : Bool) (T : State) → Ran nothing rs os opened T → IsTrue opened → Headline rs os T
headline_of rs os opened T ran still = record {
  answers = ran.answers;
  says = run_says [] nothing rs os opened T ran still tt refl;
  publishes = all_grown [] nothing rs os ran.answers;
}

pub headline_from : (S : State) (rs : List Request) (os : List Outcome) (opened : Bool) (T : State) → S ≡ nothing → Ran S rs os opened T → IsTrue opened → Headline rs os T
headline_from S rs os opened T empty ran = headline_of rs os opened T (subst (λ S. Ran S rs os opened T) empty ran)
