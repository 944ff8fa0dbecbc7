-- What requests leave of two registries that agree in all but a package.
use Rattle.std.proofs.Common.{◌≡◌, ℕ, Bool, true, false, not, ◌&&◌, ◌||◌, refl, sym, ap, ◌∙◌, subst, true≢false, Some, None, Ok, Err, Option, List, is_none, if◌then◌else◌}
use Rattle.registry_names.specs.Texts.{Text}
use Rattle.registry_names.specs.declared.refusal.Refusal.{Refusal}
use Rattle.registry_names.specs.declared.stop.Fault.{Fault}
use Rattle.registry_access.specs.declared.caller.Caller.{Caller}
use Rattle.registry_rules.specs.Actions.{is_command, names_package}
use Rattle.registry_rules.specs.Callers.{caller_of}
use Rattle.registry_rules.specs.Changes.{all_made}
use Rattle.registry_rules.specs.Effects.{effects_for, step, step_by}
use Rattle.registry_rules.specs.Refusals.{refusal, refusal_by, refusal_for}
use Rattle.registry_rules.specs.State.{State}
use Rattle.registry_rules.specs.declared.reply.Reply.{Reply}
use Rattle.registry_rules.specs.declared.request.Action.{Action}
use Rattle.registry_rules.specs.declared.request.Action.TheVariants.{UserAdd}
use Rattle.registry_rules.specs.declared.request.Credential.{Credential}
use Rattle.registry_rules.specs.declared.request.Request.{Request}
use Rattle.registry_laws_history.specs.Answers.{answer, reply, reply_to, unless_refused}
use Rattle.registry_laws_history.specs.History.{Entry, Legal, after}
use Rattle.registry_laws_history.specs.Runs.{IsAnswer, Outcome, accepts, enters, grown, next}
use Rattle.registry_laws_history.proofs.RunFacts.{legal_grown}
use Rattle.registry_laws_hidden.specs.Arrivals.{leaves_the_rest}
use Rattle.registry_laws_hidden.specs.Concerns.{IsShownAlike, is_held, is_kept_by, is_listed, is_shown, is_taken, keeps_from, shows, shows_to}
use Rattle.registry_laws_hidden.specs.Laws.{RestsAreAlike}
use Rattle.registry_laws_hidden.specs.Levels.{IsStranger}
use Rattle.registry_laws_hidden.specs.Runs.{DifferInPackage}
use Rattle.registry_laws_hidden.specs.Without.{state_without}
use Rattle.registry_laws_hidden.proofs.AcceptedFacts.{unconcerned}
use Rattle.registry_laws_hidden.proofs.KeptFacts.{refused_alike_in}
use Rattle.registry_laws_hidden.proofs.NamedFacts.{named_leave_the_rest}
use Rattle.registry_laws_hidden.proofs.OtherFacts.{others_make_the_same}
use Rattle.registry_laws_hidden.proofs.RestFacts.{Rests, histories_rest}
use Rattle.registry_laws_hidden.proofs.Subjects.{concerns}
use Rattle.registry_laws_hidden.proofs.UnheardFacts.{replies_are_alike, same_caller, shown, unheard, without_twice}
use Rattle.registry_laws_hidden.proofs.UntouchedFacts.{untouched_leave_the_rest}

-- ---- a state that a legal history left

pub record IsLeft (S : State) : Type 0 where
  pub history : List Entry
  pub legal : Legal history
  pub left : S ≡ after history

pub left_rests : (S : State) → IsLeft S → Rests S
left_rests S is = subst Rests (sym is.left) (histories_rest is.history is.legal)

pub left_next : (S : State) (r : Request) (o : Outcome) → IsLeft S → IsAnswer S r o → IsLeft (next S r o)
left_next S r o is answered =
    let grows = legal_grown is.history r o is.legal (subst (λ U. IsAnswer U r o) is.left answered) in
    record { history = grown is.history (after is.history) r o; legal = grows.0; left = ap (λ U. next U r o) is.left ∙ grows.1 }

-- ---- a request becomes an entry exactly where it is a command that nothing refuses

accepted_reply : (S : State) (who : Caller) (what : Action) → accepts (Ok (reply S who what)) ≡ true
accepted_reply S who (UserAdd u) = refl
accepted_reply S who _ = refl

accepted_by : (S : State) (now : ℕ) (o : Option Caller) (what : Action) → accepts (Ok (unless_refused (refusal_for S now o what) (reply_to S o what))) ≡ is_none (refusal_for S now o what)
accepted_by S now None what = refl
accepted_by S now (Some who) what = by_why (refusal_by S now who what)
  where
    by_why : (why : Option Refusal) → accepts (Ok (unless_refused why (reply S who what))) ≡ is_none why
    by_why None = accepted_reply S who what
    by_why (Some refused) = refl

pub enters_is : (S : State) (r : Request) (a : Reply) → a ≡ answer S r → enters r (Ok a) ≡ (is_command r.what && is_none (refusal S r))
enters_is S r a answered = ap (λ x. is_command r.what && accepts (Ok x)) answered ∙ ap (λ b. is_command r.what && b) (accepted_by S r.at (caller_of S r.who) r.what)

-- ---- what is left without the package

unentered : (r : Request) (o : Outcome) → is_command r.what ≡ false → enters r o ≡ false
unentered r o query = ap (λ b. b && accepts o) query

stays : (S : State) (p : Text) (r : Request) (o : Outcome) → enters r o ≡ false → state_without (next S r o) p ≡ state_without S p
stays S p r o refused = ap (λ b. state_without (if b then step S r else S) p) refused

named_step : (S : State) (p : Text) (r : Request) → names_package r.what p ≡ true → state_without (step S r) p ≡ state_without S p
named_step S p r named = by (caller_of S r.who)
  where
    by : (o : Option Caller) → state_without (all_made S (effects_for S r.at o r.what)) p ≡ state_without S p
    by None = refl
    by (Some who) = named_leave_the_rest S r.at who r.what p named

named_next : (S : State) (p : Text) (r : Request) (o : Outcome) → names_package r.what p ≡ true → state_without (next S r o) p ≡ state_without S p
named_next S p r o named = by (enters r o)
  where
    by : (b : Bool) → state_without (if b then step S r else S) p ≡ state_without S p
    by true = named_step S p r named
    by false = refl

-- what names the package, or becomes no entry, leaves it as it was
pub rest_stays : (S : State) (p : Text) (r : Request) (o : Outcome) → leaves_the_rest r o p ≡ true → state_without (next S r o) p ≡ state_without S p
rest_stays S p r o leaves = by (names_package r.what p) (enters r o) refl refl leaves
  where
    by : (b c : Bool) → names_package r.what p ≡ b → enters r o ≡ c → (b || not c) ≡ true → state_without (next S r o) p ≡ state_without S p
    by true c named entered leaves = named_next S p r o named
    by false false named entered leaves = stays S p r o entered
    by false true named entered leaves = absurd (true≢false (sym leaves))

-- so does a fault
pub fault_leaves : (r : Request) (f : Fault) (p : Text) → leaves_the_rest r (Err f) p ≡ true
fault_leaves r f p = by (names_package r.what p) (is_command r.what)
  where
    by : (b c : Bool) → (b || not (c && false)) ≡ true
    by true c = refl
    by false true = refl
    by false false = refl

module _ (S T : State) (p : Text) (same : state_without S p ≡ state_without T p) where
  pub same_callers : (who : Credential) → caller_of S who ≡ caller_of T who
  same_callers who = sym (same_caller S p who) ∙ ap (λ U. caller_of U who) same ∙ same_caller T p who

  steps_by : (now : ℕ) (who : Caller) (what : Action) (b : Bool) → names_package what p ≡ b → state_without (step_by S now who what) p ≡ state_without (step_by T now who what) p
  steps_by now who what true named = named_leave_the_rest S now who what p named ∙ same ∙ sym (named_leave_the_rest T now who what p named)
  steps_by now who what false other = sym (others_make_the_same S now who what p other) ∙ ap (λ U. step_by U now who what) same ∙ others_make_the_same T now who what p other

  steps_alike : (r : Request) → state_without (step S r) p ≡ state_without (step T r) p
  steps_alike r = by (caller_of S r.who) ∙ ap (λ o. state_without (all_made T (effects_for T r.at o r.what)) p) (same_callers r.who)
    where
      by : (o : Option Caller) → state_without (all_made S (effects_for S r.at o r.what)) p ≡ state_without (all_made T (effects_for T r.at o r.what)) p
      by None = same
      by (Some who) = steps_by r.at who r.what (names_package r.what p) refl

  pub both_next : (r : Request) (o q : Outcome) → enters r o ≡ enters r q → state_without (next S r o) p ≡ state_without (next T r q) p
  both_next r o q one = ap (λ b. state_without (if b then step S r else S) p) one ∙ by (enters r q)
    where
      by : (b : Bool) → state_without (if b then step S r else S) p ≡ state_without (if b then step T r else T) p
      by true = steps_alike r
      by false = same

  -- the same of these is refused, except what the package alone keeps in one of them
  refused_same : (r : Request) → concerns r.what p ≡ false → is_held S r p ≡ is_held T r p → refusal S r ≡ refusal T r
  refused_same r other one =
      by (caller_of S r.who) (one ∙ ap (λ o. keeps_from T r.at o r.what p) (sym (same_callers r.who))) ∙ ap (λ o. refusal_for T r.at o r.what) (same_callers r.who)
    where
      by : (o : Option Caller) → keeps_from S r.at o r.what p ≡ keeps_from T r.at o r.what p → refusal_for S r.at o r.what ≡ refusal_for T r.at o r.what
      by None held = refl
      by (Some who) held = refused_alike_in S T p same r.at who r.what other held

  -- after a request of anybody they still agree, except where the package alone keeps it from being
  -- done in one of them
  pub next_alike : (r : Request) (a b : Reply) → a ≡ answer S r → b ≡ answer T r → is_held S r p ≡ is_held T r p → state_without (next S r (Ok a)) p ≡ state_without (next T r (Ok b)) p
  next_alike r a b answered answered' held = by (names_package r.what p) (is_command r.what) refl refl
    where
      by : (b' c : Bool) → names_package r.what p ≡ b' → is_command r.what ≡ c → state_without (next S r (Ok a)) p ≡ state_without (next T r (Ok b)) p
      by true c named command = named_next S p r (Ok a) named ∙ same ∙ sym (named_next T p r (Ok b) named)
      by false false other query = stays S p r (Ok a) (unentered r (Ok a) query) ∙ same ∙ sym (stays T p r (Ok b) (unentered r (Ok b) query))
      by false true other command =
          both_next r (Ok a) (Ok b) (enters_is S r a answered
          ∙ ap (λ x. is_command r.what && is_none x) (refused_same r (unconcerned r.what p command other) held)
          ∙ sym (enters_is T r b answered'))

  -- ---- what is answered to one without a level on the package in both

  module _ (rests : Rests S) (rests' : Rests T) (r : Request) (stranger : IsStranger S r.who p) (stranger' : IsStranger T r.who p) where
    answers_as : (b : Bool) → IsShownAlike S T r p → is_shown S r p ≡ b → is_shown T r p ≡ b → answer S r ≡ answer T r
    answers_as true one here there = shown S p rests r stranger one.first here ∙ sym (shown T p rests' r stranger' one.second there)
    answers_as false one here there = unheard S p rests r stranger here ∙ ap (λ U. answer U r) same ∙ sym (unheard T p rests' r stranger' there)

    -- the same, where the request shows the package in both or in neither
    pub answers_alike : IsShownAlike S T r p → answer S r ≡ answer T r
    answers_alike one = answers_as (is_shown S r p) one refl (sym one.shown)

-- ---- what the package alone keeps from being done shows it

held_kept : (S : State) (now : ℕ) (who : Caller) (what : Action) (p : Text) → shows S now who what p ≡ false → is_kept_by S now who what p ≡ false
held_kept S now who what p hides = by (is_kept_by S now who what p) (is_taken S who what p || is_listed S who what p) hides
  where
    by : (a b : Bool) → (a || b) ≡ false → a ≡ false
    by true b e = absurd (true≢false e)
    by false b e = refl

pub held_shown : (S : State) (r : Request) (p : Text) → is_shown S r p ≡ false → is_held S r p ≡ false
held_shown S r p hides = by (caller_of S r.who) hides
  where
    by : (o : Option Caller) → shows_to S r.at o r.what p ≡ false → keeps_from S r.at o r.what p ≡ false
    by None e = refl
    by (Some who) e = held_kept S r.at who r.what p e

-- ---- of one request

pub rests_are_alike : RestsAreAlike
rests_are_alike h p r legal stranger hides =
    let S = after h in
    both_next S (state_without S p) p (sym (without_twice S p)) r (Ok (answer S r)) (Ok (answer (state_without S p) r)) (ap (λ x. enters r (Ok x)) (replies_are_alike h p r legal stranger hides))

-- ---- of histories that differ in what named the package

pub same_rest : (g h : List Entry) (p : Text) → DifferInPackage g h p → state_without (after g) p ≡ state_without (after h) p
same_rest g h p differ = sym (untouched_leave_the_rest g p differ.legal).1 ∙ ap after differ.untouched ∙ (untouched_leave_the_rest h p differ.other_legal).1

pub left_start : (h : List Entry) → Legal h → IsLeft (after h)
left_start h legal = record { history = h; legal = legal; left = refl }
