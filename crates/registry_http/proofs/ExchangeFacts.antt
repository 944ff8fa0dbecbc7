-- Two worlds, from one request of a turn to the next.
use Rattle.std.proofs.Common.{◌≡◌, ◌++◌, ◌∙◌, List, [], ◌∷◌, Ok, Err, refl, sym, ap, ap₂, subst}
use Rattle.registry_names.specs.Texts.{Text}
use Rattle.registry_access.specs.declared.caller.Caller.{Caller}
use Rattle.registry_rules.specs.Callers.{caller_of}
use Rattle.registry_rules.specs.State.{State}
use Rattle.registry_rules.specs.declared.request.Request.{Request}
use Rattle.registry_laws_history.specs.Runs.{HaveOutcomes, IsAnswer, Outcome, next}
use Rattle.registry_laws_hidden.specs.Arrivals.{StaysClose}
use Rattle.registry_laws_hidden.specs.Concerns.{IsShownAlike}
use Rattle.registry_laws_hidden.specs.Runs.{IsTheirs}
use Rattle.registry_laws_hidden.proofs.ArrivalFacts.{AreNear, answered_alike, near_both, near_first, near_second}
use Rattle.registry_laws_hidden.proofs.RunFacts.{AreOneTo, one_answer, one_next}
use Rattle.registry_service.specs.Turns.{Exchange, asked_in, exchange, outcomes_in}
use Rattle.registry_http.specs.Alone.{AreTheirs}
use Rattle.registry_http.specs.Unseen.{AreReplies, AreUnseen, IsUnseen, LeavesRest, StayClose, left_by}

-- these are the machine's answers
abbrev pub Have : State → List Exchange → Type 0
Have S es = HaveOutcomes S (asked_in es) (outcomes_in es)

-- those of a run without its last, and then these
pub have-split : (S : State) (xs es : List Exchange) → Have S (xs ++ es) → Have S xs × Have (left_by S xs) es
have-split S [] es have = (tt, have)
have-split S (x ∷ xs) es have = let rest = have-split (next S x.asked x.outcome) xs es have.1 in ((have.0, rest.0), rest.1)

pub left-more : (S : State) (xs es : List Exchange) → left_by S (xs ++ es) ≡ left_by (left_by S xs) es
left-more S [] es = refl
left-more S (x ∷ xs) es = left-more (next S x.asked x.outcome) xs es

-- the same request, with the same outcome
one-exchange : (e f : Exchange) → e.asked ≡ f.asked → e.outcome ≡ f.outcome → e ≡ f
one-exchange e f asked outcome = ap₂ exchange asked outcome

-- ---- with strangers to a package

module _ (p : Text) where
  same-outcome : (U V : State) (r : Request) (o q : Outcome) → AreNear p U V → IsAnswer U r o → IsAnswer V r q → IsUnseen p U V r o q → o ≡ q
  same-outcome U V r (Ok a) (Ok b) near answered answered' (stranger, stranger', shown, replies) = ap Ok (answered_alike p U V r (Ok a) (Ok b) near answered answered' stranger stranger' shown)
  same-outcome U V r (Ok a) (Err g) near answered answered' unseen = absurd unseen.3
  same-outcome U V r (Err f) (Ok b) near answered answered' unseen = absurd unseen.3
  same-outcome U V r (Err f) (Err g) near answered answered' unseen = absurd unseen.3

  -- the second world's answer is one to the same request
  same-request : (V : State) (e f : Exchange) → e.asked ≡ f.asked → IsAnswer V f.asked f.outcome → IsAnswer V e.asked f.outcome
  same-request V e f asked answered = subst (λ (r : Request). IsAnswer V r f.outcome) (sym asked) answered

  near-next : (U V : State) (e f : Exchange) → AreNear p U V → IsAnswer U e.asked e.outcome → IsAnswer V f.asked f.outcome → e.asked ≡ f.asked → StaysClose p U V e.asked e.outcome f.outcome
      → AreNear p (next U e.asked e.outcome) (next V f.asked f.outcome)
  near-next U V e f near answered answered' asked close =
      subst (λ (r : Request). AreNear p (next U e.asked e.outcome) (next V r f.outcome)) asked
      (near_both p U V e.asked e.outcome f.outcome near answered (same-request V e f asked answered') close)

  pub near-each : (U V : State) (es fs : List Exchange) → AreNear p U V → Have U es → Have V fs → StayClose p U V es fs → AreNear p (left_by U es) (left_by V fs)
  near-each U V [] [] near have have' close = near
  near-each U V (e ∷ es) (f ∷ fs) near have have' close =
      near-each (next U e.asked e.outcome) (next V f.asked f.outcome) es fs (near-next U V e f near have.0 have'.0 close.0 close.1) have.1 have'.1 close.2
  near-each U V [] (f ∷ fs) near have have' close = absurd close
  near-each U V (e ∷ es) [] near have have' close = absurd close

  pub near-first_each : (U V : State) (es : List Exchange) → AreNear p U V → Have U es → LeavesRest p es → AreNear p (left_by U es) V
  near-first_each U V [] near have leaves = near
  near-first_each U V (e ∷ es) near have leaves =
      near-first_each (next U e.asked e.outcome) V es (near_first p U V e.asked e.outcome near have.0 leaves.0) have.1 leaves.1

  pub near-second_each : (U V : State) (fs : List Exchange) → AreNear p U V → Have V fs → LeavesRest p fs → AreNear p U (left_by V fs)
  near-second_each U V [] near have leaves = near
  near-second_each U V (f ∷ fs) near have leaves =
      near-second_each U (next V f.asked f.outcome) fs (near_second p U V f.asked f.outcome near have.0 leaves.0) have.1 leaves.1

  -- what strangers ask comes to the same
  pub same-each : (U V : State) (es fs : List Exchange) → AreNear p U V → Have U es → Have V fs → StayClose p U V es fs → AreUnseen p U V es fs → es ≡ fs
  same-each U V [] [] near have have' close unseen = refl
  same-each U V (e ∷ es) (f ∷ fs) near have have' close unseen =
      let one = same-outcome U V e.asked e.outcome f.outcome near have.0 (same-request V e f close.0 have'.0) unseen.0 in
      let near' = near-next U V e f near have.0 have'.0 close.0 close.1 in
      ap₂ (λ (x : Exchange) (xs : List Exchange). x ∷ xs) (one-exchange e f close.0 one) (same-each (next U e.asked e.outcome) (next V f.asked f.outcome) es fs near' have.1 have'.1 close.2 unseen.1)
  same-each U V [] (f ∷ fs) near have have' close unseen = absurd close
  same-each U V (e ∷ es) [] near have have' close unseen = absurd close

-- ---- with one caller

module _ (who : Caller) (p : Text) where
  their-outcome : (U V : State) (r : Request) (o q : Outcome) → AreOneTo who p U V → IsTheirs who (caller_of U r.who) → IsShownAlike U V r p → AreReplies o q → IsAnswer U r o → IsAnswer V r q
      → (o ≡ q) × AreOneTo who p (next U r o) (next V r q)
  their-outcome U V r (Ok a) (Ok b) near theirs shown replies answered answered' = (ap Ok (answered ∙ one_answer who p U V r near theirs shown ∙ sym answered'), one_next who p U V r a b near theirs shown answered answered')
  their-outcome U V r (Ok a) (Err g) near theirs shown replies answered answered' = absurd replies
  their-outcome U V r (Err f) (Ok b) near theirs shown replies answered answered' = absurd replies
  their-outcome U V r (Err f) (Err g) near theirs shown replies answered answered' = absurd replies

  -- what they ask comes to the same, and the registries stay so
  pub their-each : (U V : State) (es fs : List Exchange) → AreOneTo who p U V → Have U es → Have V fs → AreTheirs who p U V es fs → (es ≡ fs) × AreOneTo who p (left_by U es) (left_by V fs)
  their-each U V [] [] near have have' alike = (refl, near)
  their-each U V (e ∷ es) (f ∷ fs) near have have' (asked, theirs, shown, replies, later) =
      let both = their-outcome U V e.asked e.outcome f.outcome near theirs shown replies have.0 (subst (λ (r : Request). IsAnswer V r f.outcome) (sym asked) have'.0) in
      let near' = subst (λ (r : Request). AreOneTo who p (next U e.asked e.outcome) (next V r f.outcome)) asked both.1 in
      let rest = their-each (next U e.asked e.outcome) (next V f.asked f.outcome) es fs near' have.1 have'.1 later in
      (ap₂ (λ (x : Exchange) (xs : List Exchange). x ∷ xs) (one-exchange e f asked both.0) rest.0, rest.1)
  their-each U V [] (f ∷ fs) near have have' alike = absurd alike
  their-each U V (e ∷ es) [] near have have' alike = absurd alike
