-- What one caller is sent who is alone, and has no level on a package.
use Rattle.std.proofs.Common.{◌≡◌, ◌++◌, ℕ, Bool, List, [], ◌∷◌, Ok, Err, sym, ap, subst}
use Rattle.sqlite.specs.State.{State as Shown}
use Rattle.registry_names.specs.Texts.{Text}
use Rattle.registry_access.specs.declared.caller.Caller.{Caller}
use Rattle.registry_rules.specs.State.{State}
use Rattle.registry_rules.specs.declared.reply.Reply.{Reply}
use Rattle.registry_rules.specs.declared.request.Request.{Request}
use Rattle.registry_laws_history.specs.History.{after}
use Rattle.registry_laws_history.specs.Runs.{Outcome, next}
use Rattle.registry_laws_hidden.specs.Runs.{AreAlikeTo}
use Rattle.registry_laws_hidden.proofs.RunFacts.{AreOneTo, one_start, runs_are_alike}
use Rattle.registry_service.specs.Dialects.{IsDetermined}
use Rattle.registry_service.specs.Histories.{FollowAll}
use Rattle.registry_service.specs.HttpAnswers.{plain_response}
use Rattle.registry_service.specs.Turns.{Dialect, Turn, spoken}
use Rattle.registry_http.specs.Alone.{AreAnsweredAlikeTo, IsAlone, IsTheirTurn, OneIsAnsweredTheSame, RunsAreAnsweredAlike}
use Rattle.registry_http.specs.Services.{applied, exchanges_of, turns_in}
use Rattle.registry_http.specs.Unseen.{Meeting, first_left, first_log, in_both, in_first, in_second, left_by, second_left, second_log}
use Rattle.registry_http.proofs.ExchangeFacts.{have-split, left-more, their-each}
use Rattle.registry_http.proofs.UnseenFacts.{AreOneTurns, HaveFirst, HaveSecond, IsOneTurn, follow-log, have-run, same-bytes, same-told}

-- ---- the same replies are the same responses

answered-alike : (who : Caller) (p : Text) (S T : State) (rs : List Request) (os qs : List Outcome) → AreAlikeTo who p S T rs os qs → AreAnsweredAlikeTo who p S T rs os qs
answered-alike who p S T [] os qs alike = tt
answered-alike who p S T (r ∷ rs) [] qs alike = tt
answered-alike who p S T (r ∷ rs) (Err f ∷ os) qs alike = tt
answered-alike who p S T (r ∷ rs) (Ok a ∷ os) [] alike = tt
answered-alike who p S T (r ∷ rs) (Ok a ∷ os) (Err g ∷ qs) alike = tt
answered-alike who p S T (r ∷ rs) (Ok a ∷ os) (Ok b ∷ qs) alike = λ theirs one.
    let both = alike theirs one in
    (λ (closes : Bool). ap (λ (reply : Reply). plain_response (Ok reply) closes) both.0, answered-alike who p (next S r (Ok a)) (next T r (Ok b)) rs os qs both.1)

pub runs-answered_alike : RunsAreAnsweredAlike
runs-answered_alike g h p who differ nothing nothing' rs os qs first second = answered-alike who p (after g) (after h) rs os qs (runs_are_alike g h p who differ nothing nothing' rs os qs first second)

-- ---- their turns

module _ (who : Caller) (p : Text) (S T : State) (start : AreOneTo who p S T) where
  abbrev AreOneAfter : List Meeting → Type 0
  AreOneAfter ms = AreOneTo who p (first_left S ms) (second_left T ms)

  -- what is asked comes to the same, and the registries stay so
  their-turn : (ms : List Meeting) (k : ℕ) (stops : Bool) (t u : Turn) → HaveFirst S T (in_both k stops t u ∷ ms) → HaveSecond S T (in_both k stops t u ∷ ms) → AreOneAfter ms
      → IsTheirTurn who p (first_left S ms) (second_left T ms) t u → (t.exchanges ≡ u.exchanges) × AreOneAfter (in_both k stops t u ∷ ms)
  their-turn ms k stops t u first second near theirs =
      let xs = exchanges_of (turns_in (first_log ms)) in
      let ys = exchanges_of (turns_in (second_log ms)) in
      let both = their-each who p (left_by S xs) (left_by T ys) t.exchanges u.exchanges near (have-split S xs t.exchanges first).1 (have-split T ys u.exchanges second).1 theirs.1 in (
        both.0,
        subst (λ U. AreOneTo who p U (left_by T (ys ++ u.exchanges))) (sym (left-more S xs t.exchanges))
            (subst (λ U. AreOneTo who p (left_by (left_by S xs) t.exchanges) U) (sym (left-more T ys u.exchanges)) both.1),
      )

  module _ (speaks : Dialect) (determined : IsDetermined speaks) {D : Type 0} (show : D → Shown) where
    -- each is one turn, on whichever connection
    their-turns : (ms : List Meeting) (K L M N : D) → FollowAll (spoken speaks (applied show)) K (first_log ms) L → FollowAll (spoken speaks (applied show)) M (second_log ms) N
        → HaveFirst S T ms → HaveSecond S T ms → IsAlone who p S T ms → ((k : ℕ) → AreOneTurns k ms) × AreOneAfter ms
    their-turns [] K L M N follow follow' first second alone = (λ k. tt, start)
    their-turns (in_both j stops t u ∷ ms) K L M N follow follow' first second alone =
        let rest = their-turns ms K follow.0 M follow'.0 follow.1 follow'.1
        (have-split S (exchanges_of (turns_in (first_log ms))) t.exchanges first).0 (have-split T (exchanges_of (turns_in (second_log ms))) u.exchanges second).0 alone.1 in
        let turn = their-turn ms j stops t u first second rest.1 alone.0 in
        let one : IsOneTurn t u = (alone.0.0, turn.0, same-told (spoken speaks (applied show)) determined t u follow.0 L follow'.0 N _ _ follow.2 follow'.2 alone.0.0 turn.0 alone.0.2) in
        (λ k. (λ here. one, rest.0 k), turn.1)
    their-turns (in_first j stops t ∷ ms) K L M N follow follow' first second alone = absurd alone
    their-turns (in_second j stops u ∷ ms) K L M N follow follow' first second alone = absurd alone

pub one-answered_the_same : (speaks : Dialect) → IsDetermined speaks → {D : Type 0} (show : D → Shown) → OneIsAnsweredTheSame speaks show
one-answered_the_same speaks determined show M N w v g h p who ms differ nothing nothing' first second alone k =
    same-bytes speaks show M N w v g h ms first second k
    ((their-turns who p (after g) (after h) (one_start g h p who differ nothing nothing') speaks determined show ms M w.service N v.service
    (follow-log speaks show M w g (first_log ms) first) (follow-log speaks show N v h (second_log ms) second)
    (have-run speaks show M w g (first_log ms) first) (have-run speaks show N v h (second_log ms) second) alone).0 k)
