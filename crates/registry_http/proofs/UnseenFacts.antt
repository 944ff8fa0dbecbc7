-- What strangers are sent in two worlds whose turns differ in requests on a package.
use Rattle.std.proofs.Common.{◌≡◌, ◌==◌, ◌||◌, ◌++◌, ◌+◌, ◌∙◌, ℕ, suc, Bool, true, false, List, [], ◌∷◌, length, Option, Ok, Err, is_some, refl, sym, ap, ap₂, arith, subst, if◌then◌else◌}
use Rattle.std.proofs.lemmas.Bool.Decides.{nat_tests}
use Rattle.sqlite.specs.State.{State as Shown}
use Rattle.registry_names.specs.Texts.{Text}
use Rattle.registry_rules.specs.State.{State}
use Rattle.registry_laws_history.specs.History.{Entry, after}
use Rattle.registry_laws_hidden.proofs.ArrivalFacts.{AreNear, near_start}
use Rattle.registry_wire.specs.declared.wanted.Wanted.{Wanted}
use Rattle.registry_service.specs.Courses.{written}
use Rattle.registry_service.specs.Dialects.{IsDetermined}
use Rattle.registry_service.specs.Histories.{FollowAll, IsOneHistory, LogEntry, World, is_last, turns_of}
use Rattle.registry_service.specs.HttpAnswers.{Outcome}
use Rattle.registry_service.specs.Turns.{Cause, Dialect, Dialogue, Exchange, IsTurn, IsTurnFor, Turn, bad_input, no_memory, request, request_limit, response_of, spoken, end_of as turn_end}
use Rattle.registry_service.specs.declared.turning.End.{End}
use Rattle.registry_service.proofs.HistoryFacts.{one-history}
use Rattle.registry_http.specs.Services.{applied, exchanges_of, turns_in}
use Rattle.registry_http.specs.Unseen.{DifferIn, EndsAlike, IsSameTurn, IsStrangers, IsUnseenTurn, IsWorldOf, LeavesRest, Meeting, StrangersAreAnsweredTheSame, first_left, first_log, in_both, in_first, in_second, left_by, second_left, second_log}
use Rattle.registry_http.proofs.ExchangeFacts.{Have, have-split, left-more, near-each, near-first_each, near-second_each, same-each}
use Rattle.registry_http.proofs.RunningFacts.{RunsFor, log-follow_run}

same-number : (k j : ℕ) → (k == j) ≡ true → k ≡ j
same-number k j here = grind (arith, nat_tests, here)

-- ---- two turns of both worlds

-- turns that were taken for the same, with the same outcome, end their connections alike
ends-alike : {D : Type 0} (dialogue : Dialogue D) (c : Cause) (K L M N : D) (a b : Bool) (es fs : List Exchange) (o : Outcome) (e f : Option End) → a ≡ b
    → IsTurnFor dialogue c K a es o e L → IsTurnFor dialogue c M b fs o f N → e ≡ f
ends-alike dialogue (request w at) K L M N a b es fs o e f last first second = first.ends ∙ ap (λ x. turn_end o x w.closes) last ∙ sym second.ends
ends-alike dialogue (bad_input r) K L M N a b es fs o e f last first second = first.0.1 ∙ sym second.0.1
ends-alike dialogue no_memory K L M N a b es fs o e f last first second = first.0.1 ∙ sym second.0.1

-- the same cause, with what was asked, and the same end
turn-same : (t u : Turn) → t.cause ≡ u.cause → t.exchanges ≡ u.exchanges → t.outcome ≡ u.outcome → t.ended ≡ u.ended → t ≡ u
turn-same t u cause asked outcome ended = rw (cause, asked, outcome, ended) refl

-- so they are answered the same, if they asked the same with the same outcomes
pub same-response : {D : Type 0} (dialogue : Dialogue D) (t u : Turn) (K L M N : D) (a b : Bool) → t.cause ≡ u.cause → t.exchanges ≡ u.exchanges → t.outcome ≡ u.outcome → a ≡ b → IsTurn dialogue K a t L → IsTurn dialogue M b u N
    → response_of dialogue.speaks t ≡ response_of dialogue.speaks u
same-response dialogue t u K L M N a b cause asked outcome last is is' =
    let there : IsTurnFor dialogue t.cause M b u.exchanges t.outcome u.ended N =
    subst (λ o. IsTurnFor dialogue t.cause M b u.exchanges o u.ended N) (sym outcome) (subst (λ c. IsTurnFor dialogue c M b u.exchanges u.outcome u.ended N) (sym cause) is') in
    ap (response_of dialogue.speaks) (turn-same t u cause asked outcome (ends-alike dialogue t.cause K L M N a b t.exchanges u.exchanges t.outcome t.ended u.ended last is there))

-- ---- what is determined

module _ {D : Type 0} (dialogue : Dialogue D) (determined : IsDetermined dialogue.speaks) where
  same-reply : (w : Wanted) (at : ℕ) (es : List Exchange) (o q : Outcome) → dialogue.speaks.asks w at es o → dialogue.speaks.asks w at es q → EndsAlike es o q → o ≡ q
  same-reply w at [] o q first second alike = alike
  same-reply w at (e ∷ es) (Ok a) (Ok b) first second alike = ap Ok (determined w at e es a b first second)
  same-reply w at (e ∷ es) (Ok a) (Err g) first second alike = absurd alike
  same-reply w at (e ∷ es) (Err f) (Ok b) first second alike = absurd alike
  same-reply w at (e ∷ es) (Err f) (Err g) first second alike = absurd alike

  told-alike : (c : Cause) (K L M N : D) (a b : Bool) (es : List Exchange) (o q : Outcome) (e f : Option End) → IsTurnFor dialogue c K a es o e L → IsTurnFor dialogue c M b es q f N → EndsAlike es o q → o ≡ q
  told-alike (request w at) K L M N a b es o q e f first second alike = same-reply w at es o q first.answered.0 second.answered.0 alike
  told-alike (bad_input r) K L M N a b es o q e f first second alike = first.0.0 ∙ sym second.0.0
  told-alike no_memory K L M N a b es o q e f first second alike = first.0.0 ∙ sym second.0.0

  -- turns that were taken for the same, and asked the same with the same outcomes, have one outcome
  pub same-told : (t u : Turn) (K L M N : D) (a b : Bool) → IsTurn dialogue K a t L → IsTurn dialogue M b u N → t.cause ≡ u.cause → t.exchanges ≡ u.exchanges
      → EndsAlike t.exchanges t.outcome u.outcome → t.outcome ≡ u.outcome
  same-told t u K L M N a b is is' cause asked alike =
      let there : IsTurnFor dialogue t.cause M b t.exchanges u.outcome u.ended N =
      subst (λ es. IsTurnFor dialogue t.cause M b es u.outcome u.ended N) (sym asked)
      (subst (λ c. IsTurnFor dialogue c M b u.exchanges u.outcome u.ended N) (sym cause) is') in
      told-alike t.cause K L M N a b t.exchanges t.outcome u.outcome t.ended u.ended is there alike

-- ---- the turns of a connection

-- what was taken in both worlds for the same, asked the same with the same outcomes, and has one outcome
abbrev pub IsOneTurn : Turn → Turn → Type 0
IsOneTurn t u = (t.cause ≡ u.cause) × (t.exchanges ≡ u.exchanges) × (t.outcome ≡ u.outcome)

-- each turn of this connection is such
abbrev pub AreOneTurns : ℕ → List Meeting → Type 0
AreOneTurns k [] = Unit {0}
AreOneTurns k (in_both j stops t u ∷ ms) = ((k == j) ≡ true → IsOneTurn t u) × AreOneTurns k ms
AreOneTurns k (in_first j stops t ∷ ms) = ((k == j) ≡ false) × AreOneTurns k ms
AreOneTurns k (in_second j stops u ∷ ms) = ((k == j) ≡ false) × AreOneTurns k ms

-- as many turns, and the same written in a dialect
record AreSame (speaks : Dialect) (ts us : List Turn) : Type 0 where
  count : length ts ≡ length us
  bytes : written speaks ts ≡ written speaks us

lasts : (stops : Bool) (ts us : List Turn) → length ts ≡ length us → is_last stops ts ≡ is_last stops us
lasts stops ts us count = ap (λ n. stops || (n + 1 == request_limit)) count

module _ {D : Type 0} (dialogue : Dialogue D) where
  same-turns : (k : ℕ) (ms : List Meeting) (K L M N : D) → FollowAll dialogue K (first_log ms) L → FollowAll dialogue M (second_log ms) N → AreOneTurns k ms
      → AreSame dialogue.speaks (turns_of k (first_log ms)) (turns_of k (second_log ms))
  same-turns k [] K L M N follow follow' one = record { count = refl; bytes = refl }
  same-turns k (in_both j stops t u ∷ ms) K L M N follow follow' one = by (same-turns k ms K follow.0 M follow'.0 follow.1 follow'.1 one.1) (k == j) refl
    where
      by : AreSame dialogue.speaks (turns_of k (first_log ms)) (turns_of k (second_log ms)) → (b : Bool) → (k == j) ≡ b
          → AreSame dialogue.speaks (if b then t ∷ turns_of k (first_log ms) else turns_of k (first_log ms)) (if b then u ∷ turns_of k (second_log ms) else turns_of k (second_log ms))
      by rest false other = rest
      by rest true here = record {
        count = ap suc rest.count;
        bytes = ap₂ (λ x y. x ++ y) rest.bytes
            (same-response dialogue t u follow.0 L follow'.0 N (is_last stops (turns_of j (first_log ms))) (is_last stops (turns_of j (second_log ms))) (one.0 here).0 (one.0 here).1 (one.0 here).2
            (lasts stops (turns_of j (first_log ms)) (turns_of j (second_log ms)) (subst (λ i. length (turns_of i (first_log ms)) ≡ length (turns_of i (second_log ms))) (same-number k j here) rest.count)) follow.2 follow'.2);
      }
  same-turns k (in_first j stops t ∷ ms) K L M N follow follow' one =
      subst (λ b. AreSame dialogue.speaks (if b then t ∷ turns_of k (first_log ms) else turns_of k (first_log ms)) (turns_of k (second_log ms))) (sym one.0)
      (same-turns k ms K follow.0 M N follow.1 follow' one.1)
  same-turns k (in_second j stops u ∷ ms) K L M N follow follow' one =
      subst (λ b. AreSame dialogue.speaks (turns_of k (first_log ms)) (if b then u ∷ turns_of k (second_log ms) else turns_of k (second_log ms))) (sym one.0)
      (same-turns k ms K L M follow'.0 follow follow'.1 one.1)

-- ---- the registries of both worlds

module _ (S T : State) where
  abbrev pub HaveFirst : List Meeting → Type 0
  HaveFirst ms = Have S (exchanges_of (turns_in (first_log ms)))

  abbrev pub HaveSecond : List Meeting → Type 0
  HaveSecond ms = Have T (exchanges_of (turns_in (second_log ms)))

module _ (p : Text) (S T : State) (start : AreNear p S T) where
  abbrev AreNearAfter : List Meeting → Type 0
  AreNearAfter ms = AreNear p (first_left S ms) (second_left T ms)

  near-one : (ms : List Meeting) (k : ℕ) (stops : Bool) (t u : Turn) → HaveFirst S T (in_both k stops t u ∷ ms) → HaveSecond S T (in_both k stops t u ∷ ms) → AreNearAfter ms
      → IsSameTurn p (first_left S ms) (second_left T ms) t u → AreNearAfter (in_both k stops t u ∷ ms)
  near-one ms k stops t u first second near same =
      let xs = exchanges_of (turns_in (first_log ms)) in
      let ys = exchanges_of (turns_in (second_log ms)) in
      subst (λ U. AreNear p U (left_by T (ys ++ u.exchanges))) (sym (left-more S xs t.exchanges))
      (subst (λ U. AreNear p (left_by (left_by S xs) t.exchanges) U) (sym (left-more T ys u.exchanges))
      (near-each p (left_by S xs) (left_by T ys) t.exchanges u.exchanges near (have-split S xs t.exchanges first).1 (have-split T ys u.exchanges second).1 same.1))

  near-alone : (ms : List Meeting) (k : ℕ) (stops : Bool) (t : Turn) → HaveFirst S T (in_first k stops t ∷ ms) → AreNearAfter ms → LeavesRest p t.exchanges → AreNearAfter (in_first k stops t ∷ ms)
  near-alone ms k stops t first near leaves =
      let xs = exchanges_of (turns_in (first_log ms)) in
      subst (λ U. AreNear p U (second_left T ms)) (sym (left-more S xs t.exchanges))
      (near-first_each p (left_by S xs) (second_left T ms) t.exchanges near (have-split S xs t.exchanges first).1 leaves)

  near-other : (ms : List Meeting) (k : ℕ) (stops : Bool) (u : Turn) → HaveSecond S T (in_second k stops u ∷ ms) → AreNearAfter ms → LeavesRest p u.exchanges → AreNearAfter (in_second k stops u ∷ ms)
  near-other ms k stops u second near leaves =
      let ys = exchanges_of (turns_in (second_log ms)) in
      subst (λ U. AreNear p (first_left S ms) U) (sym (left-more T ys u.exchanges))
      (near-second_each p (first_left S ms) (left_by T ys) u.exchanges near (have-split T ys u.exchanges second).1 leaves)

  -- the runs without their last turn
  first-older : (ms : List Meeting) (t : Turn) → Have S (exchanges_of (turns_in (first_log ms)) ++ t.exchanges) → HaveFirst S T ms
  first-older ms t have = (have-split S (exchanges_of (turns_in (first_log ms))) t.exchanges have).0

  second-older : (ms : List Meeting) (u : Turn) → Have T (exchanges_of (turns_in (second_log ms)) ++ u.exchanges) → HaveSecond S T ms
  second-older ms u have = (have-split T (exchanges_of (turns_in (second_log ms))) u.exchanges have).0

  near-after : (ms : List Meeting) → HaveFirst S T ms → HaveSecond S T ms → DifferIn p S T ms → AreNearAfter ms
  near-after [] first second differ = start
  near-after (in_both k stops t u ∷ ms) first second differ =
      near-one ms k stops t u first second (near-after ms (first-older ms t first) (second-older ms u second) differ.1) differ.0
  near-after (in_first k stops t ∷ ms) first second differ = near-alone ms k stops t first (near-after ms (first-older ms t first) second differ.1) differ.0
  near-after (in_second k stops u ∷ ms) first second differ = near-other ms k stops u second (near-after ms first (second-older ms u second) differ.1) differ.0

  -- ---- the turns of a stranger's connection

  -- what a stranger's turn asks comes to the same in both
  stranger-asks : (ms : List Meeting) (t u : Turn) → Have S (exchanges_of (turns_in (first_log ms)) ++ t.exchanges) → Have T (exchanges_of (turns_in (second_log ms)) ++ u.exchanges) → AreNearAfter ms
      → IsSameTurn p (first_left S ms) (second_left T ms) t u → IsUnseenTurn p (first_left S ms) (second_left T ms) t u → t.exchanges ≡ u.exchanges
  stranger-asks ms t u first second near same unseen =
      let xs = exchanges_of (turns_in (first_log ms)) in
      let ys = exchanges_of (turns_in (second_log ms)) in
      same-each p (left_by S xs) (left_by T ys) t.exchanges u.exchanges near (have-split S xs t.exchanges first).1 (have-split T ys u.exchanges second).1 same.1 unseen.0

  module _ (speaks : Dialect) (determined : IsDetermined speaks) {D : Type 0} (show : D → Shown) where
    strangers-turns : (k : ℕ) (ms : List Meeting) (K L M N : D) → FollowAll (spoken speaks (applied show)) K (first_log ms) L → FollowAll (spoken speaks (applied show)) M (second_log ms) N
        → HaveFirst S T ms → HaveSecond S T ms → DifferIn p S T ms → IsStrangers k p S T ms → AreOneTurns k ms
    strangers-turns k [] K L M N follow follow' first second differ strangers = tt
    strangers-turns k (in_both j stops t u ∷ ms) K L M N follow follow' first second differ strangers =
        let have = first-older ms t first in
        let have' = second-older ms u second in (
          λ here.
              let asked = stranger-asks ms t u first second (near-after ms have have' differ.1) differ.0 (strangers.0 here) in (
                differ.0.0,
                asked,
                same-told (spoken speaks (applied show)) determined t u follow.0 L follow'.0 N _ _ follow.2 follow'.2 differ.0.0 asked (strangers.0 here).1,
              ),
          strangers-turns k ms K follow.0 M follow'.0 follow.1 follow'.1 have have' differ.1 strangers.1,
        )
    strangers-turns k (in_first j stops t ∷ ms) K L M N follow follow' first second differ strangers =
        (strangers.0, strangers-turns k ms K follow.0 M N follow.1 follow' (first-older ms t first) second differ.1 strangers.1)
    strangers-turns k (in_second j stops u ∷ ms) K L M N follow follow' first second differ strangers =
        (strangers.0, strangers-turns k ms K L M follow'.0 follow follow'.1 first (second-older ms u second) differ.1 strangers.1)

-- ---- two worlds

module _ (speaks : Dialect) {D : Type 0} (show : D → Shown) where
  history : (M : D) (w : World D) (h : List Entry) (es : List LogEntry) → IsWorldOf speaks show M w h es → IsOneHistory (spoken speaks (applied show)) M w
  history M w h es world = one-history (spoken speaks (applied show)) M w world.reached

  pub follow-log : (M : D) (w : World D) (h : List Entry) (es : List LogEntry) → IsWorldOf speaks show M w h es → FollowAll (spoken speaks (applied show)) M es w.service
  follow-log M w h es world = subst (λ x. FollowAll (spoken speaks (applied show)) M x w.service) world.log (history M w h es world).service

  -- the run of a world, from what its history left
  pub have-run : (M : D) (w : World D) (h : List Entry) (es : List LogEntry) → IsWorldOf speaks show M w h es → Have (after h) (exchanges_of (turns_in es))
  have-run M w h es world =
      let run : RunsFor (show M) (show w.service) (exchanges_of (turns_in es)) = log-follow_run speaks show M w.service es (follow-log M w h es world) in
      subst (λ U. Have U (exchanges_of (turns_in es))) world.left (run.run.ran world.needs world.clean).answers

  sent : (M : D) (w : World D) (h : List Entry) (es : List LogEntry) → IsWorldOf speaks show M w h es → (k : ℕ) → (w.transcripts k).out ≡ written speaks (turns_of k es)
  sent M w h es world k = ((history M w h es world).transcripts k).answered ∙ ap (λ x. written speaks (turns_of k x)) world.log

  -- a connection all of whose turns are such is answered the same
  pub same-bytes : (M N : D) (w v : World D) (g h : List Entry) (ms : List Meeting) → IsWorldOf speaks show M w g (first_log ms) → IsWorldOf speaks show N v h (second_log ms)
      → (k : ℕ) → AreOneTurns k ms → (w.transcripts k).out ≡ (v.transcripts k).out
  same-bytes M N w v g h ms first second k one =
      let same = same-turns (spoken speaks (applied show)) k ms M w.service N v.service (follow-log M w g (first_log ms) first) (follow-log N v h (second_log ms) second) one in
      sent M w g (first_log ms) first k ∙ same.bytes ∙ sym (sent N v h (second_log ms) second k)

  pub strangers-answered_the_same : IsDetermined speaks → StrangersAreAnsweredTheSame speaks show
  strangers-answered_the_same determined M N w v g h p ms differ first second meets k strangers =
      same-bytes M N w v g h ms first second k
      (strangers-turns p (after g) (after h) (near_start g h p differ) speaks determined show k ms M w.service N v.service (follow-log M w g (first_log ms) first) (follow-log N v h (second_log ms) second)
      (have-run M w g (first_log ms) first) (have-run N v h (second_log ms) second) meets strangers)
