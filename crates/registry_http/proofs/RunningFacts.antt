-- Turns are runs.
use Rattle.std.proofs.Common.{◌≡◌, ◌++◌, ◌∷◌, [], List, Option, Bool, refl, sym, ap, subst, append-nil, append_assoc}
use Rattle.sqlite.specs.State.{State as Shown}
use Rattle.registry_rules.specs.declared.request.Request.{Request}
use Rattle.registry_laws_history.specs.Runs.{Outcome}
use Rattle.registry_desk.specs.Promises.{IsOneRun}
use Rattle.registry_desk.proofs.StoredFacts.{RunsTo, has_run_more, has_run_none}
use Rattle.registry_service.specs.Courses.{Follow}
use Rattle.registry_service.specs.Histories.{LogEntry, FollowAll}
use Rattle.registry_service.specs.Turns.{AnswersEach, Cause, Dialect, Exchange, IsTurnFor, Turn, asked_in, bad_input, no_memory, outcomes_in, request, spoken}
use Rattle.registry_service.specs.declared.turning.End.{End}
use Rattle.registry_http.specs.Services.{AskAll, LogRuns, TurnsRun, applied, exchanges_of, turns_in}

-- these exchanges are a run, which may end in the middle of requests that share a commit
abbrev pub RunsFor : Shown → Shown → List Exchange → Type 0
RunsFor old new es = RunsTo old new (asked_in es) (outcomes_in es)

-- what is asked after exchanges, and what it comes to
pub asked-append : (xs es : List Exchange) → asked_in (xs ++ es) ≡ asked_in xs ++ asked_in es
asked-append [] es = refl
asked-append (x ∷ xs) es = ap (λ (rs : List Request). x.asked ∷ rs) (asked-append xs es)

pub outcomes-append : (xs es : List Exchange) → outcomes_in (xs ++ es) ≡ outcomes_in xs ++ outcomes_in es
outcomes-append [] es = refl
outcomes-append (x ∷ xs) es = ap (λ (os : List Outcome). x.outcome ∷ os) (outcomes-append xs es)

module _ {D : Type 0} (show : D → Shown) where
  -- all that is asked in a turn goes on with a run
  pub each-run-on : (M K N : D) (rs : List Request) (os : List Outcome) (es : List Exchange) → RunsTo (show M) (show K) rs os → AnswersEach (applied show) K es N
      → RunsTo (show M) (show N) (rs ++ asked_in es) (os ++ outcomes_in es)
  each-run-on M K N rs os [] run same =
      subst (λ (rs : List Request). RunsTo (show M) (show N) rs (os ++ [])) (sym (append-nil rs))
      (subst (λ (os : List Outcome). RunsTo (show M) (show N) rs os) (sym (append-nil os))
      (subst (λ (N : D). RunsTo (show M) (show N) rs os) (sym same) run))
  each-run-on M K N rs os (e ∷ es) run (L, first, rest) =
      let more = has_run_more (show M) (show K) (show L) rs os e.asked e.outcome run first in
      let all = each-run-on M L N (rs ++ e.asked ∷ []) (os ++ e.outcome ∷ []) es more rest in
      subst (λ (rs : List Request). RunsTo (show M) (show N) rs (os ++ e.outcome ∷ outcomes_in es)) (append_assoc rs (e.asked ∷ []) (asked_in es))
      (subst (λ (os : List Outcome). RunsTo (show M) (show N) ((rs ++ e.asked ∷ []) ++ asked_in es) os) (append_assoc os (e.outcome ∷ []) (outcomes_in es)) all)

  each-run : (M K N : D) (xs es : List Exchange) → RunsFor (show M) (show K) xs → AnswersEach (applied show) K es N → RunsFor (show M) (show N) (xs ++ es)
  each-run M K N xs es run asks =
      subst (λ (rs : List Request). RunsTo (show M) (show N) rs (outcomes_in (xs ++ es))) (sym (asked-append xs es))
      (subst (λ (os : List Outcome). RunsTo (show M) (show N) (asked_in xs ++ asked_in es) os) (sym (outcomes-append xs es))
      (each-run-on M K N (asked_in xs) (outcomes_in xs) es run asks))

module _ (speaks : Dialect) {D : Type 0} (show : D → Shown) where
  -- where nothing is asked, it stays the same run
  none-run : (M K N : D) (xs es : List Exchange) → RunsFor (show M) (show K) xs → N ≡ K → es ≡ [] → RunsFor (show M) (show N) (xs ++ es)
  none-run M K N xs es run same none = subst (λ (es : List Exchange). RunsFor (show M) (show N) (xs ++ es)) (sym none) (each-run show M K N xs [] run same)

  turn-run : (M K N : D) (xs : List Exchange) (c : Cause) (last : Bool) (es : List Exchange) (o : Outcome) (ended : Option End) → RunsFor (show M) (show K) xs
      → IsTurnFor (spoken speaks (applied show)) c K last es o ended N → RunsFor (show M) (show N) (xs ++ es)
  turn-run M K N xs (request w at) last es o ended run turn = each-run show M K N xs es run turn.answered.1
  turn-run M K N xs (bad_input r) last es o ended run turn = none-run M K N xs es run turn.1 turn.2
  turn-run M K N xs no_memory last es o ended run turn = none-run M K N xs es run turn.1 turn.2

  no-turns : (M N : D) → N ≡ M → RunsFor (show M) (show N) []
  no-turns M N same = subst (λ (N : D). RunsFor (show M) (show N) []) (sym same) (has_run_none (show M))

  follow-run : (M N : D) (ts : List Turn) → Follow (spoken speaks (applied show)) M ts N → RunsFor (show M) (show N) (exchanges_of ts)
  follow-run M N [] same = no-turns M N same
  follow-run M N (t ∷ ts) follow = turn-run M follow.0 N (exchanges_of ts) t.cause _ t.exchanges t.outcome t.ended (follow-run M follow.0 ts follow.1) follow.2

  -- all turns of a list are a run
  pub log-follow_run : (M N : D) (log : List LogEntry) → FollowAll (spoken speaks (applied show)) M log N → RunsFor (show M) (show N) (exchanges_of (turns_in log))
  log-follow_run M N [] same = no-turns M N same
  log-follow_run M N (e ∷ log) follow =
      turn-run M follow.0 N (exchanges_of (turns_in log)) e.turn.cause _ e.turn.exchanges e.turn.outcome e.turn.ended (log-follow_run M follow.0 log follow.1) follow.2

one-run : (old new : Shown) (ts : List Turn) → RunsFor old new (exchanges_of ts) → IsOneRun old new (AskAll ts)
one-run old new ts run = record {
  requests = asked_in (exchanges_of ts);
  outcomes = outcomes_in (exchanges_of ts);
  asked = (refl, refl);
  run = run.run;
}

pub turns-run : (speaks : Dialect) {D : Type 0} (show : D → Shown) → TurnsRun speaks show
turns-run speaks show M N ts follow = one-run (show M) (show N) ts (follow-run speaks show M N ts follow)

pub log-run : (speaks : Dialect) {D : Type 0} (show : D → Shown) → LogRuns speaks show
log-run speaks show M N log follow = one-run (show M) (show N) (turns_in log) (log-follow_run speaks show M N log follow)
