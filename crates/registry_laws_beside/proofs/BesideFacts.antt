-- Turns of connections and of commands are runs.
use Rattle.std.proofs.Common.{◌≡◌, ◌++◌, ◌∷◌, ◌∙◌, [], List, Option, Bool, inl, inr, refl, sym, ap, subst}
use Rattle.std.specs.Prelude.{unwrap_or}
use Rattle.sqlite.specs.State.{State as Shown}
use Rattle.registry_rules.specs.declared.request.Request.{Request}
use Rattle.registry_laws_history.specs.Runs.{Outcome}
use Rattle.registry_desk.specs.Promises.{IsOneRun}
use Rattle.registry_desk.proofs.StoredFacts.{RunsTo, has_run_none}
use Rattle.registry_service.specs.Histories.{FollowAll, LogEntry}
use Rattle.registry_service.specs.Turns.{Answering, AnswersEach, Cause, Dialect, Exchange, IsTurnFor, Turn, asked_in, bad_input, exchange, no_memory, outcomes_in, request, spoken}
use Rattle.registry_service.specs.declared.turning.End.{End}
use Rattle.registry_http.specs.Services.{applied, turns_in}
use Rattle.registry_http.proofs.RunningFacts.{each-run-on}
use Rattle.registry_cli.specs.Lines.{line_of}
use Rattle.registry_guests.specs.Beside.{Beside, GuestTurn, GuestsLead, GuestsTurn, beside, beside_guests}
use Rattle.registry_guests.specs.GuestTurns.{IsGuestTurn}
use Rattle.registry_guests.specs.Outputs.{prints}
use Rattle.registry_laws_beside.specs.Beside.{AnyTurn, AskAll, AsksFor, CommandAsksAll, LogRunsBeside, TakeTurns, TakesTurn, TurnsRunBeside, of_connection, of_connections, of_guest, of_guests}

-- ---- one list of turns

-- turns that are those of connections that are known, and those of commands that the service has
record Include (speaks : Dialect) {D : Type 0} (answers : Answering D) (M : D) (known : List Turn) (N : Beside D) : Type 0 where
  turns : List AnyTurn
  same : of_connections turns ≡ known
  guests : of_guests turns ≡ N.turns
  take : TakeTurns speaks answers M turns N.service

module _ (speaks : Dialect) {D : Type 0} (answers : Answering D) (M : D) where
  -- commands take turns
  with-guests : (known : List Turn) (K : Beside D) (gs : List GuestTurn) (N : D) → Include speaks answers M known K → GuestsTurn answers K.service gs N → Include speaks answers M known (beside N (gs ++ K.turns))
  with-guests known K [] N i same = record { turns = i.turns; same = i.same; guests = i.guests; take = subst (λ (N : D). TakeTurns speaks answers M i.turns N) (sym same) i.take }
  with-guests known K (g ∷ gs) N i turn =
      let j = with-guests known K gs turn.0 i turn.1 in
      record { turns = of_guest g ∷ j.turns; same = j.same; guests = ap (λ (l : List GuestTurn). g ∷ l) j.guests; take = (turn.0, j.take, turn.2) }

  with-lead : (known : List Turn) (K N : Beside D) → Include speaks answers M known K → GuestsLead answers K N → Include speaks answers M known N
  with-lead known K N i lead =
      let j = with-guests known K lead.0 N.service i lead.1 in
      record { turns = j.turns; same = j.same; guests = j.guests ∙ sym lead.2; take = j.take }

  -- a connection takes a turn
  with-turn : (known : List Turn) (K N : Beside D) (t : Turn) → Include speaks answers M known K → N.turns ≡ K.turns → TakesTurn speaks answers K.service (of_connection t) N.service → Include speaks answers M (t ∷ known) N
  with-turn known K N t i same turn = record {
    turns = of_connection t ∷ i.turns;
    same = ap (λ (l : List Turn). t ∷ l) i.same;
    guests = i.guests ∙ sym same;
    take = (K.service, i.take, turn);
  }

  -- it takes one in which nothing is asked
  with-none : (known : List Turn) (K N : Beside D) (t : Turn) → Include speaks answers M known K → N ≡ K → TakesTurn speaks answers K.service (of_connection t) N.service → Include speaks answers M (t ∷ known) N
  with-none known K N t i same turn = with-turn known K N t i (ap (λ (b : Beside D). b.turns) same) turn

  -- commands take turns before what it asks
  with-both : (known : List Turn) (K N : Beside D) (c : Cause) (last : Bool) (es : List Exchange) (o : Outcome) (ended : Option End) → Include speaks answers M known K
      → IsTurnFor (beside_guests speaks answers) c K last es o ended N → Include speaks answers M (record { cause = c; exchanges = es; outcome = o; ended = ended } ∷ known) N
  with-both known K N (request w at) last [] o ended i turn =
      with-none known K N (record { cause = request w at; exchanges = []; outcome = o; ended = ended }) i turn.answered.1
      (last, record { answered = (turn.answered.0, ap (λ (b : Beside D). b.service) turn.answered.1); ends = turn.ends })
  with-both known K N (request w at) last (e ∷ es) o ended i turn =
      let (P, lead, asked) = turn.answered.1 in
      with-turn known (beside P N.turns) N (record { cause = request w at; exchanges = e ∷ es; outcome = o; ended = ended }) (with-lead known K (beside P N.turns) i lead) refl
      (last, record { answered = (turn.answered.0, asked); ends = turn.ends })
  with-both known K N (bad_input r) last es o ended i turn =
      with-none known K N (record { cause = bad_input r; exchanges = es; outcome = o; ended = ended }) i turn.1 (last, (turn.0, ap (λ (b : Beside D). b.service) turn.1, turn.2))
  with-both known K N no_memory last es o ended i turn =
      with-none known K N (record { cause = no_memory; exchanges = es; outcome = o; ended = ended }) i turn.1 (last, (turn.0, ap (λ (b : Beside D). b.service) turn.1, turn.2))

  with-log : (log : List LogEntry) (N : Beside D) → FollowAll (beside_guests speaks answers) (beside M []) log N → Include speaks answers M (turns_in log) N
  with-log [] N same = record { turns = []; same = refl; guests = sym (ap (λ (b : Beside D). b.turns) same); take = ap (λ (b : Beside D). b.service) same }
  with-log (e ∷ log) N follow =
      with-both (turns_in log) follow.0 N e.turn.cause _ e.turn.exchanges e.turn.outcome e.turn.ended (with-log log follow.0 follow.1) follow.2

-- ---- one run

-- what was asked is one run, which may end in the middle of requests that share a commit
record RunsTogether (old new : Shown) (Asked : List Request → List Outcome → Type 0) : Type 0 where
  requests : List Request
  outcomes : List Outcome
  asked : Asked requests outcomes
  run : RunsTo old new requests outcomes

one-run : (old new : Shown) (Asked : List Request → List Outcome → Type 0) → RunsTogether old new Asked → IsOneRun old new Asked
one-run old new Asked runs = record { requests = runs.requests; outcomes = runs.outcomes; asked = runs.asked; run = runs.run.run }

module _ (speaks : Dialect) {D : Type 0} (show : D → Shown) (M : D) where
  -- a turn in which this was asked
  asked-more : (K N : D) (t : AnyTurn) (ts : List AnyTurn) (es : List Exchange) → RunsTogether (show M) (show K) (AskAll ts) → AsksFor t es → AnswersEach (applied show) K es N → RunsTogether (show M) (show N) (AskAll (t ∷ ts))
  asked-more K N t ts es runs asks applies = record {
    requests = runs.requests ++ asked_in es;
    outcomes = runs.outcomes ++ outcomes_in es;
    asked = (runs.requests, runs.outcomes, es, runs.asked, asks, refl, refl);
    run = each-run-on show M K N runs.requests runs.outcomes es runs.run applies;
  }

  -- a turn of a command in which nothing was asked
  guest-none : (K N : D) (t : GuestTurn) (ts : List AnyTurn) → RunsTogether (show M) (show K) (AskAll ts) → CommandAsksAll t [] → N ≡ K → RunsTogether (show M) (show N) (AskAll (of_guest t ∷ ts))
  guest-none K N t ts runs nothing same = asked-more K N (of_guest t) ts [] runs nothing same

  of-connection : (K N : D) (c : Cause) (last : Bool) (es : List Exchange) (o : Outcome) (ended : Option End) (ts : List AnyTurn) → RunsTogether (show M) (show K) (AskAll ts)
      → IsTurnFor (spoken speaks (applied show)) c K last es o ended N → RunsTogether (show M) (show N) (AskAll (of_connection (record { cause = c; exchanges = es; outcome = o; ended = ended }) ∷ ts))
  of-connection K N (request w at) last es o ended ts runs turn =
      asked-more K N (of_connection (record { cause = request w at; exchanges = es; outcome = o; ended = ended })) ts es runs refl turn.answered.1
  of-connection K N (bad_input r) last es o ended ts runs turn =
      asked-more K N (of_connection (record { cause = bad_input r; exchanges = es; outcome = o; ended = ended })) ts [] runs (sym turn.2) turn.1
  of-connection K N no_memory last es o ended ts runs turn =
      asked-more K N (of_connection (record { cause = no_memory; exchanges = es; outcome = o; ended = ended })) ts [] runs (sym turn.2) turn.1

  of-guest : (K N : D) (t : GuestTurn) (ts : List AnyTurn) → RunsTogether (show M) (show K) (AskAll ts) → IsGuestTurn (applied show) K t.arguments t.body t.at (prints t.output) N → RunsTogether (show M) (show N) (AskAll (of_guest t ∷ ts))
  of-guest K N t ts runs turn =
      elim turn [
        | inl (command, asks) ↦
            elim asks [
              | inl (who, what, o, reads, applies, says) ↦
                  (let r : Request = record { at = unwrap_or (line_of t.arguments).at t.at; who = who; what = what } in
                  asked-more K N (of_guest t) ts (exchange r o ∷ []) runs (inl (r, o, record { command = command; reads = reads; moment = refl; printed = says }, refl)) (N, applies, refl))
              | inr (stop, reads, says, rests) ↦ guest-none K N t ts runs (inr (inl (command, stop, reads, says), refl)) rests
            ]
        | inr (unasked, rests) ↦ guest-none K N t ts runs (inr (inr unasked, refl)) rests
      ]

  of-any : (K N : D) (t : AnyTurn) (ts : List AnyTurn) → RunsTogether (show M) (show K) (AskAll ts) → TakesTurn speaks (applied show) K t N → RunsTogether (show M) (show N) (AskAll (t ∷ ts))
  of-any K N (of_connection t) ts runs turn = of-connection K N t.cause turn.0 t.exchanges t.outcome t.ended ts runs turn.1
  of-any K N (of_guest t) ts runs turn = of-guest K N t ts runs turn

  of-all : (N : D) (ts : List AnyTurn) → TakeTurns speaks (applied show) M ts N → RunsTogether (show M) (show N) (AskAll ts)
  of-all N [] same = record {
    requests = [];
    outcomes = [];
    asked = (refl, refl);
    run = subst (λ (N : D). RunsTo (show M) (show N) [] []) (sym same) (has_run_none (show M));
  }
  of-all N (t ∷ ts) take = of-any take.0 N t ts (of-all take.0 ts take.1) take.2

pub turns-run : (speaks : Dialect) {D : Type 0} (show : D → Shown) → TurnsRunBeside speaks show
turns-run speaks show M N ts take = one-run (show M) (show N) (AskAll ts) (of-all speaks show M N ts take)

pub log-run : (speaks : Dialect) {D : Type 0} (show : D → Shown) → LogRunsBeside speaks show
log-run speaks show M K N log follow lead =
    let i = with-lead speaks (applied show) M (turns_in log) K N (with-log speaks (applied show) M log K follow) lead in
    (i.turns, i.same, i.guests, i.take, turns-run speaks show M N.service i.turns i.take)
