-- What the steps of a visit come to.
use Rattle.std.proofs.Common.{◌≡◌, ◌≤◌, ◌⊎◌, ◌++◌, ◌∙◌, [], ℕ, Bool, true, false, List, Option, None, Some, IsSome, length, take, drop, refl, ap, subst, sym, inl, inr, arith, append-nil}
use Rattle.std.proofs.lemmas.Bool.{false≢true}
use Rattle.std.proofs.lemmas.List.{length-take, take-append-drop}
use Rattle.std.specs.Io.KnownBytes.{append_known}
use Rattle.registry_wire.specs.Spelling.{IsUnfinished}
use Rattle.registry_wire.specs.Reading.{TakenOf}
use Rattle.registry_service.specs.Courses.{taken_for}
use Rattle.registry_service.specs.Turns.{Dialogue}
use Rattle.registry_service.specs.declared.turning.End.{End}
use Rattle.registry_server.specs.ConnectionStates.{IsStarved, MayTakeTurn, Pending, TakesNone, holding, sending}
use Rattle.registry_server.specs.Connections.{AnswersOnce, Drops, Keeps, MayReceive, OpenConnection, Receives, SendsDue, StarvesOnce, TakesOne, Visits, asked_in_answer, asked_in_turn, asked_in_visit, connected, must_wait_in}
use Rattle.registry_server.specs.Phases.{LookedAt, SentAt, entered, receives, takes_turns}
use Rattle.registry_server.specs.Sockets.{moved}
use Rattle.registry_server.specs.declared.phase.Phase.{Phase}
use Rattle.registry_server.specs.declared.phase.Stage.{Stage}
use Rattle.registry_server.specs.declared.phase.Stage.TheVariants.{Idle, Begun, Next, Sends, Drains}
use Rattle.registry_server.specs.declared.socket.Flow.{Flow}
use Rattle.registry_server.specs.declared.socket.Flow.TheVariants.{Moved, Waits, Ended, Broken}
use Rattle.registry_server.proofs.PhaseFacts.{heard-looked, heard-sends, heard-sent, looked-sent, sent-still}
use Rattle.registry_server.proofs.StateFacts.{starved-turn}

-- nothing more is known of the same bytes
pub none-added : (known : Option (List ℕ)) → known ≡ append_known known []
none-added None = refl
none-added (Some xs) = ap (λ (l : List ℕ). Some l) (sym (append-nil xs))

-- nothing more is held
pub none-held : (p : Pending) → p ≡ holding p (p.held ++ [])
none-held p = ap (holding p) (sym (append-nil p.held))

-- the first bytes of what was due were sent
pub sent-front : (p q : Pending) (count : ℕ) → q ≡ sending p (drop count p.outgoing) → p ≡ sending q (take count p.outgoing ++ q.outgoing)
sent-front p q count is =
    ap (sending p) (sym (take-append-drop count p.outgoing)) ∙ ap (λ (x : Pending). sending x (take count p.outgoing ++ x.outgoing)) (sym is)

-- no more than there are
pub few-taken : (count : ℕ) (bytes before : List ℕ) → length bytes ≡ length before → length (take count bytes) ≤ length before
few-taken count bytes before same = omega (arith, length-take count bytes, same)

pub few-moved : (flow : Flow) (bytes before : List ℕ) → length bytes ≡ length before → length (moved flow bytes) ≤ length before
few-moved (Moved count) bytes before same = few-taken count bytes before same
few-moved Waits bytes before same = omega arith
few-moved Ended bytes before same = omega arith
few-moved Broken bytes before same = omega arith

-- it does not hold
pub never : {A : Type 0} (b : Bool) → b ≡ false → b ≡ true → A
never true is_not is = absurd (false≢true (sym is_not))
never false is_not is = absurd (false≢true is)

some-is : {A : Type 0} (o : Option A) (x : A) → o ≡ Some x → IsSome o
some-is None x e = cc
some-is (Some y) x e = refl

-- a connection goes on or has ended
ends-or-not : (e : Option End) → (e ≡ None) ⊎ IsSome e
ends-or-not None = inl refl
ends-or-not (Some x) = inr refl

-- where more is received no whole request is held, and all was sent
may-receive : (s : Stage) (p : Pending) → receives s ≡ true → MayTakeTurn p → IsUnfinished p.held → (s ≡ Idle → p.held ≡ []) → MayReceive s p
may-receive Idle p receiving may waits idle = (may.all_sent, idle refl)
may-receive Begun p receiving may waits idle = (may.all_sent, waits)
may-receive Next p receiving may waits idle = absurd (false≢true receiving)
may-receive Sends p receiving may waits idle = absurd (false≢true receiving)
may-receive Drains p receiving may waits idle = absurd (false≢true receiving)

may-drop : (s : Stage) (p : Pending) → s ≡ Drains → p.outgoing ≡ [] → IsSome p.ends → MayReceive s p
may-drop Idle p is all_sent some = absurd (cc)
may-drop Begun p is all_sent some = absurd (cc)
may-drop Next p is all_sent some = absurd (cc)
may-drop Sends p is all_sent some = absurd (cc)
may-drop Drains p is all_sent some = (all_sent, some)

-- where no response is due it waits until more comes
pub waits-for-more : (s : Stage) (none full : Bool) → takes_turns s ≡ true → none ≡ true → must_wait_in s none full ≡ true
waits-for-more Idle none full turning is = is
waits-for-more Begun none full turning is = is
waits-for-more Next none full turning is = is
waits-for-more Sends none full turning is = absurd (false≢true turning)
waits-for-more Drains none full turning is = absurd (false≢true turning)

nothing-kept : (p due : Pending) (over : Bool) → Keeps [] p over p due
nothing-kept p due over = elim (ends-or-not p.ends) [ inl none ↦ inl (none, none-held p, λ _. refl) | inr some ↦ inr (refl, inl some) ]

module _ {S : Type 0} (received sent : S → Option (List ℕ)) where
  -- nothing was received
  pub receives-none : (now most : ℕ) (old : OpenConnection S) (socket : S) (over : Bool) → received socket ≡ append_known (received old.socket) [] → sent socket ≡ sent old.socket
      → (old.is_over ≡ true → over ≡ true) → Receives received sent now most old (connected socket old.state old.phase over) true
  receives-none now most old socket over gave unsent still = record {
    got = [];
    few = omega arith;
    gave = gave;
    unsent = unsent;
    state = none-held old.state;
    none = λ _. refl;
    over = still;
    times = inl refl;
  }

  -- what came was dropped
  pub drops-moved : (most : ℕ) (old : OpenConnection S) (socket : S) (over : Bool) (flow : Flow) (bytes : List ℕ) → length (moved flow bytes) ≤ most
      → received socket ≡ append_known (received old.socket) (moved flow bytes) → sent socket ≡ sent old.socket → (old.is_over ≡ true → over ≡ true)
      → Drops received sent most old (connected socket old.state old.phase over)
  drops-moved most old socket over flow bytes few gave unsent still = record {
    got = moved flow bytes;
    few = few;
    gave = gave;
    unsent = unsent;
    state = refl;
    over = still;
    times = refl;
  }

module _ {S : Type 0} (received sent : S → Option (List ℕ)) {D : Type 0} (answers : Dialogue D) where
  none-taken : (p : Pending) (M : D) (r : Option (List ℕ)) → TakesNone answers p p M M r r
  none-taken p M r = record { state = refl; service = refl; unasked = refl }

  -- no turn was taken, and nothing was sent
  pub answered-none : (now : ℕ) (old new : OpenConnection S) (M N : D) (r r2 : Option (List ℕ)) → TakesNone answers old.state new.state M N r r2
      → LookedAt now old.phase new.phase → sent new.socket ≡ sent old.socket → received new.socket ≡ received old.socket → new.is_over ≡ old.is_over → AnswersOnce received sent answers now old new M N r r2
  answered-none now old new M N r r2 none looked unsent unread over = record {
    due = new.state;
    turns = inr (none, refl, looked);
    put = [];
    took = unsent ∙ none-added (sent old.socket);
    unread = unread;
    sends = refl;
    over = over;
  }

  -- no turn was taken, and it was looked whether more has come
  pub answered-looked : (now : ℕ) (old mid new : OpenConnection S) (M N : D) (r r2 : Option (List ℕ)) → TakesNone answers old.state mid.state M N r r2
      → LookedAt now old.phase mid.phase → mid.socket ≡ old.socket → mid.is_over ≡ old.is_over → new.state ≡ mid.state → new.phase ≡ mid.phase
      → sent new.socket ≡ sent mid.socket → received new.socket ≡ received mid.socket → new.is_over ≡ mid.is_over → AnswersOnce received sent answers now old new M N r r2
  answered-looked now old mid new M N r r2 none looked socket over state phase unsent unread still = answered-none now old new M N r r2
      (record { state = state ∙ none.state; service = none.service; unasked = none.unasked })
      (subst (λ (p : Phase). LookedAt now old.phase p) (sym phase) looked)
      (unsent ∙ ap sent socket) (unread ∙ ap received socket) (still ∙ over)

  -- bytes were received, and no turn may be taken yet
  pub visit-received : (now most : ℕ) (old new : OpenConnection S) (M : D) (r : Option (List ℕ)) → Receives received sent now most old new true → MayTakeTurn old.state
      → IsUnfinished old.state.held → receives old.phase.stage ≡ true → (old.phase.stage ≡ Idle → old.state.held ≡ []) → Visits received sent answers now most old new M M r r
  visit-received now most old new M r h may waits receiving idle = record {
    got = h.got;
    few = h.few;
    gave = h.gave;
    lean = inr (may-receive old.phase.stage old.state receiving may waits idle);
    read = new.state;
    due = new.state;
    keeps = inl (may.goes_on, h.state, h.none);
    turns = inr (none-taken new.state M r, heard-sent now old.phase new.phase h.times);
    put = [];
    took = h.unsent ∙ none-added (sent old.socket);
    sends = refl;
    over = h.over;
  }

  -- the same turn, in which the same is asked
  same-taken : (old new : Pending) (M N : D) (r r2 : Option (List ℕ)) (was is : Bool) → is ≡ was → (t : TakesOne answers old new M N r r2 was)
      → (u : TakesOne answers old new M N r r2 is) × (u.takes.turns.exchanges ≡ t.takes.turns.exchanges)
  same-taken old new M N r r2 was is same t = (
    record {
      may = t.may;
      takes = record {
        cause = t.takes.cause;
        turned = t.takes.turned;
        took = subst (λ (b : Bool). TakenOf old.held new.held (b ≡ true) (taken_for t.takes.cause)) (sym same) t.takes.took;
        turns = t.takes.turns;
        asked = t.takes.asked;
        outgoing = t.takes.outgoing;
        ends = t.takes.ends;
        left = t.takes.left;
      };
    },
    refl,
  )

  same-turn : {A B P Q : Type 0} (old new : Pending) (M N : D) (r r2 : Option (List ℕ)) (was is : Bool) → is ≡ was → (A → P) → (B → Q) → (t : (TakesOne answers old new M N r r2 was × A) ⊎ B)
      → (u : (TakesOne answers old new M N r r2 is × P) ⊎ Q) × (asked_in_turn answers u ≡ asked_in_turn answers t)
  same-turn old new M N r r2 was is same f g (inl t) = let one = same-taken old new M N r r2 was is same t.0 in (inl (one.0, f t.1), one.1)
  same-turn old new M N r r2 was is same f g (inr t) = (inr (g t), refl)

  -- bytes were received, and a turn was taken
  pub visit-answered : (now most : ℕ) (old mid new : OpenConnection S) (M N : D) (r r2 : Option (List ℕ)) → Receives received sent now most old mid true → MayTakeTurn old.state
      → IsUnfinished old.state.held → receives old.phase.stage ≡ true → (old.phase.stage ≡ Idle → old.state.held ≡ []) → takes_turns old.phase.stage ≡ true
      → (a : AnswersOnce received sent answers now mid new M N r r2) → (v : Visits received sent answers now most old new M N r r2) × (asked_in_visit received sent answers v ≡ asked_in_answer received sent answers a)
  visit-answered now most old mid new M N r r2 h may waits receiving idle turning a =
      let t = same-turn mid.state a.due M N r r2 mid.is_over new.is_over a.over
      (λ (x : SentAt now (length a.put) (entered mid.phase Sends now) new.phase). subst (λ (y : Phase). SentAt now (length a.put) y new.phase) (heard-sends now old.phase mid.phase turning h.times) x)
      (λ (x : TakesNone answers mid.state a.due M N r r2 × (a.put ≡ []) × LookedAt now mid.phase new.phase).
      (x.0, subst (λ (l : List ℕ). SentAt now (length l) old.phase new.phase) (sym x.1) (heard-looked now old.phase mid.phase new.phase h.times x.2)))
      a.turns in (
        record {
          got = h.got;
          few = h.few;
          gave = a.unread ∙ h.gave;
          lean = inr (may-receive old.phase.stage old.state receiving may waits idle);
          read = mid.state;
          due = a.due;
          keeps = inl (may.goes_on, h.state, h.none);
          turns = t.0;
          put = a.put;
          took = a.took ∙ ap (λ (known : Option (List ℕ)). append_known known a.put) h.unsent;
          sends = a.sends;
          over = λ was. a.over ∙ h.over was;
        },
        t.1,
      )

  -- a turn was taken of what was held
  pub visit-turned : (now most : ℕ) (old new : OpenConnection S) (M N : D) (r r2 : Option (List ℕ)) → MayTakeTurn old.state
      → (a : AnswersOnce received sent answers now old new M N r r2) → (v : Visits received sent answers now most old new M N r r2) × (asked_in_visit received sent answers v ≡ asked_in_answer received sent answers a)
  visit-turned now most old new M N r r2 may a =
      let t = same-turn old.state a.due M N r r2 old.is_over new.is_over a.over
      (λ (x : SentAt now (length a.put) (entered old.phase Sends now) new.phase). x)
      (λ (x : TakesNone answers old.state a.due M N r r2 × (a.put ≡ []) × LookedAt now old.phase new.phase).
      (x.0, subst (λ (l : List ℕ). SentAt now (length l) old.phase new.phase) (sym x.1) (looked-sent now old.phase new.phase x.2)))
      a.turns in (
        record {
          got = [];
          few = omega arith;
          gave = a.unread ∙ none-added (received old.socket);
          lean = inl refl;
          read = old.state;
          due = a.due;
          keeps = inl (may.goes_on, none-held old.state, λ _. refl);
          turns = t.0;
          put = a.put;
          took = a.took;
          sends = a.sends;
          over = λ was. a.over ∙ was;
        },
        t.1,
      )

  -- there was no memory for what was received
  pub visit-starved : (now most : ℕ) (old mid new : OpenConnection S) (M : D) (r : Option (List ℕ)) → Receives received sent now most old mid false → MayTakeTurn old.state
      → IsUnfinished old.state.held → receives old.phase.stage ≡ true → (old.phase.stage ≡ Idle → old.state.held ≡ []) → takes_turns old.phase.stage ≡ true
      → StarvesOnce received sent now mid new → Visits received sent answers now most old new M M r r
  visit-starved now most old mid new M r h may waits receiving idle turning s =
      let starved : IsStarved old.state s.due = subst (λ (p : Pending). IsStarved p s.due) h.state s.starved in
      record {
        got = h.got;
        few = h.few;
        gave = s.unread ∙ h.gave;
        lean = inr (may-receive old.phase.stage old.state receiving may waits idle);
        read = old.state;
        due = s.due;
        keeps = inr (refl, inr starved);
        turns = inl (
          record { may = may; takes = starved-turn answers M r new.is_over old.state s.due starved },
          subst (λ (x : Phase). SentAt now (length s.put) x new.phase) (heard-sends now old.phase mid.phase turning h.times) s.times,
        );
        put = s.put;
        took = s.took ∙ ap (λ (known : Option (List ℕ)). append_known known s.put) h.unsent;
        sends = s.sends;
        over = λ was. s.over ∙ h.over was;
      }

  -- some of what was due was sent
  pub visit-sent : (now most : ℕ) (old new : OpenConnection S) (M : D) (r : Option (List ℕ)) → SendsDue received sent now old new → Visits received sent answers now most old new M M r r
  visit-sent now most old new M r s = record {
    got = [];
    few = omega arith;
    gave = s.unread ∙ none-added (received old.socket);
    lean = inl refl;
    read = old.state;
    due = old.state;
    keeps = nothing-kept old.state old.state old.is_over;
    turns = inr (none-taken old.state M r, s.times);
    put = s.put;
    took = s.took;
    sends = s.state;
    over = λ was. s.over ∙ was;
  }

  -- what was received was dropped
  pub visit-dropped : (now most : ℕ) (old new : OpenConnection S) (M : D) (r : Option (List ℕ)) → Drops received sent most old new → old.state.outgoing ≡ [] → IsSome old.state.ends
      → new.phase.stage ≡ Drains → Visits received sent answers now most old new M M r r
  visit-dropped now most old new M r d all_sent some draining = record {
    got = d.got;
    few = d.few;
    gave = d.gave;
    lean = inr (may-drop old.phase.stage old.state (sym (ap (λ (p : Phase). p.stage) d.times) ∙ draining) all_sent some);
    read = old.state;
    due = old.state;
    keeps = inr (refl, inl some);
    turns = inr (none-taken old.state M r, subst (λ (x : Phase). SentAt now 0 old.phase x) (sym d.times) (sent-still now old.phase));
    put = [];
    took = d.unsent ∙ none-added (sent old.socket);
    sends = sym d.state;
    over = d.over;
  }
