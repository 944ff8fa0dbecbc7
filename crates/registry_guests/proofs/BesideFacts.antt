-- Connections beside guests.
use Rattle.std.proofs.Common.{◌≡◌, ◌⊎◌, ◌++◌, ◌∷◌, ◌∙◌, [], ℕ, Bool, List, Option, Some, None, refl, sym, ap, subst, inl, inr, append_assoc}
use Rattle.std.specs.Prelude.{IfSome}
use Rattle.std.specs.Io.KnownBytes.{append_known}
use Rattle.registry_service.specs.HttpAnswers.{Outcome}
use Rattle.registry_service.specs.Turns.{Answering, AnswersEach, Cause, Dialect, Exchange, IsTurnFor, bad_input, no_memory, request, spoken}
use Rattle.registry_service.specs.declared.turning.End.{End}
use Rattle.registry_service.proofs.HistoryFacts.{one-history}
use Rattle.registry_server.specs.ConnectionStates.{Pending, TakesTurn}
use Rattle.registry_guests.specs.Beside.{AnswersAll, AnswersBeside, AnswersOnce, Beside, GuestTurn, GuestsFollow, GuestsGoOn, GuestsLead, GuestsTurn, MakeOneHistory, ShowsGuest, TakesNone, TakesOne, VisitsFollow, beside, beside_guests}
use Rattle.registry_guests.specs.GuestTurns.{on_memory}
use Rattle.registry_guests.specs.Guests as guests
use Rattle.registry_guests.specs.Guests.{Begins, Receives, ReceivesMore, OpenGuest, Starves, VisitsIn}
use Rattle.registry_guests.specs.Outputs.{Output, prints, ready_byte, sent_as}

-- ---- connections

module _ {D : Type 0} (answers : Answering D) where
  pub lead-none : (M : D) (ts : List GuestTurn) → GuestsLead answers (beside M ts) (beside M ts)
  lead-none M ts = ([], refl, refl)

  -- the same turns lead to the same service
  lead-same : (M K : Beside D) (N : D) → GuestsLead answers M K → N ≡ K.service → GuestsLead answers M (beside N K.turns)
  lead-same M K N lead same = (lead.0, subst (λ (d : D). GuestsTurn answers M.service lead.0 d) (sym same) lead.1, lead.2)

  pub go-on : GuestsGoOn answers
  go-on M N P t lead turn = (t ∷ lead.0, (N.service, lead.1, turn), ap (λ (ts : List GuestTurn). t ∷ ts) lead.2)

  -- what a turn asks at what guests left may be asked beside them
  each-beside : (M K : Beside D) (es : List Exchange) (N : D) → GuestsLead answers M K → AnswersEach answers K.service es N → (P : Beside D) × AnswersBeside answers M es P × GuestsLead answers P (beside N K.turns)
  each-beside M K [] N lead same = (M, refl, lead-same M K N lead same)
  each-beside M K (e ∷ es) N lead asks = (beside N K.turns, (K.service, lead, asks), lead-none N K.turns)

module _ (speaks : Dialect) {D : Type 0} (answers : Answering D) where
  pub make-one : MakeOneHistory speaks answers
  make-one M w r = one-history (beside_guests speaks answers) M w r

  turn-beside : (M K : Beside D) (N : D) (c : Cause) (last : Bool) (es : List Exchange) (o : Outcome) (ended : Option End) → GuestsLead answers M K → IsTurnFor (spoken speaks answers) c K.service last es o ended N
      → (P : Beside D) × IsTurnFor (beside_guests speaks answers) c M last es o ended P × GuestsLead answers P (beside N K.turns)
  turn-beside M K N (request w at) last es o ended lead t =
      let a = each-beside answers M K es N lead t.answered.1 in
      (a.0, record { answered = (t.answered.0, a.1); ends = t.ends }, a.2)
  turn-beside M K N (bad_input r) last es o ended lead t = (M, (t.0, refl, t.2), lead-same answers M K N lead t.1)
  turn-beside M K N no_memory last es o ended lead t = (M, (t.0, refl, t.2), lead-same answers M K N lead t.1)

  takes-beside : (M K : Beside D) (N : D) (old new : Pending) (r r2 : Option (List ℕ)) (over : Bool) → GuestsLead answers M K → TakesTurn (spoken speaks answers) old new K.service N r r2 over
      → (P : Beside D) × TakesTurn (beside_guests speaks answers) old new M P r r2 over × GuestsLead answers P (beside N K.turns)
  takes-beside M K N old new r r2 over lead t =
      let u = t.turns in
      let b = turn-beside M K N t.cause _ u.exchanges u.outcome t.turned.end lead u.is_turn in (
        b.0,
        record {
          cause = t.cause;
          turned = t.turned;
          took = t.took;
          turns = record { exchanges = u.exchanges; outcome = u.outcome; is_turn = b.1; answer = u.answer; counts = u.counts };
          asked = t.asked;
          outgoing = t.outgoing;
          ends = t.ends;
          left = t.left;
        },
        b.2,
      )

module _ {S : Type 0} (received sent : S → Option (List ℕ)) (speaks : Dialect) {D : Type 0} (answers : Answering D) where
  pub visits-follow : VisitsFollow received sent speaks answers
  visits-follow M K N now most old new r r2 lead v =
      elim v.turns [
        | inl t ↦
            (let b = takes-beside speaks answers M K N v.read v.due r r2 new.is_over lead t.0.takes in (
              b.0,
              record {
                got = v.got;
                few = v.few;
                gave = v.gave;
                lean = v.lean;
                read = v.read;
                due = v.due;
                keeps = v.keeps;
                put = v.put;
                turns = inl (record { may = t.0.may; takes = b.1 }, t.1);
                took = v.took;
                sends = v.sends;
                over = v.over;
              },
              b.2,
            ))
        | inr t ↦ (
          M,
          record {
            got = v.got;
            few = v.few;
            gave = v.gave;
            lean = v.lean;
            read = v.read;
            due = v.due;
            keeps = v.keeps;
            put = v.put;
            turns = inr (record { state = t.0.state; service = refl; unasked = t.0.unasked }, t.1);
            took = v.took;
            sends = v.sends;
            over = v.over;
          },
          lead-same answers M K N lead t.0.service,
        )
      ]

-- ---- guests

known-more : (known held : Option (List ℕ)) (before got : List ℕ) → IfSome known (λ bytes. bytes ≡ before) → held ≡ append_known known got → IfSome held (λ bytes. bytes ≡ before ++ got)
known-more None held before got is more = subst (λ (k : Option (List ℕ)). IfSome k (λ bytes. bytes ≡ before ++ got)) (sym more) tt
known-more (Some xs) held before got is more = subst (λ (k : Option (List ℕ)). IfSome k (λ bytes. bytes ≡ before ++ got)) (sym more) (ap (λ (b : List ℕ). b ++ got) is)

sent-more : (known now : Option (List ℕ)) (all put left due : List ℕ) → IfSome known (λ bytes. all ≡ bytes ++ due) → due ≡ put ++ left → now ≡ append_known known put → IfSome now (λ bytes. all ≡ bytes ++ left)
sent-more None now all put left due is parts took = subst (λ (k : Option (List ℕ)). IfSome k (λ bytes. all ≡ bytes ++ left)) (sym took) tt
sent-more (Some xs) now all put left due is parts took =
    subst (λ (k : Option (List ℕ)). IfSome k (λ bytes. all ≡ bytes ++ left)) (sym took)
    (is ∙ ap (λ (d : List ℕ). xs ++ d) parts ∙ sym (append_assoc xs put left))

-- nothing was sent but that the server is ready, and so all is left
none-sent : (known now : Option (List ℕ)) (due : List ℕ) → now ≡ known → IfSome known (λ bytes. bytes ≡ ready_byte ∷ []) → IfSome now (λ bytes. ready_byte ∷ due ≡ bytes ++ due)
none-sent None now due same is = subst (λ (k : Option (List ℕ)). IfSome k (λ bytes. ready_byte ∷ due ≡ bytes ++ due)) (sym same) tt
none-sent (Some xs) now due same is = subst (λ (k : Option (List ℕ)). IfSome k (λ bytes. ready_byte ∷ due ≡ bytes ++ due)) (sym same) (ap (λ (b : List ℕ). b ++ due) (sym is))

still-none : (known now : Option (List ℕ)) → now ≡ known → IfSome known (λ bytes. bytes ≡ ready_byte ∷ []) → IfSome now (λ bytes. bytes ≡ ready_byte ∷ [])
still-none known now same is = subst (λ (k : Option (List ℕ)). IfSome k (λ bytes. bytes ≡ ready_byte ∷ [])) (sym same) is

module _ {S : Type 0} (received sent : S → Option (List ℕ)) {D : Type 0} (answers : Answering D) (has_none : S → Bool) where
  received-all : (most : ℕ) (old new : S) (held gathered : List ℕ) → Receives received sent most old new held gathered → IfSome (received old) (λ bytes. bytes ≡ held) → IfSome (received new) (λ bytes. bytes ≡ gathered)
  received-all most old new held gathered h is = subst (λ (l : List ℕ). IfSome (received new) (λ bytes. bytes ≡ l)) (sym h.keeps) (known-more (received old) (received new) held h.got is h.gave)

  shows-listening : (most : ℕ) (old new : OpenGuest S) (M N : D) (r r2 : Option (List ℕ)) → ShowsGuest received sent answers None old → ReceivesMore received sent has_none answers most old new M N r r2
      → ShowsGuest received sent answers None new
  shows-listening most old new M N r r2 s l = (
    l.unanswered,
    received-all most old.socket new.socket old.held new.held l.receives s.1,
    still-none (sent old.socket) (sent new.socket) l.receives.unsent s.2,
  )

  shows-begun : (most : ℕ) (old new : OpenGuest S) (M N : D) (r r2 : Option (List ℕ)) → ShowsGuest received sent answers None old → (b : Begins received sent has_none answers most old new M N r r2)
      → ShowsGuest received sent answers (Some b.output) new
  shows-begun most old new M N r r2 s b =
      let before = none-sent (sent old.socket) (sent b.between) (sent_as b.output) b.receives.unsent s.2 in
      (b.left, b.begun, sent-more (sent b.between) (sent new.socket) (ready_byte ∷ sent_as b.output) b.sends.put b.left (sent_as b.output) before b.sends.parts b.sends.took)

  answers-all : (most : ℕ) (old new : OpenGuest S) (M N : D) (r r2 : Option (List ℕ)) → ShowsGuest received sent answers None old → (b : Begins received sent has_none answers most old new M N r r2)
      → AnswersAll received sent answers has_none old.held new b.output M N r r2 ⊎ Starves answers b.output M N r r2
  answers-all most old new M N r r2 s b =
      let came = received-all most old.socket b.between old.held b.gathered b.receives s.1 in
      let still = subst (λ (k : Option (List ℕ)). IfSome k (λ bytes. bytes ≡ b.gathered)) (sym b.sends.unread) came in
      elim b.due [
        | inr starves ↦ inr starves.1
        | inl d ↦
            elim d.answered [
              | inr starves ↦ inr starves
              | inl turn ↦ inl (record { asked = b.between; waits = d.waits; unread = b.sends.unread; whole = subst (λ (l : List ℕ). IfSome (received new.socket) (λ bytes. bytes ≡ l)) d.all still; turn = turn })
            ]
      ]

  pub answers-once : AnswersOnce received sent answers has_none
  answers-once most old new M N r r2 None s v =
      elim (subst (λ (l : Option (List ℕ)). VisitsIn received sent has_none answers most l old new M N r r2) s.0 v.does) [
        | inl l ↦ inl (shows-listening most old new M N r r2 s l, l.service, l.unasked)
        | inr b ↦ inr (refl, b.output, shows-begun most old new M N r r2 s b, answers-all most old new M N r r2 s b)
      ]
  answers-once most old new M N r r2 (Some output) s v =
      let g = subst (λ (l : Option (List ℕ)). VisitsIn received sent has_none answers most l old new M N r r2) s.1 v.does in
      inl ((g.left, g.begun, sent-more (sent old.socket) (sent new.socket) (ready_byte ∷ sent_as output) g.sends.put g.left s.0 s.2 g.sends.parts g.sends.took), g.service, g.unasked)

  -- ---- which turns they are

  none-taken : (M N : Beside D) (P : D) (new : OpenGuest S) (answered : Option Output) (r r2 : Option (List ℕ)) → GuestsLead answers M N → P ≡ N.service → r2 ≡ r
      → ShowsGuest received sent answers answered new ⊎ ((answered ≡ None) × (output : Output) × (prints output ≡ on_memory) × ShowsGuest received sent answers (Some output) new)
      → TakesNone received sent answers answered new M N P r r2
  none-taken M N P new answered r r2 lead same unasked answer = record { service = same; unasked = unasked; answer = answer; lead = lead-same answers M N P lead same }

  one-taken : (M N : Beside D) (P : D) (old new : OpenGuest S) (output : Output) (r r2 : Option (List ℕ)) → GuestsLead answers M N → ShowsGuest received sent answers (Some output) new
      → guests.TakesTurn answers old.held output N.service P r r2 → TakesOne received sent answers old new M N P r r2
  one-taken M N P old new output r r2 lead shows t = record {
    turn = record { arguments = t.0; body = t.1; at = t.2; output = output };
    words = t.3;
    message = t.4;
    asked = t.6;
    answer = shows;
    lead = go-on answers M N P (record { arguments = t.0; body = t.1; at = t.2; output = output }) lead t.5;
  }

  pub guests-follow : GuestsFollow received sent answers has_none
  guests-follow M N P most old new r r2 answered lead s v =
      elim (answers-once most old new N.service P r r2 answered s v) [
        | inl (shows, same, unasked) ↦ inr (none-taken M N P new answered r r2 lead same unasked (inl shows))
        | inr (none, output, shows, why) ↦
            elim why [
              | inl all ↦ inl (none, one-taken M N P old new output r r2 lead shows all.turn)
              | inr starves ↦ inr (none-taken M N P new answered r r2 lead starves.1 starves.2 (inr (none, output, starves.0, shows)))
            ]
      ]
