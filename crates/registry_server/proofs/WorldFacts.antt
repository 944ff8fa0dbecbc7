-- What the calls of one connection make of all of them.
use Rattle.std.proofs.Common.{◌≡◌, ◌==◌, ◌<◌, ◌-◌, ◌+◌, ◌++◌, ◌∷◌, ◌∙◌, ◌⊎◌, ◌&&◌, ◌||◌, [], ℕ, suc, Bool, true, false, List, Option, None, cond, length, min, not, take, drop, refl, sym, ap, subst, arith, inl, inr, append_assoc, append-nil, is_some}
use Rattle.std.proofs.lemmas.Bool.Decides.{nat_tests}
use Rattle.std.proofs.lemmas.List.{take-append-drop}
use Rattle.registry_wire.specs.Reading.{TakenOf}
use Rattle.registry_service.specs.Courses.{count_of, taken_for}
use Rattle.registry_service.specs.Histories.{LogEntry, Transcript, Reached, World, at_end, comes, is_last, on_connection, sends, shuts, turned_on, turns, turns_of, with_bytes, with_sent, with_turn}
use Rattle.registry_service.specs.Turns.{Cause, Dialogue, IsTurn, IsTurnFor, Turn, bad_input, is_request, is_known_in, labels_of, no_memory, request, response_of}
use Rattle.registry_service.proofs.CourseFacts.{bytes-same, on-not_last, on-request}
use Rattle.registry_server.specs.ConnectionStates.{Pending, TakesTurn, holding, sending}
use Rattle.registry_server.specs.Worlds.{AddsNone, AddsOne, Begins, Comes, Lasts, LeadsTo, MayHave, Sends, Shuts, StateShows, TakesTurns}

-- ---- one connection of a world

at-same : (k : ℕ) → (k == k) ≡ true
at-same k = grind (arith, nat_tests)

pick-first : {A : Type 0} (b : Bool) (x y : A) → b ≡ true → cond b x y ≡ x
pick-first true x y is = refl
pick-first false x y is = cc

pick-second : {A : Type 0} (b : Bool) (x y : A) → b ≡ false → cond b x y ≡ y
pick-second false x y is = refl
pick-second true x y is = cc

-- a state that shows this connection represents it
stands-with : {D : Type 0} (w : World D) (k : ℕ) (over : Bool) (p : Pending) (l : Transcript) (ts : List Turn) → w.transcripts k ≡ l → turns_of k w.log ≡ ts
    → l.rest ≡ p.held → l.shut ≡ over → l.out ≡ l.sent ++ p.outgoing → (p.ends ≡ None → MayHave ts p.left) → StateShows w k over p
stands-with w k over p l ts transcript turned held shut outgoing may = record {
  held = ap (λ (m : Transcript). m.rest) transcript ∙ held;
  shut = ap (λ (m : Transcript). m.shut) transcript ∙ shut;
  outgoing = ap (λ (m : Transcript). m.out) transcript ∙ outgoing ∙ ap (λ (m : Transcript). m.sent ++ p.outgoing) (sym transcript);
  may_have = λ going. subst (λ (us : List Turn). MayHave us p.left) (sym turned) (may going);
}

pub stands-still : {D : Type 0} (w v : World D) (j : ℕ) (o : Bool) (q : Pending) → v.transcripts j ≡ w.transcripts j → turns_of j v.log ≡ turns_of j w.log → StateShows w j o q → StateShows v j o q
stands-still w v j o q transcript turned s = stands-with v j o q (w.transcripts j) (turns_of j w.log) transcript turned s.held s.shut s.outgoing s.may_have

-- at the limit one more may follow
limit-last : (n left : ℕ) → 0 < left → (n + left ≡ 1000) ⊎ ((left ≡ 1) × (n < 1000)) → (n + 1 == 1000) ≡ true → (left == 1) ≡ true
limit-last n left some (inl all) at = grind (arith, nat_tests, all, at)
limit-last n left some (inr one) at = grind (arith, nat_tests, one.0)

last-by : (last limit : Bool) → (limit ≡ true → last ≡ true) → last ≡ ((last && not limit) || limit)
last-by true true is = refl
last-by true false is = refl
last-by false true is = is refl
last-by false false is = refl

-- the next turn is the last where the server is to end, or at the limit
same-last : (n left : ℕ) → 0 < left → (n + left ≡ 1000) ⊎ ((left ≡ 1) × (n < 1000)) → (left == 1) ≡ (((left == 1) && not (n + 1 == 1000)) || (n + 1 == 1000))
same-last n left some all = last-by (left == 1) (n + 1 == 1000) (limit-last n left some all)

one-less : (left : ℕ) → (left == 1) ≡ false → 0 < left → 0 < left - 1
one-less left is some = grind (arith, nat_tests, is, some)

count-one : (c : Cause) → is_request c ≡ true → count_of c ≡ 1
count-one (request w at) is = refl
count-one (bad_input r) is = cc
count-one no_memory is = cc

not-one : (left : ℕ) → (left == 1) ≡ false → left ≡ 1 → ⊥
not-one left is one = absurd (grind (arith, nat_tests, is, one))

all-more : (n left left2 : ℕ) → 0 < left → (left == 1) ≡ false → left2 ≡ left - 1 → (n + left ≡ 1000) ⊎ ((left ≡ 1) × (n < 1000)) → suc n + left2 ≡ 1000
all-more n left left2 some is less (inl all) = omega (arith, all, some, less)
all-more n left left2 some is less (inr one) = absurd (not-one left is one.0)

may-more : (ts : List Turn) (t : Turn) (left left2 : ℕ) → MayHave ts left → t.ended ≡ None → (left == 1) ≡ false → left2 ≡ left - 1 → MayHave (t ∷ ts) left2
may-more ts t left left2 may going is less =
    let more = one-less left is may.some in
    record {
      go_on = (going, may.go_on);
      some = omega (arith, more, less);
      all = inl (all-more (length ts) left left2 may.some is less may.all);
    }

-- one more may follow where some may
below : (n left : ℕ) → 0 < left → (n + left ≡ 1000) ⊎ ((left ≡ 1) × (n < 1000)) → n < 1000
below n left some (inl all) = omega (arith, all, some)
below n left some (inr one) = one.1

may-last : (ts : List Turn) (left : ℕ) → MayHave ts left → MayHave ts (min left 1)
may-last ts left may = record {
  go_on = may.go_on;
  some = omega (arith, may.some);
  all = inr (omega (arith, may.some), below (length ts) left may.some may.all);
}

pub state-lasts : (D : Type 0) → Lasts D
state-lasts D w k over p s = record {
  held = s.held;
  shut = s.shut;
  outgoing = s.outgoing;
  may_have = λ going. may-last (turns_of k w.log) p.left (s.may_have going);
}

-- another connection is what it was
pub record IsSame {D : Type 0} (w v : World D) (j : ℕ) : Type 0 where
  pub transcript : v.transcripts j ≡ w.transcripts j
  pub turned : turns_of j v.log ≡ turns_of j w.log

pub same-after : {D : Type 0} (u v w : World D) (j : ℕ) → IsSame u v j → IsSame v w j → IsSame u w j
same-after u v w j first second = record { transcript = second.transcript ∙ first.transcript; turned = second.turned ∙ first.turned }

module _ {D : Type 0} (answers : Dialogue D) where
  -- From a world another is reached, at this service and with these turns, in which this state shows
  -- this connection, on which so much came and was sent. Each other one is what it was.
  pub record Goes (M : D) (w : World D) (k : ℕ) (over : Bool) (p : Pending) (came sent : List ℕ) (log : List LogEntry) (N : D) : Type 0 where
    pub world : World D
    pub reached : Reached answers M world
    pub service : world.service ≡ N
    pub stands : StateShows world k over p
    pub came_so_far : (world.transcripts k).came ≡ came
    pub sent_so_far : (world.transcripts k).sent ≡ sent
    pub log_so_far : world.log ≡ log
    pub others : (j : ℕ) → (j == k) ≡ false → IsSame w world j

  pub going-leads : (Adds : List LogEntry → List LogEntry → Type 0) (M : D) (w : World D) (k : ℕ) (over : Bool) (p : Pending) (came sent : List ℕ) (log : List LogEntry) (N : D) → Adds w.log log → Goes M w k over p came sent log N
      → LeadsTo answers Adds M w k over p N
  going-leads Adds M w k over p came sent log N adds g = record {
    world = g.world;
    reached = g.reached;
    service = g.service;
    log = subst (λ (l : List LogEntry). Adds w.log l) (sym g.log_so_far) adds;
    stands = g.stands;
    others = λ j o q e s. stands-still w g.world j o q (g.others j e).transcript (g.others j e).turned s;
  }

  -- a change of one connection alone
  goes-on : (M : D) (w : World D) (k : ℕ) (over : Bool) (q : Pending) (change : Transcript → Transcript) → Reached answers M (on_connection w k change)
      → (change (w.transcripts k)).rest ≡ q.held → (change (w.transcripts k)).shut ≡ over → (change (w.transcripts k)).out ≡ (change (w.transcripts k)).sent ++ q.outgoing
      → (q.ends ≡ None → MayHave (turns_of k w.log) q.left) → Goes M w k over q (change (w.transcripts k)).came (change (w.transcripts k)).sent w.log w.service
  goes-on M w k over q change reached held shut outgoing may =
      let changed = pick-first (k == k) (change (w.transcripts k)) (w.transcripts k) (at-same k) in
      record {
        world = on_connection w k change;
        reached = reached;
        service = refl;
        stands = stands-with (on_connection w k change) k over q (change (w.transcripts k)) (turns_of k w.log) changed refl held shut outgoing may;
        came_so_far = ap (λ (l : Transcript). l.came) changed;
        sent_so_far = ap (λ (l : Transcript). l.sent) changed;
        log_so_far = refl;
        others = λ j e. record { transcript = pick-second (j == k) (change (w.transcripts j)) (w.transcripts j) e; turned = refl };
      }

  pub state-begins : Begins answers
  state-begins M k = record {
    held = refl;
    shut = refl;
    outgoing = refl;
    may_have = λ going. record { go_on = tt; some = omega arith; all = inl refl };
  }

  pub goes-by-comes : (M : D) (w : World D) (k : ℕ) (p : Pending) (bytes : List ℕ) → Reached answers M w → StateShows w k false p
      → Goes M w k false (holding p (p.held ++ bytes)) ((w.transcripts k).came ++ bytes) (w.transcripts k).sent w.log w.service
  goes-by-comes M w k p bytes r s = goes-on M w k false (holding p (p.held ++ bytes)) (with_bytes bytes) (comes w r k bytes s.shut)
      (ap (λ (l : List ℕ). l ++ bytes) s.held) s.shut s.outgoing s.may_have

  pub state-comes : Comes answers
  state-comes M w k p bytes r s = going-leads AddsNone M w k false (holding p (p.held ++ bytes)) _ _ w.log w.service refl (goes-by-comes M w k p bytes r s)

  pub goes-by-shuts : (M : D) (w : World D) (k : ℕ) (over : Bool) (p : Pending) → Reached answers M w → StateShows w k over p
      → Goes M w k true p (w.transcripts k).came (w.transcripts k).sent w.log w.service
  goes-by-shuts M w k over p r s = goes-on M w k true p at_end (shuts w r k) s.held refl s.outgoing s.may_have

  pub state-shuts : Shuts answers
  state-shuts M w k over p r s = going-leads AddsNone M w k true p _ _ w.log w.service refl (goes-by-shuts M w k over p r s)

  pub goes-by-sends : (M : D) (w : World D) (k : ℕ) (over : Bool) (p : Pending) (put rest : List ℕ) → Reached answers M w → StateShows w k over p → p.outgoing ≡ put ++ rest
      → Goes M w k over (sending p rest) (w.transcripts k).came ((w.transcripts k).sent ++ put) w.log w.service
  goes-by-sends M w k over p put rest r s is =
      let l = w.transcripts k in
      let split : l.out ≡ (l.sent ++ put) ++ rest = s.outgoing ∙ ap (λ (u : List ℕ). l.sent ++ u) is ∙ sym (append_assoc l.sent put rest) in
      goes-on M w k over (sending p rest) (with_sent (l.sent ++ put)) (sends w r k (l.sent ++ put) rest split) s.held s.shut split s.may_have

  pub state-sends : Sends answers
  state-sends M w k over p count r s =
      going-leads AddsNone M w k over (sending p (drop count p.outgoing)) _ _ w.log w.service refl
      (goes-by-sends M w k over p (take count p.outgoing) (drop count p.outgoing) r s (sym (take-append-drop count p.outgoing)))

  pub goes-by-turns : (M : D) (w : World D) (k : ℕ) (over : Bool) (p q : Pending) (N : D) (readings readings2 : Option (List ℕ)) → Reached answers M w → StateShows w k over p → p.ends ≡ None → p.outgoing ≡ []
      → TakesTurn answers p q w.service N readings readings2 over
      → (log : List LogEntry) × AddsOne k readings readings2 w.log log × Goes M w k over q (w.transcripts k).came (w.transcripts k).sent log N
  goes-by-turns M w k over p q N readings readings2 r s going none t =
      let l = w.transcripts k in
      let ts = turns_of k w.log in
      let may = s.may_have going in
      let turn : Turn = record { cause = t.cause; exchanges = t.turns.exchanges; outcome = t.turns.outcome; ended = t.turned.end } in
      let took : TakenOf l.rest q.held (l.shut ≡ true) (taken_for t.cause) =
      subst (λ (bs : List ℕ). TakenOf bs q.held (l.shut ≡ true) (taken_for t.cause)) (sym s.held)
      (subst (λ (b : Bool). TakenOf p.held q.held (b ≡ true) (taken_for t.cause)) (sym s.shut) t.took) in
      let stops = (p.left == 1) && not (length ts + 1 == 1000) in
      let is_turn : IsTurn answers w.service (is_last stops ts) turn N =
      subst (λ (b : Bool). IsTurnFor answers t.cause w.service b t.turns.exchanges t.turns.outcome t.turned.end N) (same-last (length ts) p.left may.some may.all) t.turns.is_turn in
      let v = turned_on answers.speaks w k stops turn q.held N in
      let sent : l.out ≡ l.sent = s.outgoing ∙ ap (λ (u : List ℕ). l.sent ++ u) none ∙ append-nil l.sent in
      let outgoing : l.out ++ response_of answers.speaks turn ≡ l.sent ++ q.outgoing =
      ap (λ (u : List ℕ). u ++ response_of answers.speaks turn) sent
      ∙ ap (λ (u : List ℕ). l.sent ++ u) (sym (t.outgoing ∙ bytes-same (labels_of answers.speaks t.cause t.turns.exchanges t.turns.outcome) (is_known_in answers.speaks t.cause t.turns.exchanges t.turns.outcome)
      t.turns.outcome t.turned.answer (is_some t.turned.end) t.turns.answer)) in
      let later : q.ends ≡ None → MayHave (turn ∷ ts) q.left = λ stays.
      let ended = sym t.ends ∙ stays in
      let one = count-one t.cause (on-request answers t.cause w.service (p.left == 1) t.turns.exchanges t.turns.outcome t.turned.end N t.turns.is_turn ended) in
      let last = on-not_last answers t.cause w.service (p.left == 1) t.turns.exchanges t.turns.outcome t.turned.end N t.turns.is_turn ended in
      may-more ts turn p.left q.left may ended last (t.left ∙ ap (λ (n : ℕ). p.left - n) one) in
      let changed = pick-first (k == k) (with_turn answers.speaks turn q.held l) l (at-same k) in
      let log = record { from = k; stops = stops; turn = turn } ∷ w.log in (
        log,
        record { stops = stops; turn = turn; log = refl; asked = t.asked },
        record {
          world = v;
          reached = turns w r k stops turn q.held N may.go_on took is_turn;
          service = refl;
          stands = stands-with v k over q (with_turn answers.speaks turn q.held l) (turn ∷ ts) changed (pick-first (k == k) (turn ∷ ts) ts (at-same k)) refl s.shut outgoing later;
          came_so_far = ap (λ (m : Transcript). m.came) changed;
          sent_so_far = ap (λ (m : Transcript). m.sent) changed;
          log_so_far = refl;
          others = λ j e. record {
            transcript = pick-second (j == k) (with_turn answers.speaks turn q.held (w.transcripts j)) (w.transcripts j) e;
            turned = pick-second (j == k) (turn ∷ turns_of j w.log) (turns_of j w.log) e;
          };
        },
      )

  pub state-turns : TakesTurns answers
  state-turns M w k over p q N readings readings2 r s going none t =
      let it = goes-by-turns M w k over p q N readings readings2 r s going none t in
      going-leads (AddsOne k readings readings2) M w k over q _ _ it.0 N it.1 it.2
