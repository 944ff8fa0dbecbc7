-- What a visit of one connection makes of all of them.
use Rattle.std.proofs.Common.{◌≡◌, ◌⊎◌, ◌++◌, ◌∙◌, [], ℕ, Bool, true, false, List, length, Option, None, Some, IsSome, refl, ap, subst, sym, inl, inr, append-nil, append_assoc}
use Rattle.std.proofs.lemmas.Bool.{false≢true}
use Rattle.std.specs.Io.KnownBytes.{append_known}
use Rattle.registry_service.specs.Histories.{LogEntry, Reached, Transcript, World}
use Rattle.registry_service.specs.Turns.{Dialogue}
use Rattle.registry_service.specs.declared.turning.End.{End}
use Rattle.registry_server.specs.ConnectionStates.{IsStarved, Pending, TakesNone, TakesTurn, holding, sending}
use Rattle.registry_server.specs.Connections.{Keeps, OpenConnection, TakesOne, Visits}
use Rattle.registry_server.specs.Phases.{SentAt, entered}
use Rattle.registry_server.specs.declared.phase.Stage.TheVariants.{Sends}
use Rattle.registry_server.specs.Worlds.{AddsOne, AddsTurn, Finishes, ShowsReceived, ShowsSent, SocketShows, StateShows, VisitLeadsTo, VisitsLead}
use Rattle.registry_server.proofs.WorldFacts.{Goes, IsSame, goes-by-comes, goes-by-sends, goes-by-shuts, goes-by-turns, same-after, stands-still, state-lasts}

-- ---- what is known of the bytes of a socket

some-not-none : {A : Type 0} (o : Option A) → IsSome o → o ≡ None → ⊥
some-not-none None h e = cc
some-not-none (Some x) h e = cc

some-is : {A : Type 0} (o : Option A) (x : A) → o ≡ Some x → IsSome o
some-is None x e = cc
some-is (Some y) x e = refl

-- want of memory ends a connection
starved-ends : (old due : Pending) → IsStarved old due → IsSome due.ends
starved-ends old due s = some-is due.ends _ (ap (λ (p : Pending). p.ends) s.state ∙ s.away.is_turn.1)

received-held : (known : Option (List ℕ)) (l m : Transcript) (got : List ℕ) (e f : Option End) → ShowsReceived known l e → e ≡ None → m.came ≡ l.came ++ got → ShowsReceived (append_known known got) m f
received-held None l m got e f shown goes came = tt
received-held (Some bytes) l m got e f shown goes came =
    let all : bytes ≡ l.came = shown.1 ∙ ap (λ (d : List ℕ). l.came ++ d) (shown.2 goes) ∙ append-nil l.came in
    ([], ap (λ (b : List ℕ). b ++ got) all ∙ sym came ∙ sym (append-nil m.came), λ _. refl)

received-dropped : (known : Option (List ℕ)) (l m : Transcript) (got : List ℕ) (e f : Option End) → ShowsReceived known l e → IsSome f → m.came ≡ l.came → ShowsReceived (append_known known got) m f
received-dropped None l m got e f shown ended came = tt
received-dropped (Some bytes) l m got e f shown ended came = (
  shown.0 ++ got,
  ap (λ (b : List ℕ). b ++ got) shown.1 ∙ append_assoc l.came shown.0 got ∙ ap (λ (c : List ℕ). c ++ (shown.0 ++ got)) (sym came),
  λ none. absurd (some-not-none f ended none),
)

sent-more : (known : Option (List ℕ)) (l m : Transcript) (put : List ℕ) → ShowsSent known l → m.sent ≡ l.sent ++ put → ShowsSent (append_known known put) m
sent-more None l m put shown sent = tt
sent-more (Some bytes) l m put shown sent = ap (λ (b : List ℕ). b ++ put) shown ∙ sym sent

-- ---- the steps of a visit, one after the other

module _ {D : Type 0} (answers : Dialogue D) where
  chained : (M : D) (w : World D) (k : ℕ) (over over2 : Bool) (p q : Pending) (came sent came2 sent2 came3 sent3 : List ℕ) (log log2 log3 : List LogEntry) (N N2 : D)
      → (g : Goes answers M w k over p came sent log N) → Goes answers M g.world k over2 q came2 sent2 log2 N2 → came2 ≡ came3 → sent2 ≡ sent3 → log2 ≡ log3
      → Goes answers M w k over2 q came3 sent3 log3 N2
  chained M w k over over2 p q came sent came2 sent2 came3 sent3 log log2 log3 N N2 g h c s l = record {
    world = h.world;
    reached = h.reached;
    service = h.service;
    stands = h.stands;
    came_so_far = h.came_so_far ∙ c;
    sent_so_far = h.sent_so_far ∙ s;
    log_so_far = h.log_so_far ∙ l;
    others = λ j e. same-after w g.world h.world j (g.others j e) (h.others j e);
  }

  goes-nowhere : (M : D) (w : World D) (k : ℕ) (over : Bool) (p : Pending) → Reached answers M w → StateShows w k over p
      → Goes answers M w k over p (w.transcripts k).came (w.transcripts k).sent w.log w.service
  goes-nowhere M w k over p r s = record {
    world = w;
    reached = r;
    service = refl;
    stands = s;
    came_so_far = refl;
    sent_so_far = refl;
    log_so_far = refl;
    others = λ j e. record { transcript = refl; turned = refl };
  }

  with-state : (M : D) (w : World D) (k : ℕ) (over : Bool) (p q : Pending) (came sent : List ℕ) (log : List LogEntry) (N : D) → p ≡ q → Goes answers M w k over p came sent log N → Goes answers M w k over q came sent log N
  with-state M w k over p q came sent log N same g = subst (λ (x : Pending). Goes answers M w k over x came sent log N) same g

  -- bytes come, and none once the other side sends no more
  reads : (M : D) (w : World D) (k : ℕ) (over : Bool) (p q : Pending) (got : List ℕ) → Reached answers M w → StateShows w k over p → q ≡ holding p (p.held ++ got) → (over ≡ true → got ≡ [])
      → Goes answers M w k over q ((w.transcripts k).came ++ got) (w.transcripts k).sent w.log w.service
  reads M w k false p q got r s held none = with-state M w k false (holding p (p.held ++ got)) q _ _ w.log w.service (sym held) (goes-by-comes answers M w k p got r s)
  reads M w k true p q got r s held none =
      let l = w.transcripts k in
      let nothing = none refl in
      let same : p ≡ q = sym (held ∙ ap (λ (b : List ℕ). holding p (p.held ++ b)) nothing ∙ ap (holding p) (append-nil p.held)) in
      let came : l.came ≡ l.came ++ got = sym (ap (λ (b : List ℕ). l.came ++ b) nothing ∙ append-nil l.came) in
      with-state M w k true p q _ _ w.log w.service same
      (subst (λ (c : List ℕ). Goes answers M w k true p c l.sent w.log w.service) came (goes-nowhere M w k true p r s))

  -- the other side may send no more
  then-shuts : (M : D) (w : World D) (k : ℕ) (over over2 : Bool) (p : Pending) (came sent : List ℕ) (log : List LogEntry) (N : D) → (over ≡ true → over2 ≡ true)
      → Goes answers M w k over p came sent log N → Goes answers M w k over2 p came sent log N
  then-shuts M w k over true p came sent log N stays g =
      subst (λ (n : D). Goes answers M w k true p came sent log n) g.service
      (chained M w k over true p p came sent _ _ came sent log _ log N g.world.service g (goes-by-shuts answers M g.world k over p g.reached g.stands) g.came_so_far g.sent_so_far g.log_so_far)
  then-shuts M w k false false p came sent log N stays g = g
  then-shuts M w k true false p came sent log N stays g = absurd (false≢true (stays refl))

  -- a turn is taken, or none
  then-turns : (M : D) (w : World D) (k : ℕ) (over : Bool) (p q : Pending) (A B : Type 0) (came sent : List ℕ) (log : List LogEntry) (N N2 : D) (readings readings2 : Option (List ℕ))
      → (TakesOne answers p q N N2 readings readings2 over × A) ⊎ (TakesNone answers p q N N2 readings readings2 × B) → Goes answers M w k over p came sent log N
      → (log2 : List LogEntry) × AddsTurn k readings readings2 log log2 × Goes answers M w k over q came sent log2 N2
  then-turns M w k over p q A B came sent log N N2 readings readings2 (inl t) g =
      let it = goes-by-turns answers M g.world k over p q N2 readings readings2 g.reached g.stands t.0.may.goes_on t.0.may.all_sent
      (subst (λ (n : D). TakesTurn answers p q n N2 readings readings2 over) (sym g.service) t.0.takes) in (
        it.0,
        inl (subst (λ (l : List LogEntry). AddsOne k readings readings2 l it.0) g.log_so_far it.1),
        chained M w k over over p q came sent _ _ came sent log it.0 it.0 N N2 g it.2 g.came_so_far g.sent_so_far refl,
      )
  then-turns M w k over p q A B came sent log N N2 readings readings2 (inr t) g = (
    log,
    inr (refl, t.0.unasked),
    subst (λ (n : D). Goes answers M w k over q came sent log n) (sym t.0.service) (with-state M w k over p q came sent log N (sym t.0.state) g),
  )

  -- some of what is due is sent
  then-sends : (M : D) (w : World D) (k : ℕ) (over : Bool) (p q : Pending) (put came sent : List ℕ) (log : List LogEntry) (N : D) → p ≡ sending q (put ++ q.outgoing)
      → Goes answers M w k over p came sent log N → Goes answers M w k over q came (sent ++ put) log N
  then-sends M w k over p q put came sent log N due g =
      let gone = goes-by-sends answers M g.world k over p put q.outgoing g.reached g.stands (ap (λ (x : Pending). x.outgoing) due) in
      subst (λ (n : D). Goes answers M w k over q came (sent ++ put) log n) g.service
      (with-state M w k over (sending p q.outgoing) q _ _ log g.world.service (ap (λ (x : Pending). sending x q.outgoing) due)
      (chained M w k over over p (sending p q.outgoing) came sent _ _ came (sent ++ put) log _ log N g.world.service g gone
      g.came_so_far (ap (λ (b : List ℕ). b ++ put) g.sent_so_far) g.log_so_far))

  -- all of them but the first
  goes-after : (M : D) (w : World D) (k : ℕ) (over over2 : Bool) (read due new : Pending) (A B : Type 0) (put came sent : List ℕ) (log : List LogEntry) (N N2 : D) (readings readings2 : Option (List ℕ))
      → (over ≡ true → over2 ≡ true) → (TakesOne answers read due N N2 readings readings2 over2 × A) ⊎ (TakesNone answers read due N N2 readings readings2 × B)
      → due ≡ sending new (put ++ new.outgoing)
      → Goes answers M w k over read came sent log N
      → (log2 : List LogEntry) × AddsTurn k readings readings2 log log2 × Goes answers M w k over2 new came (sent ++ put) log2 N2
  goes-after M w k over over2 read due new A B put came sent log N N2 readings readings2 stays turned sends g =
      let it = then-turns M w k over2 read due A B came sent log N N2 readings readings2 turned (then-shuts M w k over over2 read came sent log N stays g) in
      (it.0, it.1, then-sends M w k over2 due new put came sent it.0 N2 sends it.2)

  -- what was dropped ends the connection, or it had ended
  drops-ended : (old read due : Pending) (A B : Type 0) (M N : D) (readings readings2 : Option (List ℕ)) (over : Bool)
      → (TakesOne answers read due M N readings readings2 over × A) ⊎ (TakesNone answers read due M N readings readings2 × B)
      → read ≡ old → IsSome old.ends ⊎ IsStarved old due → IsSome due.ends
  drops-ended old read due A B M N readings readings2 over turned same (inr starved) = starved-ends old due starved
  drops-ended old read due A B M N readings readings2 over (inl t) same (inl some) =
      absurd (some-not-none old.ends some (ap (λ (p : Pending). p.ends) (sym same) ∙ t.0.may.goes_on))
  drops-ended old read due A B M N readings readings2 over (inr t) same (inl some) =
      subst IsSome (ap (λ (p : Pending). p.ends) (sym (t.0.state ∙ same))) some

module _ {S : Type 0} (received sent : S → Option (List ℕ)) {D : Type 0} (answers : Dialogue D) where
  shows-still : (w v : World D) (j : ℕ) (c : OpenConnection S) → IsSame w v j → SocketShows received sent w j c → SocketShows received sent v j c
  shows-still w v j c same s = record {
    state = stands-still w v j c.is_over c.state same.transcript same.turned s.state;
    received_so_far = subst (λ (l : Transcript). ShowsReceived (received c.socket) l c.state.ends) (sym same.transcript) s.received_so_far;
    sent_so_far = subst (λ (l : Transcript). ShowsSent (sent c.socket) l) (sym same.transcript) s.sent_so_far;
  }

  leads-as : (M : D) (w : World D) (k : ℕ) (old new : OpenConnection S) (N : D) (readings readings2 : Option (List ℕ)) (put came : List ℕ) (log : List LogEntry) → SocketShows received sent w k old
      → sent new.socket ≡ append_known (sent old.socket) put → AddsTurn k readings readings2 w.log log
      → (g : Goes answers M w k new.is_over new.state came ((w.transcripts k).sent ++ put) log N)
      → ShowsReceived (received new.socket) (g.world.transcripts k) new.state.ends
      → VisitLeadsTo received sent answers M w k new N readings readings2
  leads-as M w k old new N readings readings2 put came log s took adds g shown = record {
    world = g.world;
    reached = g.reached;
    service = g.service;
    log = subst (λ (l : List LogEntry). AddsTurn k readings readings2 w.log l) (sym g.log_so_far) adds;
    stands = record {
      state = g.stands;
      received_so_far = shown;
      sent_so_far = subst (λ (known : Option (List ℕ)). ShowsSent known (g.world.transcripts k)) (sym took)
          (sent-more (sent old.socket) (w.transcripts k) (g.world.transcripts k) put s.sent_so_far g.sent_so_far);
    };
    others = λ j c e shows. shows-still w g.world j c (g.others j e) shows;
  }

  keeps-leads : (M : D) (w : World D) (k now most : ℕ) (old new : OpenConnection S) (N : D) (readings readings2 : Option (List ℕ)) → Reached answers M w → SocketShows received sent w k old
      → (v : Visits received sent answers now most old new w.service N readings readings2) → Keeps v.got old.state old.is_over v.read v.due
      → VisitLeadsTo received sent answers M w k new N readings readings2
  keeps-leads M w k now most old new N readings readings2 r s v (inl held) =
      let l = w.transcripts k in
      let it = goes-after answers M w k old.is_over new.is_over v.read v.due new.state (SentAt now (length v.put) (entered old.phase Sends now) new.phase) (SentAt now (length v.put) old.phase new.phase) v.put (l.came ++ v.got) l.sent w.log w.service N readings readings2 v.over v.turns v.sends
      (reads answers M w k old.is_over old.state v.read v.got r s.state held.1 held.2) in
      let g : Goes answers M w k new.is_over new.state (l.came ++ v.got) (l.sent ++ v.put) it.0 N = it.2 in
      leads-as M w k old new N readings readings2 v.put (l.came ++ v.got) it.0 s v.took it.1 g
      (subst (λ (known : Option (List ℕ)). ShowsReceived known (g.world.transcripts k) new.state.ends) (sym v.gave)
      (received-held (received old.socket) l (g.world.transcripts k) v.got old.state.ends new.state.ends s.received_so_far held.0 g.came_so_far))
  keeps-leads M w k now most old new N readings readings2 r s v (inr dropped) =
      let l = w.transcripts k in
      let it = goes-after answers M w k old.is_over new.is_over v.read v.due new.state (SentAt now (length v.put) (entered old.phase Sends now) new.phase) (SentAt now (length v.put) old.phase new.phase) v.put l.came l.sent w.log w.service N readings readings2 v.over v.turns v.sends
      (goes-nowhere answers M w k old.is_over v.read r (subst (λ (p : Pending). StateShows w k old.is_over p) (sym dropped.0) s.state)) in
      let g : Goes answers M w k new.is_over new.state l.came (l.sent ++ v.put) it.0 N = it.2 in
      let ended : IsSome new.state.ends = subst IsSome (ap (λ (p : Pending). p.ends) v.sends)
      (drops-ended answers old.state v.read v.due (SentAt now (length v.put) (entered old.phase Sends now) new.phase) (SentAt now (length v.put) old.phase new.phase) w.service N readings readings2 new.is_over v.turns dropped.0 dropped.1) in
      leads-as M w k old new N readings readings2 v.put l.came it.0 s v.took it.1 g
      (subst (λ (known : Option (List ℕ)). ShowsReceived known (g.world.transcripts k) new.state.ends) (sym v.gave)
      (received-dropped (received old.socket) l (g.world.transcripts k) v.got old.state.ends new.state.ends s.received_so_far ended g.came_so_far))

  pub visits-lead : VisitsLead received sent answers
  visits-lead M w k now most old new N readings readings2 r s v = keeps-leads M w k now most old new N readings readings2 r s v v.keeps

pub finishes : (D : Type 0) {S : Type 0} (received sent : S → Option (List ℕ)) → Finishes D received sent
finishes D received sent w k c s = record {
  state = state-lasts D w k c.is_over c.state s.state;
  received_so_far = s.received_so_far;
  sent_so_far = s.sent_so_far;
}
