-- What holds or stops a server.
use Rattle.std.proofs.Common.{◌≡◌, ◌++◌, ◌∷◌, ◌==◌, ◌∙◌, [], ℕ, Bool, true, false, List, Option, None, Some, get_or, length, refl, ap, sym, subst, inl, inr, arith, ◌&&◌, ◌||◌, not, if◌then◌else◌}
use Rattle.std.specs.Prelude.{⊤, IfSome}
use Rattle.std.proofs.lemmas.Bool.{false≢true}
use Rattle.std.proofs.lemmas.Bool.Decides.{nat_tests}
use Rattle.std.specs.Io.KnownBytes.{append_known}
use Rattle.registry_server.specs.declared.connection.Visit.{Visit}
use Rattle.registry_server.specs.declared.connection.Visit.TheVariants.{Again, Rests, Over}
use Rattle.registry_guests.specs.Controls.{AcceptsIfFree, Answers, Attends, BeginsWith, Receives, HasAsked, HoldersAskFirst, HoldersHaveAsked, IsSilent, Obeys, Reached, StopsStay, Visits, VisitsControl, VisitsIf, VisitsThere, after, after_visit, begins, comes, control, hold_byte, hold_limit, holds, holds_at, holds_with, in_time, is_late, kept_at, kept_byte, let_go, stop_byte, stops, stops_at, time_after, visited, wakes}
use Rattle.registry_guests.specs.declared.control.Control.{Control}
use Rattle.registry_guests.specs.declared.control.ControlConnection.{ControlConnection}
use Rattle.registry_guests.specs.declared.control_session.ControlSession.{ControlSession}
use Rattle.registry_guests.specs.declared.control_session.ControlSession.TheVariants.{Silent, Holds, Stops}

-- a list of one
pub only-one : (l : List ℕ) (d : ℕ) → length l ≡ 1 → l ≡ get_or l 0 d ∷ []
only-one [] d is = absurd (omega (arith, is))
only-one (x ∷ []) d is = refl
only-one (x ∷ (y ∷ l)) d is = absurd (omega (arith, is))

none-some : {A B : Type 0} (x : A) → None ≡ Some x → B
none-some x is = absurd (cc)

some-is : {A : Type 0} (x y : A) → Some x ≡ Some y → x ≡ y
some-is x y is = cc

same-byte : (a b : ℕ) → (a == b) ≡ true → a ≡ b
same-byte a b is = grind (arith, nat_tests, is)

-- ---- who holds a server after a byte

no-hold : {B : Type 0} (next : ControlSession) → Some Stops ≡ Some next → holds_at next ≡ true → B
no-hold next is holding = absurd (false≢true (ap holds_at (some-is Stops next is) ∙ holding))

silent-hold : (asks stops stopping : Bool) (until : ℕ) (next : ControlSession) → (if asks && not stopping then Some (Holds until) else (if stops then Some Stops else None)) ≡ Some next
    → holds_at next ≡ true → (asks ≡ true) × (stopping ≡ false)
silent-hold true stops false until next is holding = (refl, refl)
silent-hold true true true until next is holding = no-hold next is holding
silent-hold true false true until next is holding = none-some next is
silent-hold false true stopping until next is holding = no-hold next is holding
silent-hold false false stopping until next is holding = none-some next is

first-hold : (session next : ControlSession) (byte : ℕ) (stopping : Bool) (now : ℕ) → holds_at session ≡ false → after session byte stopping now ≡ Some next → holds_at next ≡ true
    → ((byte == hold_byte) ≡ true) × (stopping ≡ false)
first-hold (Silent until) next byte stopping now was is holding =
    silent-hold (byte == hold_byte) (byte == stop_byte) stopping (time_after now hold_limit) next is holding
first-hold (Holds until) next byte stopping now was is holding = absurd (false≢true (sym was))
first-hold Stops next byte stopping now was is holding = none-some next is

-- ---- what a byte makes of a connection

abbrev is_silent : ControlSession → Bool
is_silent (Silent until) = true
is_silent (Holds until) = false
is_silent Stops = false

-- nothing is silent once it sent a byte
output_with : (asks says stopping : Bool) (until : ℕ) (next : ControlSession) → (if asks && not stopping then Some (Holds until) else (if says then Some Stops else None)) ≡ Some next → is_silent next ≡ false
output_with true says false until next is = sym (ap is_silent (some-is (Holds until) next is))
output_with true true true until next is = sym (ap is_silent (some-is Stops next is))
output_with true false true until next is = none-some next is
output_with false true stopping until next is = sym (ap is_silent (some-is Stops next is))
output_with false false stopping until next is = none-some next is

-- who holds the server still holds it, or is let go
held : (kept : Bool) (until : ℕ) (next : ControlSession) → (if kept then Some (Holds until) else None) ≡ Some next → Holds until ≡ next
held true until next is = some-is (Holds until) next is
held false until next is = none-some next is

-- ---- known bytes

begin-more : (byte : ℕ) (known later : Option (List ℕ)) (more : List ℕ) → BeginsWith byte known → later ≡ append_known known more → BeginsWith byte later
begin-more byte None later more is same = subst (BeginsWith byte) (sym same) tt
begin-more byte (Some xs) later more is same = subst (BeginsWith byte) (sym same) (is.0 ++ more, ap (λ (l : List ℕ). l ++ more) is.1)

begin-now : (byte : ℕ) (known later : Option (List ℕ)) → IfSome known (λ bytes. bytes ≡ []) → later ≡ append_known known (byte ∷ []) → BeginsWith byte later
begin-now byte None later is same = subst (BeginsWith byte) (sym same) tt
begin-now byte (Some xs) later is same = subst (BeginsWith byte) (sym same) ([], ap (λ (l : List ℕ). l ++ byte ∷ []) is)

none-more : (known later : Option (List ℕ)) → IfSome known (λ bytes. bytes ≡ []) → later ≡ append_known known [] → IfSome later (λ bytes. bytes ≡ [])
none-more None later is same = subst (λ (k : Option (List ℕ)). IfSome k (λ bytes. bytes ≡ [])) (sym same) tt
none-more (Some xs) later is same = subst (λ (k : Option (List ℕ)). IfSome k (λ bytes. bytes ≡ [])) (sym same) (ap (λ (l : List ℕ). l ++ []) is)

told : (byte : ℕ) (before later : Option (List ℕ)) (visit : Visit) → Answers true byte before later visit → (visit ≡ Over → ⊥) → later ≡ append_known before (byte ∷ [])
told byte before later visit (inl output) on = output.0
told byte before later visit (inr over) on = absurd (on over.1)

module _ {S : Type 0} (received sent : S → Option (List ℕ)) (has_none is_ended is_broken : S → Bool) where
  -- ---- a visit

  -- nobody is to be visited
  pub control-rests : (now : ℕ) (c : Control S) → c.is_ready ≡ false → VisitsControl received sent has_none is_ended is_broken now c c
  control-rests now c is = subst (λ (b : Bool). VisitsIf received sent has_none is_ended is_broken b now c c) (sym is) refl

  there : (now : ℕ) (p q : Control S) (o : Option (ControlConnection S)) → p.is_ready ≡ true → p.connection ≡ o → VisitsThere received sent has_none is_ended is_broken now o p.is_stopping q
      → VisitsControl received sent has_none is_ended is_broken now p q
  there now p q o is at visits =
      subst (λ (b : Bool). VisitsIf received sent has_none is_ended is_broken b now p q) (sym is)
      (subst (λ (v : Option (ControlConnection S)). VisitsThere received sent has_none is_ended is_broken now v p.is_stopping q) (sym at) visits)

  -- nobody is there
  pub control-free : (now : ℕ) (p : Control S) → p.is_ready ≡ true → p.connection ≡ None → VisitsControl received sent has_none is_ended is_broken now p (control p.connection false p.is_stopping)
  control-free now p is at = there now p (control p.connection false p.is_stopping) None is at (ap (λ (o : Option (ControlConnection S)). control o false p.is_stopping) at)

  -- a connection is there, and was visited
  pub control-there : (now : ℕ) (p : Control S) (v w : ControlConnection S) (visit : Visit) → p.is_ready ≡ true → p.connection ≡ Some v
      → Visits received sent is_ended is_broken p.is_stopping now v w visit → (visit ≡ Rests → has_none w.socket ≡ true)
      → VisitsControl received sent has_none is_ended is_broken now p (after_visit visit w p.is_stopping)
  control-there now p v w visit is at visits waits =
      there now p (after_visit visit w p.is_stopping) (Some v) is at (record { connection = w; visit = visit; visits = visits; control_after = refl; waits = waits })

  -- ---- who holds it

  -- somebody is still there who holds it
  stays : (visit : Visit) (w : ControlConnection S) (b : Bool) → holds (after_visit visit w b) ≡ true → ((after_visit visit w b).connection ≡ Some w) × (holds_at w.session ≡ true) × (visit ≡ Over → ⊥)
  stays Again w b is = (refl, is, λ e. absurd (cc))
  stays Rests w b is = (refl, is, λ e. absurd (cc))
  stays Over w b is = absurd (false≢true is)

  -- a byte came
  asked-by : (stopping : Bool) (now : ℕ) (v w : ControlConnection S) (byte : ℕ) (visit : Visit) (o : Option ControlSession) → after v.session byte stopping now ≡ o
      → Obeys o byte v.session w.session (sent v.socket) (sent w.socket) visit → holds_at v.session ≡ false → holds_at w.session ≡ true → (visit ≡ Over → ⊥)
      → (byte ≡ hold_byte) × (stopping ≡ false) × (sent w.socket ≡ append_known (sent v.socket) (byte ∷ []))
  asked-by stopping now v w byte visit None at obeys was is on = absurd (false≢true (sym was ∙ sym (ap holds_at obeys.0) ∙ is))
  asked-by stopping now v w byte visit (Some next) at obeys was is on =
      let holding : holds_at next ≡ true = sym (ap holds_at obeys.0) ∙ is in
      let first = first-hold v.session next byte stopping now was at holding in
      let answers = subst (λ (b : Bool). Answers b byte (sent v.socket) (sent w.socket) visit) holding obeys.1 in
      (same-byte byte hold_byte first.0, first.1, told byte (sent v.socket) (sent w.socket) visit answers on)

  asked-input : (input : List ℕ) (stopping : Bool) (now : ℕ) (v w : ControlConnection S) (visit : Visit) → received w.socket ≡ append_known (received v.socket) input
      → Receives received sent is_ended is_broken input stopping now v w visit → holds_at v.session ≡ false → holds_at w.session ≡ true → (visit ≡ Over → ⊥)
      → (received w.socket ≡ append_known (received v.socket) (hold_byte ∷ [])) × (sent w.socket ≡ append_known (sent v.socket) (hold_byte ∷ [])) × (stopping ≡ false)
  asked-input [] stopping now v w visit gave receives was is on = absurd (false≢true (sym was ∙ sym (ap holds_at receives.0) ∙ is))
  asked-input (byte ∷ []) stopping now v w visit gave receives was is on =
      let asked = asked-by stopping now v w byte visit (after v.session byte stopping now) refl receives was is on in (
        subst (λ (b : ℕ). received w.socket ≡ append_known (received v.socket) (b ∷ [])) asked.0 gave,
        subst (λ (b : ℕ). sent w.socket ≡ append_known (sent v.socket) (b ∷ [])) asked.0 asked.2,
        asked.1,
      )
  asked-input (byte ∷ (more ∷ rest)) stopping now v w visit gave receives was is on = absurd receives

  asked-there : (now : ℕ) (old new : Control S) (o : Option (ControlConnection S)) → old.connection ≡ o → VisitsThere received sent has_none is_ended is_broken now o old.is_stopping new
      → holds_with o ≡ false → holds new ≡ true → HasAsked received sent has_none is_ended is_broken old new
  asked-there now old new None at v was is = absurd (false≢true (sym (ap holds v) ∙ is))
  asked-there now old new (Some v) at one was is =
      let still = stays one.visit one.connection old.is_stopping (sym (ap holds one.control_after) ∙ is) in
      let asked = asked-input one.visits.0 old.is_stopping now v one.connection one.visit one.visits.1 one.visits.2 was still.1 still.2 in
      record {
        before = v;
        later = one.connection;
        was = at;
        is = ap (λ (c : Control S). c.connection) one.control_after ∙ still.0;
        asked = asked.0;
        told = asked.1;
        goes_on = asked.2;
      }

  asked-if : (b : Bool) (now : ℕ) (old new : Control S) → VisitsIf received sent has_none is_ended is_broken b now old new → holds old ≡ false → holds new ≡ true
      → HasAsked received sent has_none is_ended is_broken old new
  asked-if true now old new v was is = asked-there now old new old.connection refl v was is
  asked-if false now old new same was is = absurd (false≢true (sym was ∙ sym (ap holds same) ∙ is))

  pub holders-have-asked : HoldersHaveAsked received sent has_none is_ended is_broken
  holders-have-asked now old new v was is = asked-if old.is_ready now old new v was is

  -- ---- a server that is to end

  stops-after : (visit : Visit) (w : ControlConnection S) (b : Bool) → b ≡ true → stops (after_visit visit w b) ≡ true
  stops-after Again w b is = ap (λ (t : Bool). t || stops_at w.session) is
  stops-after Rests w b is = ap (λ (t : Bool). t || stops_at w.session) is
  stops-after Over w b is = ap (λ (t : Bool). t || stops_at w.session) is

  stops-there : (now : ℕ) (new : Control S) (b : Bool) (o : Option (ControlConnection S)) → VisitsThere received sent has_none is_ended is_broken now o b new → b ≡ true → stops new ≡ true
  stops-there now new b None v is = ap stops v ∙ is
  stops-there now new b (Some v) one is = ap stops one.control_after ∙ stops-after one.visit one.connection b is

  stops-if : (b : Bool) (now : ℕ) (old new : Control S) → VisitsIf received sent has_none is_ended is_broken b now old new → stops old ≡ true → stops new ≡ true
  stops-if true now old new v is = stops-there now new old.is_stopping old.connection v is
  stops-if false now old new same is = ap stops same ∙ is

  pub stops-stay : StopsStay received sent has_none is_ended is_broken
  stops-stay now old new v is = stops-if old.is_ready now old new v is

  -- ---- what becomes of the connection that is there

  accepts-stay : (now : ℕ) (old new : Control S) → AcceptsIfFree now old new → stops old ≡ true → stops new ≡ true
  accepts-stay now old new a is = elim a [ inl same ↦ ap stops same ∙ is | inr came ↦ ap stops came.1.1 ∙ is ]

  pub attends-stay : (now : ℕ) (old new : Control S) → Attends received sent has_none is_ended is_broken now old new → stops old ≡ true → stops new ≡ true
  attends-stay now old new a is = accepts-stay now (kept_at now a.between) new a.accepts (stops-stay now old a.between a.visits is)

  -- ---- over a whole life

  -- what is known of the bytes of a connection
  abbrev Shows : ControlSession → S → Type 0
  Shows (Silent until) s = IsSilent received sent has_none is_ended is_broken s
  Shows (Holds until) s = BeginsWith hold_byte (received s) × BeginsWith hold_byte (sent s)
  Shows Stops s = ⊤

  abbrev ShowsThere : Option (ControlConnection S) → Type 0
  ShowsThere None = ⊤
  ShowsThere (Some v) = Shows v.session v.socket

  -- nothing came
  shows-still : (session : ControlSession) (s t : S) → received t ≡ append_known (received s) [] → sent t ≡ sent s → Shows session s → Shows session t
  shows-still (Silent until) s t gave unsent is = (none-more (received s) (received t) is.0 gave, subst (λ (k : Option (List ℕ)). IfSome k (λ bytes. bytes ≡ [])) (sym unsent) is.1)
  shows-still (Holds until) s t gave unsent is = (begin-more hold_byte (received s) (received t) [] is.0 gave, subst (BeginsWith hold_byte) (sym unsent) is.1)
  shows-still Stops s t gave unsent is = tt

  -- a silent connection sent a byte
  shows-first : (until : ℕ) (next : ControlSession) (byte : ℕ) (stopping : Bool) (now : ℕ) (s t : S) (visit : Visit) → after (Silent until) byte stopping now ≡ Some next → received t ≡ append_known (received s) (byte ∷ [])
      → Answers (holds_at next) byte (sent s) (sent t) visit → (visit ≡ Over → ⊥) → IsSilent received sent has_none is_ended is_broken s → Shows next t
  shows-first until (Silent u) byte stopping now s t visit is gave answers on silent =
      absurd (false≢true (sym (output_with (byte == hold_byte) (byte == stop_byte) stopping (time_after now hold_limit) (Silent u) is)))
  shows-first until (Holds u) byte stopping now s t visit is gave answers on silent =
      let asks = same-byte byte hold_byte (first-hold (Silent until) (Holds u) byte stopping now refl is refl).0 in (
        subst (λ (b : ℕ). BeginsWith b (received t)) asks (begin-now byte (received s) (received t) silent.0 gave),
        subst (λ (b : ℕ). BeginsWith b (sent t)) asks (begin-now byte (sent s) (sent t) silent.1 (told byte (sent s) (sent t) visit answers on)),
      )
  shows-first until Stops byte stopping now s t visit is gave answers on silent = tt

  -- one that holds the server did
  shows-held : (until : ℕ) (next : ControlSession) (byte : ℕ) (s t : S) (visit : Visit) → Holds until ≡ next → received t ≡ append_known (received s) (byte ∷ []) → Answers (holds_at next) byte (sent s) (sent t) visit
      → (visit ≡ Over → ⊥) → Shows (Holds until) s → Shows next t
  shows-held until next byte s t visit is gave answers on shows =
      let output = told byte (sent s) (sent t) visit (subst (λ (p : ControlSession). Answers (holds_at p) byte (sent s) (sent t) visit) (sym is) answers) on in
      subst (λ (p : ControlSession). Shows p t) is
      (begin-more hold_byte (received s) (received t) (byte ∷ []) shows.0 gave, begin-more hold_byte (sent s) (sent t) (byte ∷ []) shows.1 output)

  shows-next : (session next : ControlSession) (byte : ℕ) (stopping : Bool) (now : ℕ) (s t : S) (visit : Visit) → after session byte stopping now ≡ Some next → received t ≡ append_known (received s) (byte ∷ [])
      → Answers (holds_at next) byte (sent s) (sent t) visit → (visit ≡ Over → ⊥) → Shows session s → Shows next t
  shows-next (Silent until) next byte stopping now s t visit is gave answers on shows = shows-first until next byte stopping now s t visit is gave answers on shows
  shows-next (Holds until) next byte stopping now s t visit is gave answers on shows = shows-held until next byte s t visit (held (byte == kept_byte) until next is) gave answers on shows
  shows-next Stops next byte stopping now s t visit is gave answers on shows = none-some next is

  shows-obeyed : (stopping : Bool) (now : ℕ) (v w : ControlConnection S) (byte : ℕ) (visit : Visit) (o : Option ControlSession) → after v.session byte stopping now ≡ o → received w.socket ≡ append_known (received v.socket) (byte ∷ [])
      → Obeys o byte v.session w.session (sent v.socket) (sent w.socket) visit → (visit ≡ Over → ⊥) → Shows v.session v.socket → Shows w.session w.socket
  shows-obeyed stopping now v w byte visit None at gave obeys on shows = absurd (on obeys.2)
  shows-obeyed stopping now v w byte visit (Some next) at gave obeys on shows =
      subst (λ (p : ControlSession). Shows p w.socket) (sym obeys.0) (shows-next v.session next byte stopping now v.socket w.socket visit at gave obeys.1 on shows)

  shows-input : (input : List ℕ) (stopping : Bool) (now : ℕ) (v w : ControlConnection S) (visit : Visit) → received w.socket ≡ append_known (received v.socket) input
      → Receives received sent is_ended is_broken input stopping now v w visit → (visit ≡ Over → ⊥) → Shows v.session v.socket → Shows w.session w.socket
  shows-input [] stopping now v w visit gave receives on shows = subst (λ (p : ControlSession). Shows p w.socket) (sym receives.0) (shows-still v.session v.socket w.socket gave receives.1 shows)
  shows-input (byte ∷ []) stopping now v w visit gave receives on shows = shows-obeyed stopping now v w byte visit (after v.session byte stopping now) refl gave receives on shows
  shows-input (byte ∷ (more ∷ rest)) stopping now v w visit gave receives on shows = absurd receives

  shows-after : (visit : Visit) (w : ControlConnection S) (b : Bool) → ((visit ≡ Over → ⊥) → Shows w.session w.socket) → ShowsThere (after_visit visit w b).connection
  shows-after Again w b is = is (λ e. absurd (cc))
  shows-after Rests w b is = is (λ e. absurd (cc))
  shows-after Over w b is = tt

  shows-there : (now : ℕ) (new : Control S) (b : Bool) (o : Option (ControlConnection S)) → VisitsThere received sent has_none is_ended is_broken now o b new → ShowsThere o → ShowsThere new.connection
  shows-there now new b None v shows = subst ShowsThere (sym (ap (λ (c : Control S). c.connection) v)) tt
  shows-there now new b (Some v) one shows =
      subst ShowsThere (sym (ap (λ (c : Control S). c.connection) one.control_after))
      (shows-after one.visit one.connection b (λ on. shows-input one.visits.0 b now v one.connection one.visit one.visits.1 one.visits.2 on shows))

  shows-if : (b : Bool) (now : ℕ) (old new : Control S) → VisitsIf received sent has_none is_ended is_broken b now old new → ShowsThere old.connection → ShowsThere new.connection
  shows-if true now old new v shows = shows-there now new old.is_stopping old.connection v shows
  shows-if false now old new same shows = subst ShowsThere (sym (ap (λ (c : Control S). c.connection) same)) shows

  shows-unless : (late : Bool) (v : ControlConnection S) → ShowsThere (Some v) → ShowsThere (if late then None else Some v)
  shows-unless true v shows = tt
  shows-unless false v shows = shows

  shows-in_time : (now : ℕ) (o : Option (ControlConnection S)) → ShowsThere o → ShowsThere (in_time now o)
  shows-in_time now None shows = tt
  shows-in_time now (Some v) shows = shows-unless (is_late v.session now) v shows

  shows-reached : (c : Control S) → Reached received sent has_none is_ended is_broken c → ShowsThere c.connection
  shows-reached _ begins = tt
  shows-reached _ (comes c r now socket silent) = silent
  shows-reached _ (wakes c r) = shows-reached c r
  shows-reached _ (visited c d r now v) = shows-if c.is_ready now c d v (shows-reached c r)
  shows-reached _ (let_go c r now) = shows-in_time now c.connection (shows-reached c r)

  holds-shows : (session : ControlSession) (s : S) → Shows session s → holds_at session ≡ true → BeginsWith hold_byte (received s) × BeginsWith hold_byte (sent s)
  holds-shows (Silent until) s shows is = absurd (false≢true is)
  holds-shows (Holds until) s shows is = shows
  holds-shows Stops s shows is = absurd (false≢true is)

  pub holders-ask-first : HoldersAskFirst received sent has_none is_ended is_broken
  holders-ask-first c v r at is = holds-shows v.session v.socket (subst ShowsThere at (shows-reached c r)) is
