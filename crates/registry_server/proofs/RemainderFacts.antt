-- What is held once a request was answered.
use Rattle.std.proofs.Common.{◌≡◌, ◌<◌, ◌≤◌, ◌+◌, ◌-◌, ◌++◌, ◌∙◌, [], ℕ, Bool, true, false, List, Option, None, Some, is_none, length, take, drop, nat_le, refl, ap, subst, sym, arith, append-nil, append_assoc, length-append}
use Rattle.std.proofs.lemmas.Bool.{false≢true, leb-false, leb-true}
use Rattle.std.proofs.lemmas.List.{length-take, take-append-drop}
use Rattle.std.proofs.Math.Seq.{take-append_seam}
use Rattle.httparse.specs.Grammar.{print_request}
use Rattle.registry_wire.specs.Spelling.{HasRequest, IsUnfinished}
use Rattle.registry_wire.specs.declared.wanted.Wanted.{Wanted}
use Rattle.registry_wire.proofs.ReadingFacts.{held-no_request}
use Rattle.registry_service.specs.declared.turning.End.{End}
use Rattle.registry_server.specs.ConnectionStates.{MayTakeTurn, Pending}
use Rattle.registry_server.specs.Connections.{LeavesLittle, LeavesRest, OpenConnection, Receives, SendsDue, StarvesOnce, is_answered_in}
use Rattle.registry_server.specs.Phases.{receives}
use Rattle.registry_server.specs.declared.phase.Stage.{Stage}
use Rattle.registry_server.specs.declared.phase.Stage.TheVariants.{Idle, Begun, Next, Sends, Drains}

-- ---- what follows a request that wasn't whole before

-- where the same bytes end with others of the same length, they begin with the same
front-same : (a b c d : List ℕ) → a ++ b ≡ c ++ d → length a ≡ length c → a ≡ c
front-same a b c d same size = sym (take-append_seam a b) ∙ ap (take (length a)) same ∙ ap (λ (n : ℕ). take n (c ++ d)) size ∙ take-append_seam c d

split-sizes : (o g p w r t k : ℕ) → o + g ≡ p + (w + r) → g < r → k ≡ r - g → t ≡ k → o ≡ p + (w + t)
split-sizes o g p w r t k all more is few = omega (arith, all, more, is, few)

taken-size : (k : ℕ) (rest : List ℕ) → k ≤ length rest → length (take k rest) ≡ k
taken-size k rest few = omega (arith, length-take k rest, few)

-- were more left than came, the request had been whole before
whole-before : (old got rest : List ℕ) (w : Wanted) → HasRequest (old ++ got) w rest → length got < length rest → HasRequest old w (take (length rest - length got) rest)
whole-before old got rest w x more =
    let k = length rest - length got in
    let head = print_request x.head in
    let front = head ++ (w.body ++ take k rest) in
    let all : (w.body ++ take k rest) ++ drop k rest ≡ w.body ++ rest = append_assoc w.body (take k rest) (drop k rest) ∙ ap (λ (l : List ℕ). w.body ++ l) (take-append-drop k rest) in
    let same : old ++ got ≡ front ++ drop k rest = x.begins.reads.1 ∙ ap (λ (l : List ℕ). head ++ l) (sym all) ∙ sym (append_assoc head (w.body ++ take k rest) (drop k rest)) in
    let whole : length old + length got ≡ length head + (length w.body + length rest) =
    sym (length-append old got) ∙ ap length x.begins.reads.1 ∙ length-append head (w.body ++ rest) ∙ ap (λ (n : ℕ). length head + n) (length-append w.body rest) in
    let few : k ≤ length rest = omega arith in
    let parts : length front ≡ length head + (length w.body + length (take k rest)) = length-append head (w.body ++ take k rest) ∙ ap (λ (n : ℕ). length head + n) (length-append w.body (take k rest)) in
    let size : length old ≡ length front = split-sizes (length old) (length got) (length head) (length w.body) (length rest) (length (take k rest)) k whole more refl (taken-size k rest few) ∙ sym parts in
    record {
      head = x.head;
      begins = record { reads = (x.begins.reads.0, front-same old got front (drop k rest) same size); fields = x.begins.fields; fits = x.begins.fits };
      len = x.len;
      asked = x.asked;
    }

rest-decided : (b : Bool) (old got rest : List ℕ) (w : Wanted) → nat_le (length rest) (length got) ≡ b → IsUnfinished old → HasRequest (old ++ got) w rest → length rest ≤ length got
rest-decided true old got rest w test unfinished x = leb-true (length rest) (length got) test
rest-decided false old got rest w test unfinished x =
    absurd (held-no_request old [] w (take (length rest - length got) rest) (subst IsUnfinished (sym (append-nil old)) unfinished)
    (whole-before old got rest w x (leb-false (length rest) (length got) test)))

-- no more is left than came since then
rest-few : (old got rest : List ℕ) (w : Wanted) → IsUnfinished old → HasRequest (old ++ got) w rest → length rest ≤ length got
rest-few old got rest w unfinished x = rest-decided (nat_le (length rest) (length got)) old got rest w refl unfinished x

-- no more is left than there was
rest-less : (all rest : List ℕ) (w : Wanted) → HasRequest all w rest → length rest ≤ length all
rest-less all rest w x =
    let whole = ap length x.begins.reads.1 in
    omega (arith, whole, length-append (print_request x.head) (w.body ++ rest), length-append w.body rest)

-- ---- where a connection goes on

some-none : {A B : Type 0} (o : Option A) (x : A) → o ≡ Some x → o ≡ None → B
some-none o x some none = absurd (cc)

is-none : (o : Option End) → is_none o ≡ true → o ≡ None
is-none None is = refl
is-none (Some x) is = absurd (false≢true is)

goes-on : (s : Stage) (e : Option End) → is_answered_in s e ≡ true → e ≡ None
goes-on Idle e is = absurd (false≢true is)
goes-on Begun e is = absurd (false≢true is)
goes-on Next e is = is-none e is
goes-on Sends e is = is-none e is
goes-on Drains e is = absurd (false≢true is)

next-answered : (s : Stage) (e : Option End) → s ≡ Next → e ≡ None → is_answered_in s e ≡ true
next-answered s e at none = ap (λ (x : Stage). is_answered_in x e) at ∙ ap is_none none

sends-answered : (s : Stage) (e : Option End) → s ≡ Sends → e ≡ None → is_answered_in s e ≡ true
sends-answered s e at none = ap (λ (x : Stage). is_answered_in x e) at ∙ ap is_none none

receives-unanswered : (s : Stage) (e : Option End) → receives s ≡ true → is_answered_in s e ≡ false
receives-unanswered Idle e is = refl
receives-unanswered Begun e is = refl
receives-unanswered Next e is = absurd (false≢true is)
receives-unanswered Sends e is = absurd (false≢true is)
receives-unanswered Drains e is = absurd (false≢true is)

module _ {S : Type 0} where
  -- more is received
  pub little-received : (most : ℕ) (new : OpenConnection S) → receives new.phase.stage ≡ true → LeavesLittle most new
  little-received most new is answered = absurd (false≢true (sym (receives-unanswered new.phase.stage new.state.ends is) ∙ answered))

  -- a turn was taken of what was held
  pub little-turned : (most : ℕ) (old new : OpenConnection S) → old.phase.stage ≡ Next → MayTakeTurn old.state → LeavesRest old.state.held new → LeavesLittle most old → LeavesLittle most new
  little-turned most old new at may rest little answered =
      let one = rest answered in
      let before = little (next-answered old.phase.stage old.state.ends at may.goes_on) in
      omega (arith, before, rest-less old.state.held new.state.held one.0 one.1)

  -- the connection ends
  pub little-drained : (most : ℕ) (new : OpenConnection S) → new.phase.stage ≡ Drains → LeavesLittle most new
  little-drained most new at answered = absurd (false≢true (sym (ap (λ (s : Stage). is_answered_in s new.state.ends) at) ∙ answered))

module _ {S : Type 0} (received sent : S → Option (List ℕ)) where
  -- bytes were received, and a turn was taken
  pub little-answered : (now most : ℕ) (old mid new : OpenConnection S) → Receives received sent now most old mid true → IsUnfinished old.state.held → LeavesRest mid.state.held new → LeavesLittle most new
  little-answered now most old mid new h unfinished rest answered =
      let one = rest answered in
      let held : mid.state.held ≡ old.state.held ++ h.got = ap (λ (p : Pending). p.held) h.state in
      let few = rest-few old.state.held h.got new.state.held one.0 unfinished (subst (λ (l : List ℕ). HasRequest l one.0 new.state.held) held one.1) in
      omega (arith, few, h.few)

  -- some of what was due was sent
  pub little-sent : (now most : ℕ) (old new : OpenConnection S) → SendsDue received sent now old new → old.phase.stage ≡ Sends → LeavesLittle most old → LeavesLittle most new
  little-sent now most old new s at little answered =
      let none = goes-on new.phase.stage new.state.ends answered in
      let ends : old.state.ends ≡ new.state.ends = ap (λ (p : Pending). p.ends) s.state in
      let held = ap (λ (p : Pending). length p.held) s.state in
      let before = little (sends-answered old.phase.stage old.state.ends at (ends ∙ none)) in
      omega (arith, held, before)

  -- there was no memory for what was received
  pub little-starved : (now most : ℕ) (mid new : OpenConnection S) → StarvesOnce received sent now mid new → LeavesLittle most new
  little-starved now most mid new s answered =
      let none = goes-on new.phase.stage new.state.ends answered in
      let ends = sym (ap (λ (p : Pending). p.ends) s.sends) ∙ ap (λ (p : Pending). p.ends) s.starved.state ∙ s.starved.away.is_turn.1 in
      some-none new.state.ends _ ends none
