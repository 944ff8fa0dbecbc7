-- Turns of a connection, one after another.
use Rattle.std.proofs.Common.{◌≡◌, ◌≢◌, ◌≤◌, ◌<◌, ◌+◌, ◌==◌, ◌++◌, ◌∷◌, ◌⊎◌, ◌∙◌, [], ℕ, Bool, true, false, List, length, Option, Some, None, Ok, Err, refl, sym, ap, subst, inl, inr, append_assoc, append-nil, arith, length-append, if◌then◌else◌}
use Rattle.std.specs.Int.{from_bool}
use Rattle.std.proofs.lemmas.Bool.{eqb-false}
use Rattle.registry_names.specs.ByteStreams.{Writes}
use Rattle.registry_names.specs.declared.refusal.Refusal.{Refusal}
use Rattle.registry_names.specs.declared.stop.Fault.{Fault}
use Rattle.registry_names.proofs.ByteStreamFacts.{Reads-append, Reads-nothing, Writes-append, Writes-nothing}
use Rattle.registry_wire.specs.Reading.{ReadsWhileUnfinished, TakenOf}
use Rattle.registry_wire.specs.Spelling.{EndsWith, IsBad}
use Rattle.registry_wire.specs.declared.first.Ending.TheVariants as ending
use Rattle.registry_wire.proofs.RequestFacts.{request-more, bad-more}
use Rattle.registry_wire.specs.Responses.{head_bytes}
use Rattle.registry_wire.specs.declared.labels.Labels.{Labels}
use Rattle.registry_service.specs.HttpAnswers.{AnswersSo, Outcome, answer_bytes, response_to}
use Rattle.registry_service.specs.Courses.{AtEndOf, Course, EndsAs, EndsUnasked, Follow, Gave, GoOn, GoesTo, IsServed, ReadsFor, ReadsOn, Rests, Side, Took, count_of, moments, requests, taken_for, written}
use Rattle.registry_service.specs.Responses.{MayBegin, turn_of}
use Rattle.registry_service.specs.Turns.{Cause, Dialogue, Exchange, IsTurn, IsTurnFor, Turn, bad_input, end_of, is_request, no_memory, request}
use Rattle.registry_service.specs.declared.answer.Answer.{Answer}
use Rattle.registry_service.specs.declared.responding.Responded.{Responded}
use Rattle.registry_service.specs.declared.responding.Responded.TheVariants.{Whole, BrokenOff, CutShort}
use Rattle.registry_service.specs.declared.serving.Served.{Served}
use Rattle.registry_service.specs.declared.turning.End.{End}
use Rattle.registry_service.specs.declared.turning.End.TheVariants.{Closed, Limit, BadInput, ReadFault, WriteFault, Faulted}
use Rattle.registry_service.proofs.LabelFacts.{sent-so}

-- ---- bytes that come later

bad-more_of : (all more : List ℕ) (r : Refusal) → IsBad all r ⊎ (EndsWith all (ending.BadInput r) × ⊥) → IsBad (all ++ more) r ⊎ (EndsWith (all ++ more) (ending.BadInput r) × ⊥)
bad-more_of all more r (inl bad) = inl (bad-more all more r bad)
bad-more_of all more r (inr none) = absurd none.1

taken-more : (all more held : List ℕ) (c : Cause) → TakenOf all held ⊥ (taken_for c) → TakenOf (all ++ more) (held ++ more) ⊥ (taken_for c)
taken-more all more held (request w at) took = request-more all more w held took
taken-more all more held (bad_input r) took = (ap (λ (l : List ℕ). l ++ more) took.0, bad-more_of all more r took.1)
taken-more all more held no_memory took = (ap (λ (l : List ℕ). l ++ more) took.0, took.1)

-- bytes that come later follow those that are held
pub took-more : (came more : List ℕ) (ts : List Turn) (held : List ℕ) → Took came ts held ⊥ → Took (came ++ more) ts (held ++ more) ⊥
took-more came more [] held same = ap (λ (l : List ℕ). l ++ more) same
took-more came more (t ∷ ts) held took = (took.0 ++ more, took-more came more ts took.0 took.1, taken-more took.0 more held t.cause took.2)

-- ---- turns after which the connection goes on

goes-on_false : (o : Outcome) (last closes : Bool) → end_of o last closes ≡ None → last ≡ false
goes-on_false (Err fault) last closes stays = cc
goes-on_false (Ok reply) true closes stays = cc
goes-on_false (Ok reply) false closes stays = refl

never-fails_read : (o : Outcome) (last closes : Bool) → end_of o last closes ≡ Some ReadFault → ⊥
never-fails_read (Err fault) last closes e = cc
never-fails_read (Ok reply) true closes e = cc
never-fails_read (Ok reply) false true e = cc
never-fails_read (Ok reply) false false e = cc

never-fails_write : (o : Outcome) (last closes : Bool) → end_of o last closes ≡ Some WriteFault → ⊥
never-fails_write (Err fault) last closes e = cc
never-fails_write (Ok reply) true closes e = cc
never-fails_write (Ok reply) false true e = cc
never-fails_write (Ok reply) false false e = cc

pub taken-open : (all held : List ℕ) (AtEnd : Type 0) (c : Cause) → is_request c ≡ true → TakenOf all held AtEnd (taken_for c) → TakenOf all held ⊥ (taken_for c)
taken-open all held AtEnd (request w at) is took = took
taken-open all held AtEnd (bad_input r) is took = cc
taken-open all held AtEnd no_memory is took = cc

count-one : (c : Cause) → is_request c ≡ true → count_of c ≡ 1
count-one (request w at) is = refl
count-one (bad_input r) is = cc
count-one no_memory is = cc

-- ---- the clock

gave-on_some : (rs rest : List ℕ) (b c : Option (List ℕ)) (ms ns : List ℕ) → rs ≡ ms ++ rest → b ≡ Some rest → Gave b c ns → length (ms ++ ns) ≤ length rs
    → (r : List ℕ) × (rs ≡ (ms ++ ns) ++ r) × (c ≡ Some r)
gave-on_some rs rest b c ms ns whole told gave few =
    let later : Gave (Some rest) c ns = subst (λ (o : Option (List ℕ)). Gave o c ns) told gave in
    let size : length rs ≡ length ms + length rest = ap length whole ∙ length-append ms rest in
    let enough : length ns ≤ length rest = omega (arith, size, few, length-append ms ns) in
    let found = later enough in
    (found.0, whole ∙ ap (λ (l : List ℕ). ms ++ l) found.1 ∙ sym (append_assoc ms ns found.0), found.2)

pub gave-on : (a b c : Option (List ℕ)) (ms ns : List ℕ) → Gave a b ms → Gave b c ns → Gave a c (ms ++ ns)
gave-on None b c ms ns first second = tt
gave-on (Some rs) b c ms ns first second = λ few.
    let found = first (omega (arith, few, length-append ms ns)) in
    gave-on_some rs found.0 b c ms ns found.1 found.2 second few

pub gave-nothing : (a : Option (List ℕ)) → Gave a a []
gave-nothing None = tt
gave-nothing (Some rs) = λ few. (rs, refl, refl)

-- ---- whether a turn counts

number_of : (b : Bool) → from_bool b ≡ (if b then 1 else 0)
number_of true = refl
number_of false = refl

counts-as : (b : Bool) (c : Cause) (k : ℕ) → k ≡ from_bool b → b ≡ is_request c → k ≡ count_of c
counts-as b c k one same = one ∙ ap from_bool same ∙ number_of (is_request c)

counts-more : (n k size older : ℕ) (counts : Bool) (c : Cause) → n ≡ size → older ≡ size → k ≡ from_bool counts → counts ≡ is_request c → n + k ≡ older + count_of c
counts-more n k size older counts c e f one same = let one = counts-as counts c k one same in omega (arith, e, f, one)

one-more : (k : ℕ) (counts : Bool) (c : Cause) → is_request c ≡ true → k ≡ from_bool counts → counts ≡ is_request c → k ≡ 1
one-more k counts c is one same = counts-as counts c k one same ∙ count-one c is

below : (n k : ℕ) → n < 1000 → k ≡ 1 → n + 1 ≢ 1000 → n + k < 1000
below n k few one other = omega (arith, few, one, other)

-- a connection that goes on had fewer turns than it may have
pub within : (n k : ℕ) → n < 1000 → k ≡ 1 → (n + 1 == 1000) ≡ false → n + k < 1000
within n k few one other = below n k few one (eqb-false (n + 1) 1000 other)

-- ---- the end of what came

bad-any : (all : List ℕ) (r : Refusal) (AtEnd : Type 0) → IsBad all r ⊎ (EndsWith all (ending.BadInput r) × ⊥) → IsBad all r ⊎ (EndsWith all (ending.BadInput r) × AtEnd)
bad-any all r AtEnd (inl bad) = inl bad
bad-any all r AtEnd (inr none) = absurd none.1

taken-any : (all held : List ℕ) (AtEnd : Type 0) (c : Cause) → TakenOf all held ⊥ (taken_for c) → TakenOf all held AtEnd (taken_for c)
taken-any all held AtEnd (request w at) took = took
taken-any all held AtEnd (bad_input r) took = (took.0, bad-any all r AtEnd took.1)
taken-any all held AtEnd no_memory took = took

pub took-any : (came : List ℕ) (ts : List Turn) (held : List ℕ) (AtEnd : Type 0) → Took came ts held ⊥ → Took came ts held AtEnd
took-any came [] held AtEnd took = took
took-any came (t ∷ ts) held AtEnd took = (took.0, took.1, taken-any took.0 held AtEnd t.cause took.2)

ends-unasked : {D : Type 0} (s : Side D) (ts : List Turn) (e : End) → GoOn ts → EndsUnasked s e → EndsAs s ts e
ends-unasked s ts e on (inl closed) = subst (λ (e : End). EndsAs s ts e) (sym closed.0) (inr (on, closed.1, closed.2))
ends-unasked s ts e on (inr failed) = subst (λ (e : End). EndsAs s ts e) (sym failed.0) (on, failed.1)

-- ---- a response

pub bytes-same : (labels : Labels) (known : Bool) (o : Outcome) (a : Answer) (closes : Bool) → AnswersSo labels known o a → answer_bytes a closes ≡ response_to labels known o closes
bytes-same labels known o a closes is =
    ap (λ (sent : List ℕ). head_bytes a.status a.kind a.labels (length sent) closes ++ sent) (sent-so labels known o a is)
    ∙ rw (is.status, is.kind, is.labels) refl

-- ---- one turn more

module _ {D : Type 0} (dialogue : Dialogue D) where
  pub on-request : (c : Cause) (K : D) (last : Bool) (es : List Exchange) (o : Outcome) (ended : Option End) (N : D) → IsTurnFor dialogue c K last es o ended N → ended ≡ None → is_request c ≡ true
  on-request (request w at) K last es o ended N turn stays = refl
  on-request (bad_input r) K last es o ended N turn stays = let shut = turn.0.1 in cc
  on-request no_memory K last es o ended N turn stays = let shut = turn.0.1 in cc

  pub on-not_last : (c : Cause) (K : D) (last : Bool) (es : List Exchange) (o : Outcome) (ended : Option End) (N : D) → IsTurnFor dialogue c K last es o ended N → ended ≡ None → last ≡ false
  on-not_last (request w at) K last es o ended N turn stays = goes-on_false o last w.closes (sym turn.ends ∙ stays)
  on-not_last (bad_input r) K last es o ended N turn stays = let shut = turn.0.1 in cc
  on-not_last no_memory K last es o ended N turn stays = let shut = turn.0.1 in cc

  not-read_fault : (c : Cause) (K : D) (last : Bool) (es : List Exchange) (o : Outcome) (ended : Option End) (N : D) → IsTurnFor dialogue c K last es o ended N → ended ≡ Some ReadFault → ⊥
  not-read_fault (request w at) K last es o ended N turn e = never-fails_read o last w.closes (sym turn.ends ∙ e)
  not-read_fault (bad_input r) K last es o ended N turn e = let shut = turn.0.1 in cc
  not-read_fault no_memory K last es o ended N turn e = let shut = turn.0.1 in cc

  not-write_fault : (c : Cause) (K : D) (last : Bool) (es : List Exchange) (o : Outcome) (ended : Option End) (N : D) → IsTurnFor dialogue c K last es o ended N → ended ≡ Some WriteFault → ⊥
  not-write_fault (request w at) K last es o ended N turn e = never-fails_write o last w.closes (sym turn.ends ∙ e)
  not-write_fault (bad_input r) K last es o ended N turn e = let shut = turn.0.1 in cc
  not-write_fault no_memory K last es o ended N turn e = let shut = turn.0.1 in cc

  -- the turn by which a connection ends
  pub ends-as : (s : Side D) (t : Turn) (ts : List Turn) (e : End) (K : D) (last : Bool) (N : D) → IsTurn dialogue K last t N → t.ended ≡ Some e → GoOn ts → EndsAs s (t ∷ ts) e
  ends-as s t ts Closed K last N turn ended on = inl (ended, on)
  ends-as s t ts Limit K last N turn ended on = (ended, on)
  ends-as s t ts BadInput K last N turn ended on = (ended, on)
  ends-as s t ts ReadFault K last N turn ended on = absurd (not-read_fault t.cause K last t.exchanges t.outcome t.ended N turn ended)
  ends-as s t ts WriteFault K last N turn ended on = absurd (not-write_fault t.cause K last t.exchanges t.outcome t.ended N turn ended)
  ends-as s t ts (Faulted fault) K last N turn ended on = (ended, on)

  -- turns that go on are those of requests
  pub requests-all : (M : D) (ts : List Turn) (N : D) → Follow dialogue M ts N → GoOn ts → requests ts ≡ length ts
  requests-all M [] N follow on = refl
  requests-all M (t ∷ ts) N follow on =
      let older = requests-all M ts follow.0 follow.1 on.1 in
      let one = count-one t.cause (on-request t.cause follow.0 _ t.exchanges t.outcome t.ended N follow.2 on.0) in
      omega (arith, older, one)

  took-open : (M : D) (ts : List Turn) (N : D) (came held : List ℕ) (AtEnd : Type 0) → Follow dialogue M ts N → GoOn ts → Took came ts held AtEnd → Took came ts held ⊥
  took-open M [] N came held AtEnd follow on took = took
  took-open M (t ∷ ts) N came held AtEnd follow on took =
      (took.0, took.1, taken-open took.0 held AtEnd t.cause (on-request t.cause follow.0 _ t.exchanges t.outcome t.ended N follow.2 on.0) took.2)

  -- turns for which no more was read than their requests needed
  pub record Led (old new : Side D) (ts : List Turn) : Type 0 where
    pub course : Course dialogue old new ts
    pub lean : ReadsFor old.held ts course.got

  -- what is read after turns that go on
  reads-on : (old mid : Side D) (ts : List Turn) (led : Led old mid ts) (newer : List ℕ) → GoOn ts → ReadsWhileUnfinished mid.held newer → ReadsOn old.held ts (led.course.got ++ newer)
  reads-on old mid ts led newer on lean =
      let c = led.course in
      record {
        older = c.got;
        newer = newer;
        both = refl;
        before = led.lean;
        rest = mid.held;
        left = took-open old.service ts mid.service (old.held ++ c.got) mid.held _ c.follow on c.took;
        lean = lean;
      }

  -- the turn that was taken
  abbrev taken_turn : (mid new : Side D) (last : Bool) (out out2 : Option (List ℕ)) (out_unknown : Bool) (responded : Responded) → GoesTo dialogue mid new last out out2 out_unknown responded → Turn
  taken_turn mid new last out out2 out_unknown responded goes = turn_of goes.cause goes.responds.exchanges goes.responds.outcome goes.responds.ended

  course-on : (old mid new : Side D) (ts : List Turn) (last : Bool) (out out2 : Option (List ℕ)) (out_unknown : Bool) (responded : Responded) → Led old mid ts → GoOn ts → (mid.unknown ≡ true → new.unknown ≡ true)
      → last ≡ (length ts + 1 == 1000) → (goes : GoesTo dialogue mid new last out out2 out_unknown responded) → Led old new (taken_turn mid new last out out2 out_unknown responded goes ∷ ts)
  course-on old mid new ts last out out2 out_unknown responded led on stays is_last goes =
      let c = led.course in
      record {
        course = record {
          got = c.got ++ goes.got;
          gave = Reads-append c.gave goes.gave stays;
          took = (
            mid.held ++ goes.got,
            subst (λ (came : List ℕ). Took came ts (mid.held ++ goes.got) ⊥) (append_assoc old.held c.got goes.got)
                (took-more (old.held ++ c.got) goes.got ts mid.held (took-open old.service ts mid.service (old.held ++ c.got) mid.held _ c.follow on c.took)),
            goes.took,
          );
          follow = (mid.service, c.follow, subst (λ (b : Bool). IsTurn dialogue mid.service b (taken_turn mid new last out out2 out_unknown responded goes) new.service) is_last goes.responds.is_turn);
          asked = gave-on old.readings mid.readings new.readings (moments ts) _ c.asked goes.asked;
        };
        lean = reads-on old mid ts led goes.got on goes.lean;
      }

  -- ---- turns in a row

  -- so many turns were taken and their responses written, and the connection goes on
  pub record Going (old now : Side D) (out out2 : Option (List ℕ)) (out_unknown : Bool) (n : ℕ) : Type 0 where
    pub turns : List Turn
    pub led : Led old now turns
    pub go_on : GoOn turns
    pub wrote : Writes out out2 out_unknown (written dialogue.speaks turns)
    pub count : n ≡ length turns

  pub going-first : (s : Side D) (out : Option (List ℕ)) (out_unknown : Bool) → Going s s out out out_unknown 0
  going-first s out out_unknown = record {
    turns = [];
    led = record {
      course = record {
        got = [];
        gave = Reads-nothing s.left s.unknown;
        took = sym (append-nil s.held);
        follow = refl;
        asked = gave-nothing s.readings;
      };
      lean = refl;
    };
    go_on = tt;
    wrote = Writes-nothing out out_unknown;
    count = refl;
  }

  abbrev served : ℕ → End → Served
  served n e = record { requests = n; end = e }

  -- a connection that ends without one more turn
  pub rest-on : (old mid new : Side D) (out out2 : Option (List ℕ)) (out_unknown : Bool) (n : ℕ) (e : End) → Going old mid out out2 out_unknown n → (mid.unknown ≡ true → new.unknown ≡ true)
      → Rests dialogue mid new e → IsServed dialogue old new out out2 out_unknown (served n e)
  rest-on old mid new out out2 out_unknown n e going stays rests =
      let ts = going.turns in
      let c = going.led.course in
      let took = took-more (old.held ++ c.got) rests.got ts mid.held (took-open old.service ts mid.service (old.held ++ c.got) mid.held _ c.follow going.go_on c.took) in
      let all : Took (old.held ++ (c.got ++ rests.got)) ts (mid.held ++ rests.got) ⊥ = subst (λ (came : List ℕ). Took came ts (mid.held ++ rests.got) ⊥) (append_assoc old.held c.got rests.got) took in
      inl (record {
        turns = ts;
        course = record {
          got = c.got ++ rests.got;
          gave = Reads-append c.gave rests.gave stays;
          took = took-any _ ts new.held (AtEndOf new) (subst (λ (held : List ℕ). Took (old.held ++ (c.got ++ rests.got)) ts held ⊥) (sym rests.held) all);
          follow = subst (λ (M : D). Follow dialogue old.service ts M) (sym rests.service) c.follow;
          asked = subst (λ (readings : Option (List ℕ)). Gave old.readings readings (moments ts)) (sym rests.readings) c.asked;
        };
        lean = inr (going.go_on, reads-on old mid ts going.led rests.got going.go_on rests.lean);
        wrote = going.wrote;
        ends = ends-unasked new ts e going.go_on rests.ends;
        count = going.count ∙ sym (requests-all old.service ts mid.service c.follow going.go_on);
      })

  -- one more turn, of which all is written, and by which the connection ends
  pub end-on : (old mid new : Side D) (out out2 out3 : Option (List ℕ)) (out_unknown mute2 : Bool) (n k : ℕ) (last : Bool) (ended : Option End) (counts : Bool) (e : End) → Going old mid out out2 out_unknown n
      → (mid.unknown ≡ true → new.unknown ≡ true) → (out_unknown ≡ true → mute2 ≡ true) → last ≡ (n + 1 == 1000) → GoesTo dialogue mid new last out2 out3 mute2 (Whole ended counts)
      → k ≡ from_bool counts → ended ≡ Some e → IsServed dialogue old new out out3 mute2 (served (n + k) e)
  end-on old mid new out out2 out3 out_unknown mute2 n k last ended counts e going stays still is_last goes one is =
      let ts = going.turns in
      let t = taken_turn mid new last out2 out3 mute2 (Whole ended counts) goes in
      let place = is_last ∙ ap (λ (n : ℕ). n + 1 == 1000) going.count in
      let led = course-on old mid new ts last out2 out3 mute2 (Whole ended counts) going.led going.go_on stays place goes in
      let comes = goes.responds.comes in
      let shut : t.ended ≡ Some e = sym comes.1 ∙ is in
      inl (record {
        turns = t ∷ ts;
        course = led.course;
        lean = inl ((shut, going.go_on), led.lean);
        wrote = Writes-append going.wrote comes.0 still;
        ends = ends-as new t ts e mid.service last new.service goes.responds.is_turn shut going.go_on;
        count = counts-more n k (length ts) (requests ts) counts goes.cause going.count (requests-all old.service ts mid.service going.led.course.follow going.go_on) one comes.2;
      })

  -- one more turn, of which not all is written
  pub break-on : (old mid new : Side D) (out out2 out3 : Option (List ℕ)) (out_unknown mute2 : Bool) (n : ℕ) (last : Bool) → Going old mid out out2 out_unknown n
      → (mid.unknown ≡ true → new.unknown ≡ true) → (out_unknown ≡ true → mute2 ≡ true) → last ≡ (n + 1 == 1000) → GoesTo dialogue mid new last out2 out3 mute2 BrokenOff
      → IsServed dialogue old new out out3 mute2 (served n WriteFault)
  break-on old mid new out out2 out3 out_unknown mute2 n last going stays still is_last goes =
      let ts = going.turns in
      let place = is_last ∙ ap (λ (n : ℕ). n + 1 == 1000) going.count in
      let led = course-on old mid new ts last out2 out3 mute2 BrokenOff going.led going.go_on stays place goes in
      let part = goes.responds.comes in
      inr (inl (record {
        newest = taken_turn mid new last out2 out3 mute2 BrokenOff goes;
        older = ts;
        course = led.course;
        lean = led.lean;
        go_on = going.go_on;
        sent = part.count;
        is_less = part.is_less;
        wrote = Writes-append going.wrote part.wrote still;
        ends = refl;
        count = going.count ∙ sym (requests-all old.service ts mid.service going.led.course.follow going.go_on);
      }))

  -- one more turn, which a fault cut short in the midst of a packument
  pub cut-on : (old mid new : Side D) (out out2 out3 : Option (List ℕ)) (out_unknown mute2 : Bool) (n : ℕ) (last : Bool) (fault : Fault) → Going old mid out out2 out_unknown n
      → (mid.unknown ≡ true → new.unknown ≡ true) → (out_unknown ≡ true → mute2 ≡ true) → last ≡ (n + 1 == 1000) → GoesTo dialogue mid new last out2 out3 mute2 (CutShort fault)
      → IsServed dialogue old new out out3 mute2 (served n (Faulted fault))
  unfolding course-on
  cut-on old mid new out out2 out3 out_unknown mute2 n last fault going stays still is_last goes =
      let ts = going.turns in
      let place = is_last ∙ ap (λ (n : ℕ). n + 1 == 1000) going.count in
      let led = course-on old mid new ts last out2 out3 mute2 (CutShort fault) going.led going.go_on stays place goes in
      let comes = goes.responds.comes in
      let begun = comes.1.0 in
      let part = comes.1.2 in
      inr (inr (record {
        newest = taken_turn mid new last out2 out3 mute2 (CutShort fault) goes;
        older = ts;
        course = led.course;
        lean = led.lean;
        go_on = going.go_on;
        fault = fault;
        is_fault = comes.0;
        begun = begun;
        may_begin = subst (λ (b : Bool). MayBegin dialogue mid.service b goes.cause begun fault new.service) place comes.1.1;
        sent = part.count;
        some = part.some;
        is_within = part.is_within;
        wrote = Writes-append going.wrote part.wrote still;
        ends = refl;
        count = going.count ∙ sym (requests-all old.service ts mid.service going.led.course.follow going.go_on);
      }))

  -- one more turn, of which all is written, and the connection goes on
  pub go-on : (old mid new : Side D) (out out2 out3 : Option (List ℕ)) (out_unknown mute2 : Bool) (n k : ℕ) (last : Bool) (ended : Option End) (counts : Bool) → Going old mid out out2 out_unknown n
      → (mid.unknown ≡ true → new.unknown ≡ true) → (out_unknown ≡ true → mute2 ≡ true) → last ≡ (n + 1 == 1000) → GoesTo dialogue mid new last out2 out3 mute2 (Whole ended counts)
      → k ≡ from_bool counts → ended ≡ None → Going old new out out3 mute2 (n + k) × (k ≡ 1) × (last ≡ false)
  go-on old mid new out out2 out3 out_unknown mute2 n k last ended counts going stays still is_last goes one is =
      let ts = going.turns in
      let t = taken_turn mid new last out2 out3 mute2 (Whole ended counts) goes in
      let place = is_last ∙ ap (λ (n : ℕ). n + 1 == 1000) going.count in
      let led = course-on old mid new ts last out2 out3 mute2 (Whole ended counts) going.led going.go_on stays place goes in
      let comes = goes.responds.comes in
      let open_still : t.ended ≡ None = sym comes.1 ∙ is in
      let single = one-more k counts goes.cause (on-request goes.cause mid.service last goes.responds.exchanges goes.responds.outcome t.ended new.service goes.responds.is_turn open_still) one comes.2 in (
        record {
          turns = t ∷ ts;
          led = led;
          go_on = (open_still, going.go_on);
          wrote = Writes-append going.wrote comes.0 still;
          count = omega (arith, going.count, single);
        },
        single,
        on-not_last goes.cause mid.service last goes.responds.exchanges goes.responds.outcome t.ended new.service goes.responds.is_turn open_still,
      )

  -- a turn whose response was written whole never ends a connection as a failed read does
  pub ended-unread : (mid new : Side D) (last : Bool) (out out2 : Option (List ℕ)) (out_unknown : Bool) (ended : Option End) (counts : Bool) (e : End) → GoesTo dialogue mid new last out out2 out_unknown (Whole ended counts)
      → ended ≡ Some e → ¬ (e ≡ ReadFault)
  ended-unread mid new last out out2 out_unknown ended counts e goes is same =
      not-read_fault goes.cause mid.service last goes.responds.exchanges goes.responds.outcome goes.responds.ended new.service goes.responds.is_turn (sym goes.responds.comes.1 ∙ is ∙ ap (λ (e : End). Some e) same)
