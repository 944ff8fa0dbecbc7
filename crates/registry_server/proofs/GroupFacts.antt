-- Commands that are answered together.
use Rattle.std.proofs.Common.{◌≡◌, ◌≢◌, ◌<◌, ◌≤◌, ◌+◌, ◌-◌, ◌==◌, ◌++◌, ◌∷◌, ◌∙◌, ◌⊎◌, ◌&&◌, not, [], ℕ, Bool, true, false, List, Option, None, Some, IsSome, drop, get_or, length, set, sum_by, take, refl, ap, subst, sym, inl, inr, arith, append-nil, append_assoc, length-append}
use Rattle.std.specs.List.{AllByRecursion}
use Rattle.std.proofs.lemmas.Bool.{false≢true}
use Rattle.std.proofs.lemmas.List.{drop-drop, drop-set-lt, drop_all, drop_more, get_or-drop, length-take, take_all, take_more, take_more_set}
use Rattle.std.proofs.lemmas.List.Sums.{sum_by_push}
use Rattle.std.specs.Io.KnownBytes.{append_known}
use Rattle.registry_rules.specs.Actions.{is_command}
use Rattle.registry_rules.specs.declared.request.Request.{Request}
use Rattle.registry_wire.specs.Responses.{no_labels}
use Rattle.registry_wire.specs.Spelling.{HasRequest}
use Rattle.registry_wire.specs.declared.labels.Labels.{Labels}
use Rattle.registry_wire.specs.declared.wanted.Wanted.{Wanted}
use Rattle.registry_wire.proofs.ReadingFacts.{held-no_request}
use Rattle.registry_service.specs.Courses.{Gave}
use Rattle.registry_service.specs.Dialects.{AsksOne}
use Rattle.registry_service.specs.HttpAnswers.{AnswersPlainly, AnswersSo, Outcome, labelled}
use Rattle.registry_service.specs.Servings.{IsTurnWith, bytes_of}
use Rattle.registry_service.specs.Turns.{Answering, AnswersEach, AnswersFor, Dialect, Dialogue, Exchange, Turns, exchange, exchanges, names_document, request, spoken}
use Rattle.registry_service.specs.declared.answer.Answer.{Answer}
use Rattle.registry_service.specs.declared.turning.Turned.{Turned}
use Rattle.registry_service.proofs.LabelFacts.{plain-answers}
use Rattle.registry_service.proofs.TogetherFacts.{reads-later}
use Rattle.registry_server.specs.ConnectionStates.{MayTakeTurn, Pending, TakesTurn, pending}
use Rattle.registry_server.specs.Connections.{AnswersOnce, IsDone, IsLost, LeavesLittle, OpenConnection, SendsDue, Visits, asked_in_answer, asked_in_visit, must_wait}
use Rattle.registry_server.specs.Groups.{AddsLeaveWithin, AnswersAside, AnswersNext, AnswersPlace, AnswersPlaces, AreAsked, AreSpelled, AskedEach, EmptyGroupsAreWithin, GroupsHoldLittle, IsAsked, IsFirst, IsNotNext, IsStill, IsWithin, SetsPlaceAside, VisitsFirst, VisitsOrSetsAside, in_order, used_in}
use Rattle.registry_server.specs.Phases.{SentAt, entered, takes_turns}
use Rattle.registry_server.specs.Pools.{IsOneCommand, VisitsAll, VisitsAt, VisitsIf, VisitsLater, VisitsOne, VisitsThere, after_visit, asked_if, asked_there, is_held_back, is_to_visit, with_connection}
use Rattle.registry_server.specs.declared.connection.Visit.{Visit}
use Rattle.registry_server.specs.declared.connection.Visit.TheVariants.{Again, Rests, Over}
use Rattle.registry_server.specs.declared.group.Command.{Command}
use Rattle.registry_server.specs.declared.group.Group.{Group}
use Rattle.registry_server.specs.declared.phase.Phase.{Phase}
use Rattle.registry_server.specs.declared.phase.Stage.TheVariants.{Begun, Next, Sends}
use Rattle.registry_server.specs.declared.pool.Place.{Place}
use Rattle.registry_server.proofs.IdleFacts.{nothing-unfinished}
use Rattle.registry_server.proofs.PoolFacts.{all-back, visits-there}
use Rattle.registry_server.proofs.StateFacts.{whole-asked, whole-turn}

-- ---- a turn

some-not-none : {A : Type 0} (o : Option A) → IsSome o → o ≡ None → ⊥
some-not-none None some none = cc
some-not-none (Some x) some none = cc

some-is : {A : Type 0} (o : Option A) (x : A) → o ≡ Some x → IsSome o
some-is None x e = cc
some-is (Some y) x e = refl

same-some : {A : Type 0} (x y : A) → Some x ≡ Some y → x ≡ y
same-some x y e = cc

plain-for : (speaks : Dialect) (w : Wanted) (at : ℕ) (es : List Exchange) (o : Outcome) (a : Answer) → speaks.labels w es o ≡ no_labels → AnswersPlainly o a → AnswersFor speaks (request w at) es o a
plain-for speaks w at es o a none is =
    subst (λ (l : Labels). AnswersSo (labelled o l) (names_document w (labelled o l).tag) o a) (sym none) (plain-answers (request w at) es o a is)

module _ (speaks : Dialect) {D : Type 0} (answers : Answering D) where
  -- the turn of a command that was asked alone
  command-turn : (c : Command) (o : Outcome) (last : Bool) (t : Turned) (M N : D) (r r2 : Option (List ℕ)) → AsksOne speaks c.wanted → (asked : IsAsked answers c o M N r r2) → IsTurnWith o last c.wanted.closes t
      → Turns (spoken speaks answers) M (request c.wanted asked.request.at) last t N
  command-turn c o last t M N r r2 one asked with_it =
      let asks = one asked.request.at asked.request o asked.reads asked.command in
      record {
        exchanges = exchange asked.request o ∷ [];
        outcome = o;
        is_turn = record { answered = (asks.0, (N, asked.answered, refl)); ends = with_it.ends };
        answer = plain-for speaks c.wanted asked.request.at (exchange asked.request o ∷ []) o t.answer asks.1 with_it.answer;
        counts = with_it.counts;
      }

  -- that command is asked in it
  command-asked : (c : Command) (o : Outcome) (last : Bool) (t : Turned) (M N : D) (r r2 : Option (List ℕ)) (one : AsksOne speaks c.wanted) (asked : IsAsked answers c o M N r r2) (with_it : IsTurnWith o last c.wanted.closes t)
      → (command-turn c o last t M N r r2 one asked with_it).exchanges ≡ exchange asked.request o ∷ []
  unfolding command-turn
  command-asked c o last t M N r r2 one asked with_it = refl

-- where nothing is left to answer, nothing is held
done-if : (p : Pending) → (p.held ≡ []) ⊎ IsSome p.ends → p.ends ≡ None → p.held ≡ []
done-if p (inl none) goes = none
done-if p (inr some) goes = absurd (some-not-none p.ends some goes)

pub done-none : (p : Pending) → IsDone p → MayTakeTurn p → p.held ≡ []
done-none p done may = done-if p done.none_left may.goes_on

-- nothing is no request
no-request : {A : Type 0} (held rest : List ℕ) (w : Wanted) → held ≡ [] → HasRequest held w rest → A
no-request held rest w none has = absurd (held-no_request [] [] w rest nothing-unfinished (subst (λ (l : List ℕ). HasRequest l w rest) none has))

module _ {S : Type 0} (received sent : S → Option (List ℕ)) {D : Type 0} (answers : Dialogue D) where
  -- a turn was taken, and some of what is due was sent
  pub sent-answer : (now : ℕ) (old mid new : OpenConnection S) (M N : D) (r r2 : Option (List ℕ)) → MayTakeTurn old.state → (takes : TakesTurn answers old.state mid.state M N r r2 old.is_over)
      → mid.socket ≡ old.socket → mid.phase ≡ entered old.phase Sends now → mid.is_over ≡ old.is_over → SendsDue received sent now mid new
      → (a : AnswersOnce received sent answers now old new M N r r2) × (asked_in_answer received sent answers a ≡ takes.turns.exchanges)
  sent-answer now old mid new M N r r2 may takes socket phase over s = (
    record {
      due = mid.state;
      put = s.put;
      turns = inl (record { may = may; takes = takes }, subst (λ (p : Phase). SentAt now (length s.put) p new.phase) phase s.times);
      took = s.took ∙ ap (λ (x : S). append_known (sent x) s.put) socket;
      unread = s.unread ∙ ap received socket;
      sends = s.state;
      over = s.over ∙ over;
    },
    refl,
  )

module _ {S : Type 0} (received sent : S → Option (List ℕ)) (has_none is_full has_more is_ended is_broken : S → Bool) (speaks : Dialect) {D : Type 0} (answers : Answering D) where
  -- the command that was set aside was answered
  pub answers-aside : (now : ℕ) (old mid new : OpenConnection S) (visit : Visit) (c : Command) (o : Outcome) (last : Bool) (t : Turned) → IsFirst speaks old.state.held c → MayTakeTurn old.state
      → last ≡ (old.state.left == 1) → IsTurnWith o last c.wanted.closes t → mid.state ≡ pending (drop c.used old.state.held) (bytes_of t) (old.state.left - 1) t.end
      → mid.socket ≡ old.socket → mid.phase ≡ entered old.phase Sends now → mid.is_over ≡ old.is_over → SendsDue received sent now mid new
      → new.phase.stage ≢ Begun → (visit ≡ Rests → new.phase.stage ≢ Next) → (visit ≡ Rests → must_wait has_none is_full new ≡ true) → (visit ≡ Over → IsLost is_ended is_broken new)
      → AnswersAside received sent has_none is_full has_more is_ended is_broken speaks answers now old new visit c o
  answers-aside now old mid new visit c o last t first may is_last with_it state socket phase over s more rests waits lost = record {
    asked = λ M N r r2 asked.
        let with_last = subst (λ (b : Bool). IsTurnWith o b c.wanted.closes t) is_last with_it in
        let turns = command-turn speaks answers c o (old.state.left == 1) t M N r r2 first.one asked with_last in
        let takes = whole-turn (spoken speaks answers) old.state mid.state M N r r2 old.is_over c.wanted c.used asked.request.at t first.first turns asked.gave state in
        let all = sent-answer received sent (spoken speaks answers) now old mid new M N r r2 may takes socket phase over s in (
          all.0,
          all.1 ∙ whole-asked (spoken speaks answers) old.state mid.state M N r r2 old.is_over c.wanted c.used asked.request.at t first.first turns asked.gave state
              ∙ command-asked speaks answers c o (old.state.left == 1) t M N r r2 first.one asked with_last,
        );
    over = s.over ∙ over;
    rests = rests;
    waits = waits;
    more = λ again begun. absurd (more begun);
    lost = lost;
    rest = λ goes answered.
        let held : new.state.held ≡ drop c.used old.state.held = sym (ap (λ (p : Pending). p.held) s.state) ∙ ap (λ (p : Pending). p.held) state in
        (c.wanted, subst (λ (l : List ℕ). HasRequest old.state.held c.wanted l) (sym held) first.first);
  }

-- ---- what commands ask

cons-first : {A : Type 0} (x y : A) (xs ys : List A) → (x ∷ xs) ≡ (y ∷ ys) → x ≡ y
cons-first x y xs ys same = cc

cons-rest : {A : Type 0} (x y : A) (xs ys : List A) → (x ∷ xs) ≡ (y ∷ ys) → xs ≡ ys
cons-rest x y xs ys same = cc

-- as many requests as commands
pub asked-many : (cs : List Command) (rs : List Request) (r r2 : Option (List ℕ)) → AreAsked cs rs r r2 → length rs ≡ length cs
asked-many [] [] r r2 h = refl
asked-many (c ∷ cs) (a ∷ rs) r r2 h = omega (arith, asked-many cs rs h.0 r2 h.4)
asked-many [] (a ∷ rs) r r2 h = absurd h
asked-many (c ∷ cs) [] r r2 h = absurd h

-- all of them are commands
pub asked-commands : (cs : List Command) (rs : List Request) (r r2 : Option (List ℕ)) → AreAsked cs rs r r2 → AllByRecursion (λ (a : Request). is_command a.what ≡ true) rs
asked-commands [] [] r r2 h = tt
asked-commands (c ∷ cs) (a ∷ rs) r r2 h = (h.2, asked-commands cs rs h.0 r2 h.4)
asked-commands [] (a ∷ rs) r r2 h = absurd h
asked-commands (c ∷ cs) [] r r2 h = absurd h

-- one more was asked
pub ask-step : (cs : List Command) (a : Request) (rs : List Request) (at : ℕ) (r r1 : Option (List ℕ)) → AreSpelled cs (a ∷ rs) → Gave r r1 (at ∷ [])
    → AreSpelled (drop 1 cs) rs × ((bs : List Request) (r2 : Option (List ℕ)) → AreAsked (drop 1 cs) bs r1 r2 → AreAsked cs (record a { at = at } ∷ bs) r r2)
ask-step [] a rs at r r1 h gave = absurd h
ask-step (c ∷ cs) a rs at r r1 h gave = (h.1, λ bs r2 asked. (r1, reads-later c.wanted h.0.at at a h.0.reads, h.0.command, gave, asked))

-- one more of a list was asked
pub ask-more : (cs : List Command) (items : List Request) (i : ℕ) (a : Request) (at : ℕ) (r r1 r2 : Option (List ℕ)) → i < length items → a ≡ get_or items i a → AreSpelled (drop i cs) (drop i items) → Gave r1 r2 (at ∷ [])
    → ((others : List Request) (later : Option (List ℕ)) → AreAsked (drop i cs) others r1 later → AreAsked cs (take i items ++ others) r later)
    → AreSpelled (drop (i + 1) cs) (drop (i + 1) (set items i (record a { at = at })))
    × ((others : List Request) (later : Option (List ℕ)) → AreAsked (drop (i + 1) cs) others r2 later → AreAsked cs (take (i + 1) (set items i (record a { at = at })) ++ others) r later)
ask-more cs items i a at r r1 r2 within here spelled gave so_far =
    let b : Request = record a { at = at } in
    let split : drop i items ≡ a ∷ drop (i + 1) items = drop_more items i a within ∙ ap (λ (x : Request). x ∷ drop (i + 1) items) (sym here) in
    let one = ask-step (drop i cs) a (drop (i + 1) items) at r1 r2 (subst (AreSpelled (drop i cs)) split spelled) gave in
    let cut : drop 1 (drop i cs) ≡ drop (i + 1) cs = drop-drop 1 i cs in
    let same : drop (i + 1) (set items i b) ≡ drop (i + 1) items = drop-set-lt (i + 1) items i b (omega arith) in
    let before : take (i + 1) (set items i b) ≡ take i items ++ b ∷ [] = take_more_set items i b within in (
      subst (λ (l : List Request). AreSpelled (drop (i + 1) cs) l) (sym same) (subst (λ (l : List Command). AreSpelled l (drop (i + 1) items)) cut one.0),
      λ others later asked.
          subst (λ (l : List Request). AreAsked cs l r later) (sym (append_assoc (take i items) (b ∷ []) others) ∙ ap (λ (l : List Request). l ++ others) (sym before))
          (so_far (b ∷ others) later (one.1 others later (subst (λ (l : List Command). AreAsked l others r2 later) (sym cut) asked))),
    )

none-asked : (cs : List Command) (r : Option (List ℕ)) → AreSpelled cs [] → AreAsked cs [] r r
none-asked [] r h = refl
none-asked (c ∷ cs) r h = absurd h

-- all were asked
pub ask-all : (cs : List Command) (rs : List Request) (r : Option (List ℕ)) → AreSpelled cs rs → rs ≡ [] → AreAsked cs [] r r
ask-all cs rs r h none = none-asked cs r (subst (AreSpelled cs) none h)

module _ {D : Type 0} (answers : Answering D) where
  -- and answered
  pub asked-each : (cs : List Command) (rs : List Request) (os : List Outcome) (M N : D) (r r2 : Option (List ℕ)) → AreAsked cs rs r r2 → length os ≡ length rs → AnswersEach answers M (exchanges rs os) N
      → AskedEach answers cs os M N r r2
  asked-each [] [] [] M N r r2 h many each = (each, h)
  asked-each [] [] (o ∷ os) M N r r2 h many each = cc
  asked-each (c ∷ cs) (a ∷ rs) [] M N r r2 h many each = cc
  asked-each (c ∷ cs) (a ∷ rs) (o ∷ os) M N r r2 h many each = (
    each.0,
    h.0,
    record { request = a; reads = h.1; command = h.2; answered = each.1; gave = h.3 },
    asked-each cs rs os each.0 N h.0 r2 h.4 (cc) each.2,
  )
  asked-each [] (a ∷ rs) os M N r r2 h many each = absurd h
  asked-each (c ∷ cs) [] os M N r r2 h many each = absurd h

-- ---- the visits

-- all is written back
pub whole-back : {A : Type 0} (old items : List A) (len : ℕ) → length items ≡ length old → len ≡ length old → take len (items ++ drop (length items) old) ≡ items
whole-back old items len same whole = all-back old items (length old) len same (omega arith) whole ∙ take_all (length old) items (omega (arith, same))

-- what is read at a place that wasn't passed yet is what was there
pub same-here : {A : Type 0} (old items : List A) (i : ℕ) (p : A) → drop i items ≡ drop i old → p ≡ get_or items i p → p ≡ get_or old i p
same-here {A} old items i p rest is =
    let none : i + 0 ≡ i = omega arith in
    let first : get_or (drop i items) 0 p ≡ get_or items i p = get_or-drop i items 0 p ∙ ap (λ (n : ℕ). get_or items n p) none in
    let second : get_or (drop i old) 0 p ≡ get_or old i p = get_or-drop i old 0 p ∙ ap (λ (n : ℕ). get_or old n p) none in
    is ∙ sym first ∙ ap (λ (l : List A). get_or l 0 p) rest ∙ second

-- a service that isn't over
pub not-over : (b : Bool) → not b ≡ true → b ≡ false
not-over true is = absurd (false≢true is)
not-over false is = refl

pub still : (g : Group) → IsStill g g
still g = record { commands = refl; requests = refl; outcomes = refl; room = refl }

-- ---- how many bytes commands take

abbrev used : List Command → ℕ
used cs = sum_by (λ (c : Command). c.used) cs

pub empty-within : EmptyGroupsAreWithin
empty-within g empty =
    let none : used_in g ≡ 0 = ap used empty.commands in
    omega (arith, none, empty.room)

pub adds-within : AddsLeaveWithin
adds-within old new c r adds within =
    let more : used_in new ≡ used_in old + c.used = ap used adds.commands ∙ sum_by_push (λ (c : Command). c.used) old.commands.items c in
    omega (arith, more, adds.room, within)

still-within : (g h : Group) → IsStill g h → IsWithin g → IsWithin h
still-within g h still within =
    let same : used_in h ≡ used_in g = ap used still.commands in
    omega (arith, same, still.room, within)

pub groups-hold_little : GroupsHoldLittle
groups-hold_little g within = omega (arith, within)

module _ {S : Type 0} (received sent : S → Option (List ℕ)) (has_none is_full has_more is_ended is_broken : S → Bool) (speaks : Dialect) {D : Type 0} (answers : Answering D) (over : D → Bool) where
  -- what the commands ask
  pub first-spelled : (paused crowd : Bool) (now most number : ℕ) (ps qs : List (Place S)) (cs : List Command) (rs : List Request) (M N : D) (r r2 : Option (List ℕ))
      → VisitsFirst received sent has_none is_full has_more is_ended is_broken speaks answers over paused crowd now most number ps qs cs rs M N r r2 → AreSpelled cs rs
  first-spelled paused crowd now most number [] [] cs rs M N r r2 v = subst (λ (l : List Command). AreSpelled l rs) (sym v.0) (subst (λ (l : List Request). AreSpelled [] l) (sym v.1) tt)
  first-spelled paused crowd now most number (p ∷ ps) (q ∷ qs) cs rs M N r r2 (inl v) = first-spelled paused crowd now most (number + 1) ps qs cs rs v.0 N v.1 r2 v.3
  first-spelled paused crowd now most number (p ∷ ps) (q ∷ qs) cs rs M N r r2 (inr v) =
      subst (λ (l : List Command). AreSpelled l rs) (sym v.4) (subst (λ (l : List Request). AreSpelled (v.0 ∷ v.2) l) (sym v.5)
      (v.6.aside.spelled, first-spelled paused crowd now most (number + 1) ps qs v.2 v.3 M N r r2 v.7))
  first-spelled paused crowd now most number [] (q ∷ qs) cs rs M N r r2 v = absurd v
  first-spelled paused crowd now most number (p ∷ ps) [] cs rs M N r r2 v = absurd v

  -- their places have no lower numbers
  first-number : (paused crowd : Bool) (now most number : ℕ) (ps qs : List (Place S)) (cs : List Command) (rs : List Request) (M N : D) (r r2 : Option (List ℕ)) (c : Command) (cs1 : List Command)
      → VisitsFirst received sent has_none is_full has_more is_ended is_broken speaks answers over paused crowd now most number ps qs cs rs M N r r2 → cs ≡ c ∷ cs1 → number ≤ c.number
  first-number paused crowd now most number [] [] cs rs M N r r2 c cs1 v is = absurd (cc)
  first-number paused crowd now most number (p ∷ ps) (q ∷ qs) cs rs M N r r2 c cs1 (inl v) is =
      let below = first-number paused crowd now most (number + 1) ps qs cs rs v.0 N v.1 r2 c cs1 v.3 is in omega (arith, below)
  first-number paused crowd now most number (p ∷ ps) (q ∷ qs) cs rs M N r r2 c cs1 (inr v) is =
      let same : v.0 ≡ c = cons-first v.0 c v.2 cs1 (sym v.4 ∙ is) in
      let at : c.number ≡ number = ap (λ (x : Command). x.number) (sym same) ∙ v.6.aside.place in
      omega (arith, at)
  first-number paused crowd now most number [] (q ∷ qs) cs rs M N r r2 c cs1 v is = absurd v
  first-number paused crowd now most number (p ∷ ps) [] cs rs M N r r2 c cs1 v is = absurd v

  -- while commands wait, there are none
  paused-none : (crowd : Bool) (now most number : ℕ) (ps qs : List (Place S)) (cs : List Command) (rs : List Request) (M N : D) (r r2 : Option (List ℕ))
      → VisitsFirst received sent has_none is_full has_more is_ended is_broken speaks answers over true crowd now most number ps qs cs rs M N r r2 → cs ≡ []
  paused-none crowd now most number [] [] cs rs M N r r2 v = v.0
  paused-none crowd now most number (p ∷ ps) (q ∷ qs) cs rs M N r r2 (inl v) = paused-none crowd now most (number + 1) ps qs cs rs v.0 N v.1 r2 v.3
  paused-none crowd now most number (p ∷ ps) (q ∷ qs) cs rs M N r r2 (inr v) = absurd (false≢true (sym v.6.unpaused))
  paused-none crowd now most number [] (q ∷ qs) cs rs M N r r2 v = absurd v
  paused-none crowd now most number (p ∷ ps) [] cs rs M N r r2 v = absurd v

  -- then nothing is answered later
  pub none-later : (now number : ℕ) (qs : List (Place S)) (cs : List Command) (os : List Outcome) → cs ≡ [] → AnswersPlaces received sent has_none is_full has_more is_ended is_broken speaks answers now number qs qs cs os
  none-later now number [] cs os none = tt
  none-later now number (q ∷ qs) cs os none = inr (subst (IsNotNext number) (sym none) tt, refl, none-later now (number + 1) qs cs os none)

  -- what is asked there is one command
  abbrev LaterThere : ℕ → ℕ → Place S → Option (OpenConnection S) → Place S → D → D → Option (List ℕ) → Option (List ℕ) → Type 0
  LaterThere now most p o q M N r r2 = (visit : VisitsThere received sent has_none is_full has_more is_ended is_broken (spoken speaks answers) now most p o q M N r r2)
      × IsOneCommand (asked_there received sent has_none is_full has_more is_ended is_broken (spoken speaks answers) now most p o q M N r r2 visit)

  later-if : (b held : Bool) (now most : ℕ) (p q : Place S) (M N : D) (r r2 : Option (List ℕ)) → b ≡ true → held ≡ false → LaterThere now most p p.connection q M N r r2
      → (visit : VisitsIf received sent has_none is_full has_more is_ended is_broken (spoken speaks answers) b held now most p q M N r r2)
      × IsOneCommand (asked_if received sent has_none is_full has_more is_ended is_broken (spoken speaks answers) b held now most p q M N r r2 visit)
  later-if true true now most p q M N r r2 is not there = absurd (false≢true (sym not))
  later-if true false now most p q M N r r2 is not there = there
  later-if false held now most p q M N r r2 is not there = absurd (false≢true is)

  after-same : (v : Visit) (p : Place S) (d : OpenConnection S) (o : Option (OpenConnection S)) → after_visit v (with_connection p o false) d ≡ after_visit v p d
  after-same Again p d o = refl
  after-same Rests p d o = refl
  after-same Over p d o = refl

  after-aside : (v : Visit) (p m : Place S) (d : OpenConnection S) (o : Option (OpenConnection S)) → m ≡ with_connection p o false → after_visit v m d ≡ after_visit v p d
  after-aside v p m d o is = ap (λ (x : Place S). after_visit v x d) is ∙ after-same v p d o

  -- the command of a place that was set aside was answered: that is a visit
  later-one : (paused crowd is_over : Bool) (now most number : ℕ) (p m q : Place S) (c : Command) (a : Request) (o : Outcome) (L N : D) (s s2 : Option (List ℕ))
      → SetsPlaceAside received sent has_none is_full has_more is_ended is_broken speaks answers paused crowd is_over now most p m number c a
      → AnswersPlace received sent has_none is_full has_more is_ended is_broken speaks answers now m q c o → IsAsked answers c o L N s s2
      → VisitsLater received sent has_none is_full has_more is_ended is_broken (spoken speaks answers) over paused crowd now most p q L N s s2
  later-one paused crowd is_over now most number p m q c a o L N s s2 x y asked =
      let ready = x.aside.ready in
      let there : m.connection ≡ Some x.is = ap (λ (l : Place S). l.connection) x.place in
      let idle : m.is_ready ≡ false = ap (λ (l : Place S). l.is_ready) x.place in
      let (d, visit, place, z) = y.answered x.is there ready.turning x.aside.first in
      let answered = z.asked L N s s2 asked in
      let visited = ready.visits d L N s s2 answered.0 in
      let one : VisitsOne received sent has_none is_full has_more is_ended is_broken (spoken speaks answers) now most p x.was q L N s s2 = record {
        connection = d;
        visits = visited.0;
        visit = visit;
        place = place idle ∙ after-aside visit p m d (Some x.is) x.place;
        rests = z.rests;
        waits = z.waits;
        more = z.more;
        over = z.lost;
        ends = λ done is_over. no-request x.is.state.held (drop c.used x.is.state.held) c.wanted (ready.ends done (sym z.over ∙ is_over)) x.aside.first.first;
        leaves = λ goes little. ready.leaves d (z.rest goes) little;
      } in
      let asks : IsOneCommand (asked_in_visit received sent (spoken speaks answers) visited.0) = subst IsOneCommand (sym (visited.1 ∙ answered.1)) asked.command in
      later-if (is_to_visit paused p) (is_held_back crowd p) now most p q L N s s2 x.is_ready x.unheld
      (subst (λ (o : Option (OpenConnection S)). LaterThere now most p o q L N s s2) (sym x.there) (one, asks))

  -- the first visits, and the commands that were answered together, are a round's visits
  pub visits-together : (paused crowd : Bool) (now most number : ℕ) (ps ms qs : List (Place S)) (cs : List Command) (rs : List Request) (os : List Outcome) (M K L N : D) (r r1 s s2 : Option (List ℕ))
      → VisitsFirst received sent has_none is_full has_more is_ended is_broken speaks answers over paused crowd now most number ps ms cs rs M K r r1
      → AskedEach answers cs os L N s s2
      → AnswersPlaces received sent has_none is_full has_more is_ended is_broken speaks answers now number ms qs cs os
      → VisitsAll received sent has_none is_full has_more is_ended is_broken (spoken speaks answers) over paused crowd now most ps qs M K L N r r1 s s2
  visits-together paused crowd now most number [] [] [] cs rs [] M K L N r r1 s s2 v asked places =
      let none = subst (λ (l : List Command). AskedEach answers l [] L N s s2) v.0 asked in (v.2, v.3, none.0, none.1)
  visits-together paused crowd now most number [] [] [] cs rs (o ∷ os) M K L N r r1 s s2 v asked places =
      absurd (subst (λ (l : List Command). AskedEach answers l (o ∷ os) L N s s2) v.0 asked)
  visits-together paused crowd now most number (p ∷ ps) (m ∷ ms) (q ∷ qs) cs rs os M K L N r r1 s s2 (inl v) asked (inr w) = inl (
    v.0,
    v.1,
    subst (λ (x : Place S). VisitsAt received sent has_none is_full has_more is_ended is_broken (spoken speaks answers) over paused crowd now most p x M v.0 r v.1) (sym w.1) v.2,
    visits-together paused crowd now most (number + 1) ps ms qs cs rs os v.0 K L N v.1 r1 s s2 v.3 asked w.2,
  )
  visits-together paused crowd now most number (p ∷ ps) (m ∷ ms) (q ∷ qs) cs rs os M K L N r r1 s s2 (inl v) asked (inl w) =
      let above = first-number paused crowd now most (number + 1) ps ms cs rs v.0 K v.1 r1 w.0 w.2 v.3 w.4 in
      let at = w.6 in
      absurd (omega (arith, above, at))
  visits-together paused crowd now most number (p ∷ ps) (m ∷ ms) (q ∷ qs) cs rs os M K L N r r1 s s2 (inr v) asked (inr w) =
      absurd (subst (IsNotNext number) v.4 w.0 v.6.aside.place)
  visits-together paused crowd now most number (p ∷ ps) (m ∷ ms) (q ∷ qs) cs rs os M K L N r r1 s s2 (inr v) asked (inl w) =
      let both = subst (λ (l : List Outcome). AskedEach answers (v.0 ∷ v.2) l L N s s2) w.5 (subst (λ (l : List Command). AskedEach answers l os L N s s2) v.4 asked) in
      let same : w.0 ≡ v.0 = cons-first w.0 v.0 w.2 v.2 (sym w.4 ∙ v.4) in
      let rest : w.2 ≡ v.2 = cons-rest w.0 v.0 w.2 v.2 (sym w.4 ∙ v.4) in
      let here = subst (λ (x : Command). AnswersPlace received sent has_none is_full has_more is_ended is_broken speaks answers now m q x w.1) same w.7 in
      let others = subst (λ (l : List Command). AnswersPlaces received sent has_none is_full has_more is_ended is_broken speaks answers now (number + 1) ms qs l w.3) rest w.8 in
      inr (
        (v.6.unpaused, v.6.goes_on),
        both.0,
        both.1,
        later-one paused crowd (over M) now most number p m q v.0 v.1 w.1 L both.0 s both.1 v.6 here both.2,
        visits-together paused crowd now most (number + 1) ps ms qs v.2 v.3 w.3 M K both.0 N r r1 both.1 s2 v.7 both.3 others,
      )
  visits-together paused crowd now most number [] [] (q ∷ qs) cs rs os M K L N r r1 s s2 v asked places = absurd places
  visits-together paused crowd now most number [] (m ∷ ms) qs cs rs os M K L N r r1 s s2 v asked places = absurd v
  visits-together paused crowd now most number (p ∷ ps) [] qs cs rs os M K L N r r1 s s2 v asked places = absurd v
  visits-together paused crowd now most number (p ∷ ps) (m ∷ ms) [] cs rs os M K L N r r1 s s2 v asked places = absurd places

  -- while commands wait, all visits are first ones
  pub paused-first : (crowd : Bool) (now most : ℕ) (ps qs : List (Place S)) (cs : List Command) (rs : List Request) (M K L : D) (r r1 s : Option (List ℕ))
      → VisitsFirst received sent has_none is_full has_more is_ended is_broken speaks answers over true crowd now most 0 ps qs cs rs M K r r1
      → VisitsAll received sent has_none is_full has_more is_ended is_broken (spoken speaks answers) over true crowd now most ps qs M K L L r r1 s s
  paused-first crowd now most ps qs cs rs M K L r r1 s v =
      let none = paused-none crowd now most 0 ps qs cs rs M K r r1 v in
      visits-together true crowd now most 0 ps qs qs cs rs [] M K L L r r1 s s v (subst (λ (l : List Command). AskedEach answers l [] L L s s) (sym none) (refl, refl)) (none-later now 0 qs cs [] none)

  -- a connection is there, and was visited
  pub visited-place : (paused crowd : Bool) (now most number : ℕ) (p : Place S) (c d : OpenConnection S) (o : Option Visit) (v : Visit) (g h : Group) (M N : D) (r r2 : Option (List ℕ)) → o ≡ Some v
      → (is_to_visit paused p && not (over M)) ≡ true → is_held_back crowd p ≡ false → p.connection ≡ Some c
      → ((visit : Visit) → o ≡ Some visit → Visits received sent (spoken speaks answers) now most c d M N r r2) → (o ≡ Some Rests → d.phase.stage ≢ Next) → (o ≡ Some Rests → must_wait has_none is_full d ≡ true)
      → (o ≡ Some Again → d.phase.stage ≡ Begun → has_more d.socket ≡ true) → (o ≡ Some Over → IsLost is_ended is_broken d) → (IsSome o → IsDone c.state → d.is_over ≡ true → o ≡ Some Over)
      → (IsSome o → o ≢ Some Over → LeavesLittle most c → LeavesLittle most d) → (IsSome o → IsStill g h)
      → VisitsOrSetsAside received sent has_none is_full has_more is_ended is_broken speaks answers over paused crowd now most number p (after_visit v p d) g h M N r r2
  visited-place paused crowd now most number p c d o v g h M N r r2 is free unheld at visits rests waits more lost ends leaves same =
      let some = some-is o v is in
      inl (
        same some,
        visits-there received sent has_none is_full has_more is_ended is_broken (spoken speaks answers) over paused crowd now most p c d v M N r r2 free unheld at (visits v is)
            (λ e. rests (is ∙ ap (λ (x : Visit). Some x) e)) (λ e. waits (is ∙ ap (λ (x : Visit). Some x) e)) (λ e. more (is ∙ ap (λ (x : Visit). Some x) e)) (λ e. lost (is ∙ ap (λ (x : Visit). Some x) e))
            (λ done over. same-some v Over (sym is ∙ ends some done over)) (λ goes. leaves some (λ e. goes (same-some v Over (sym is ∙ e)))),
      )

  -- ---- one place after the other

  visited-more : (paused crowd : Bool) (now most number : ℕ) (ps qs : List (Place S)) (p q : Place S) (cs : List Command) (rs : List Request) (M m N : D) (r r1 r2 : Option (List ℕ))
      → VisitsFirst received sent has_none is_full has_more is_ended is_broken speaks answers over paused crowd now most number ps qs cs rs M m r r1
      → VisitsAt received sent has_none is_full has_more is_ended is_broken (spoken speaks answers) over paused crowd now most p q m N r1 r2
      → VisitsFirst received sent has_none is_full has_more is_ended is_broken speaks answers over paused crowd now most number (ps ++ p ∷ []) (qs ++ q ∷ []) cs rs M N r r2
  visited-more paused crowd now most number [] [] p q cs rs M m N r r1 r2 v one = inl (
    N,
    r2,
    subst (λ (d : D). VisitsAt received sent has_none is_full has_more is_ended is_broken (spoken speaks answers) over paused crowd now most p q d N r r2) v.2
        (subst (λ (x : Option (List ℕ)). VisitsAt received sent has_none is_full has_more is_ended is_broken (spoken speaks answers) over paused crowd now most p q m N x r2) v.3 one),
    (v.0, v.1, refl, refl),
  )
  visited-more paused crowd now most number (a ∷ ps) (b ∷ qs) p q cs rs M m N r r1 r2 (inl v) one = inl (v.0, v.1, v.2, visited-more paused crowd now most (number + 1) ps qs p q cs rs v.0 m N v.1 r1 r2 v.3 one)
  visited-more paused crowd now most number (a ∷ ps) (b ∷ qs) p q cs rs M m N r r1 r2 (inr v) one =
      inr (v.0, v.1, v.2, v.3, v.4, v.5, v.6, visited-more paused crowd now most (number + 1) ps qs p q v.2 v.3 M m N r r1 r2 v.7 one)
  visited-more paused crowd now most number [] (b ∷ qs) p q cs rs M m N r r1 r2 v one = absurd v
  visited-more paused crowd now most number (a ∷ ps) [] p q cs rs M m N r r1 r2 v one = absurd v

  aside-more : (paused crowd : Bool) (now most number : ℕ) (ps qs : List (Place S)) (p q : Place S) (c : Command) (a : Request) (cs : List Command) (rs : List Request) (M m : D) (r r1 : Option (List ℕ))
      → VisitsFirst received sent has_none is_full has_more is_ended is_broken speaks answers over paused crowd now most number ps qs cs rs M m r r1
      → SetsPlaceAside received sent has_none is_full has_more is_ended is_broken speaks answers paused crowd (over m) now most p q (number + length ps) c a
      → VisitsFirst received sent has_none is_full has_more is_ended is_broken speaks answers over paused crowd now most number (ps ++ p ∷ []) (qs ++ q ∷ []) (cs ++ c ∷ []) (rs ++ a ∷ []) M m r r1
  aside-more paused crowd now most number [] [] p q c a cs rs M m r r1 v one = inr (
    c,
    a,
    [],
    [],
    ap (λ (l : List Command). l ++ c ∷ []) v.0,
    ap (λ (l : List Request). l ++ a ∷ []) v.1,
    subst (λ (d : D). SetsPlaceAside received sent has_none is_full has_more is_ended is_broken speaks answers paused crowd (over d) now most p q number c a) v.2
        (subst (λ (n : ℕ). SetsPlaceAside received sent has_none is_full has_more is_ended is_broken speaks answers paused crowd (over m) now most p q n c a) (omega arith) one),
    (refl, refl, v.2, v.3),
  )
  aside-more paused crowd now most number (x ∷ ps) (y ∷ qs) p q c a cs rs M m r r1 (inl v) one = inl (
    v.0,
    v.1,
    v.2,
    aside-more paused crowd now most (number + 1) ps qs p q c a cs rs v.0 m v.1 r1 v.3
        (subst (λ (n : ℕ). SetsPlaceAside received sent has_none is_full has_more is_ended is_broken speaks answers paused crowd (over m) now most p q n c a) (omega arith) one),
  )
  aside-more paused crowd now most number (x ∷ ps) (y ∷ qs) p q c a cs rs M m r r1 (inr v) one = inr (
    v.0,
    v.1,
    v.2 ++ c ∷ [],
    v.3 ++ a ∷ [],
    ap (λ (l : List Command). l ++ c ∷ []) v.4,
    ap (λ (l : List Request). l ++ a ∷ []) v.5,
    v.6,
    aside-more paused crowd now most (number + 1) ps qs p q c a v.2 v.3 M m r r1 v.7
        (subst (λ (n : ℕ). SetsPlaceAside received sent has_none is_full has_more is_ended is_broken speaks answers paused crowd (over m) now most p q n c a) (omega arith) one),
  )
  aside-more paused crowd now most number [] (y ∷ qs) p q c a cs rs M m r r1 v one = absurd v
  aside-more paused crowd now most number (x ∷ ps) [] p q c a cs rs M m r r1 v one = absurd v

  one-more : (paused crowd : Bool) (now most i : ℕ) (ps qs : List (Place S)) (p q : Place S) (g h : Group) (M m N : D) (r r1 r2 : Option (List ℕ)) → i ≡ length ps
      → VisitsFirst received sent has_none is_full has_more is_ended is_broken speaks answers over paused crowd now most 0 ps qs g.commands.items g.requests.items M m r r1
      → VisitsOrSetsAside received sent has_none is_full has_more is_ended is_broken speaks answers over paused crowd now most i p q g h m N r1 r2
      → VisitsFirst received sent has_none is_full has_more is_ended is_broken speaks answers over paused crowd now most 0 (ps ++ p ∷ []) (qs ++ q ∷ []) h.commands.items h.requests.items M N r r2
  one-more paused crowd now most i ps qs p q g h M m N r r1 r2 at v (inl (still, one)) =
      subst (λ (l : List Command). VisitsFirst received sent has_none is_full has_more is_ended is_broken speaks answers over paused crowd now most 0 (ps ++ p ∷ []) (qs ++ q ∷ []) l h.requests.items M N r r2) (sym still.commands)
      (subst (λ (l : List Request). VisitsFirst received sent has_none is_full has_more is_ended is_broken speaks answers over paused crowd now most 0 (ps ++ p ∷ []) (qs ++ q ∷ []) g.commands.items l M N r r2) (sym still.requests)
      (visited-more paused crowd now most 0 ps qs p q g.commands.items g.requests.items M m N r r1 r2 v one))
  one-more paused crowd now most i ps qs p q g h M m N r r1 r2 at v (inr x) =
      let adds = x.2 in
      let here = subst (λ (n : ℕ). SetsPlaceAside received sent has_none is_full has_more is_ended is_broken speaks answers paused crowd (over m) now most p q n x.0 x.1) (omega (arith, at)) x.3 in
      let more = aside-more paused crowd now most 0 ps qs p q x.0 x.1 g.commands.items g.requests.items M m r r1 v here in
      subst (λ (d : D). VisitsFirst received sent has_none is_full has_more is_ended is_broken speaks answers over paused crowd now most 0 (ps ++ p ∷ []) (qs ++ q ∷ []) h.commands.items h.requests.items M d r r2) (sym x.4)
      (subst (λ (k : Option (List ℕ)). VisitsFirst received sent has_none is_full has_more is_ended is_broken speaks answers over paused crowd now most 0 (ps ++ p ∷ []) (qs ++ q ∷ []) h.commands.items h.requests.items M m r k) (sym x.5)
      (subst (λ (l : List Command). VisitsFirst received sent has_none is_full has_more is_ended is_broken speaks answers over paused crowd now most 0 (ps ++ p ∷ []) (qs ++ q ∷ []) l h.requests.items M m r r1) (sym adds.commands)
      (subst (λ (l : List Request). VisitsFirst received sent has_none is_full has_more is_ended is_broken speaks answers over paused crowd now most 0 (ps ++ p ∷ []) (qs ++ q ∷ []) (g.commands.items ++ x.0 ∷ []) l M m r r1) (sym adds.requests)
      more)))

  -- there is still an outcome's room for each command
  pub many-step : (paused crowd : Bool) (now most i : ℕ) (p q : Place S) (g h : Group) (m N : D) (r1 r2 : Option (List ℕ))
      → VisitsOrSetsAside received sent has_none is_full has_more is_ended is_broken speaks answers over paused crowd now most i p q g h m N r1 r2
      → length g.outcomes.items ≡ length g.commands.items → length h.outcomes.items ≡ length h.commands.items
  many-step paused crowd now most i p q g h m N r1 r2 (inl (still, one)) many = still.outcomes ∙ many ∙ sym (ap (λ (l : List Command). length l) still.commands)
  many-step paused crowd now most i p q g h m N r1 r2 (inr x) many =
      let more = ap (λ (l : List Command). length l) x.2.commands in
      omega (arith, x.2.outcomes, many, more, length-append g.commands.items (x.0 ∷ []))

  -- the bytes of the commands and the room for more still make the limit
  pub within-step : (paused crowd : Bool) (now most i : ℕ) (p q : Place S) (g h : Group) (m N : D) (r1 r2 : Option (List ℕ))
      → VisitsOrSetsAside received sent has_none is_full has_more is_ended is_broken speaks answers over paused crowd now most i p q g h m N r1 r2 → IsWithin g → IsWithin h
  within-step paused crowd now most i p q g h m N r1 r2 (inl (still, one)) within = still-within g h still within
  within-step paused crowd now most i p q g h m N r1 r2 (inr x) within = adds-within g h x.0 x.1 x.2 within

  -- one more place was passed
  pub first-step : (paused crowd : Bool) (now most : ℕ) (old items : List (Place S)) (i : ℕ) (p q : Place S) (g h : Group) (M m N : D) (r r1 r2 : Option (List ℕ))
      → i < length old → length items ≡ length old → p ≡ get_or old i p
      → VisitsFirst received sent has_none is_full has_more is_ended is_broken speaks answers over paused crowd now most 0 (take i old) (take i items) g.commands.items g.requests.items M m r r1
      → VisitsOrSetsAside received sent has_none is_full has_more is_ended is_broken speaks answers over paused crowd now most i p q g h m N r1 r2
      → VisitsFirst received sent has_none is_full has_more is_ended is_broken speaks answers over paused crowd now most 0 (take (i + 1) old) (take (i + 1) (set items i q)) h.commands.items h.requests.items M N r r2
  first-step paused crowd now most old items i p q g h M m N r r1 r2 within len here all one =
      let before : take (i + 1) old ≡ take i old ++ p ∷ [] = take_more old i p within ∙ ap (λ (x : Place S). take i old ++ x ∷ []) (sym here) in
      let after : take (i + 1) (set items i q) ≡ take i items ++ q ∷ [] = take_more_set items i q (omega (arith, within, len)) in
      let at : i ≡ length (take i old) = omega (arith, length-take i old, within) in
      subst (λ (l : List (Place S)). VisitsFirst received sent has_none is_full has_more is_ended is_broken speaks answers over paused crowd now most 0 l (take (i + 1) (set items i q)) h.commands.items h.requests.items M N r r2) (sym before)
      (subst (λ (l : List (Place S)). VisitsFirst received sent has_none is_full has_more is_ended is_broken speaks answers over paused crowd now most 0 (take i old ++ p ∷ []) l h.commands.items h.requests.items M N r r2) (sym after)
      (one-more paused crowd now most i (take i old) (take i items) p q g h M m N r r1 r2 at all one))

  some-same : (o : Option (OpenConnection S)) (was other : OpenConnection S) → o ≡ Some was → o ≡ Some other → was ≡ other
  some-same o was other at there = cc

  -- the command of the connection there was answered
  pub answers-place : (now : ℕ) (old new : Place S) (c : Command) (o : Outcome) (was is : OpenConnection S) (visit : Visit) → old.connection ≡ Some was → (old.is_ready ≡ false → new ≡ after_visit visit old is)
      → (takes_turns was.phase.stage ≡ true → IsFirst speaks was.state.held c → AnswersAside received sent has_none is_full has_more is_ended is_broken speaks answers now was is visit c o)
      → AnswersPlace received sent has_none is_full has_more is_ended is_broken speaks answers now old new c o
  answers-place now old new c o was is visit at place asked = record {
    answered = λ other there turning first.
        let same : was ≡ other = some-same old.connection was other at there in
        let aside = subst (λ (w : OpenConnection S). takes_turns w.phase.stage ≡ true → IsFirst speaks w.state.held c → AnswersAside received sent has_none is_full has_more is_ended is_broken speaks answers now w is visit c o) same asked in
        (is, visit, place, aside turning first);
  }

  -- ---- the answers, one place after the other

  -- what is left to say of the places from this number on, and then all is said
  abbrev pub AnswersFrom : ℕ → ℕ → List (Place S) → List (Place S) → Group → Group → Type 0
  AnswersFrom now i old items f g = (others : List (Place S)) → AnswersPlaces received sent has_none is_full has_more is_ended is_broken speaks answers now i (drop i old) others g.commands.items (in_order g)
      → AnswersPlaces received sent has_none is_full has_more is_ended is_broken speaks answers now 0 old (take i items ++ others) f.commands.items (in_order f)

  answer-more : (now i : ℕ) (old items : List (Place S)) (p q : Place S) (f g h : Group) → i < length old → length items ≡ length old → p ≡ get_or old i p
      → ((others : List (Place S)) → AnswersPlaces received sent has_none is_full has_more is_ended is_broken speaks answers now (i + 1) (drop (i + 1) old) others h.commands.items (in_order h)
      → AnswersPlaces received sent has_none is_full has_more is_ended is_broken speaks answers now i (p ∷ drop (i + 1) old) (q ∷ others) g.commands.items (in_order g))
      → AnswersFrom now i old items f g → AnswersFrom now (i + 1) old (set items i q) f h
  answer-more now i old items p q f g h within len here one so_far others rest =
      let split : drop i old ≡ p ∷ drop (i + 1) old = drop_more old i p within ∙ ap (λ (x : Place S). x ∷ drop (i + 1) old) (sym here) in
      let before : take (i + 1) (set items i q) ≡ take i items ++ q ∷ [] = take_more_set items i q (omega (arith, within, len)) in
      let joined : take (i + 1) (set items i q) ++ others ≡ take i items ++ (q ∷ others) = ap (λ (l : List (Place S)). l ++ others) before ∙ append_assoc (take i items) (q ∷ []) others in
      subst (λ (l : List (Place S)). AnswersPlaces received sent has_none is_full has_more is_ended is_broken speaks answers now 0 old l f.commands.items (in_order f)) (sym joined)
      (so_far (q ∷ others) (subst (λ (l : List (Place S)). AnswersPlaces received sent has_none is_full has_more is_ended is_broken speaks answers now i l (q ∷ others) g.commands.items (in_order g)) (sym split) (one others rest)))

  -- one more place was passed
  pub answer-step : (now i : ℕ) (old items : List (Place S)) (p q : Place S) (f g h : Group) → i < length old → length items ≡ length old → p ≡ get_or old i p
      → AnswersNext received sent has_none is_full has_more is_ended is_broken speaks answers now i p q g h → AnswersFrom now i old items f g → AnswersFrom now (i + 1) old (set items i q) f h
  answer-step now i old items p q f g h within len here (inl (c, o, takes, answered)) so_far =
      answer-more now i old items p q f g h within len here
      (λ others rest. inl (c, o, h.commands.items, in_order h, takes.commands, takes.outcomes, takes.place, answered, rest)) so_far
  answer-step now i old items p q f g h within len here (inr (none, same, still)) so_far =
      answer-more now i old items p q f g h within len here
      (λ others rest. inr (none, still, subst (λ (x : Group). AnswersPlaces received sent has_none is_full has_more is_ended is_broken speaks answers now (i + 1) (drop (i + 1) old) others x.commands.items (in_order x)) same rest)) so_far

  -- all places were passed
  pub answer-all : (now i : ℕ) (old items : List (Place S)) (f g : Group) → length old ≤ i → length items ≡ length old → AnswersFrom now i old items f g
      → AnswersPlaces received sent has_none is_full has_more is_ended is_broken speaks answers now 0 old items f.commands.items (in_order f)
  answer-all now i old items f g past len so_far =
      let end : drop i old ≡ [] = drop_all i old past in
      let all : take i items ++ [] ≡ items = append-nil (take i items) ∙ take_all i items (omega (arith, len, past)) in
      subst (λ (l : List (Place S)). AnswersPlaces received sent has_none is_full has_more is_ended is_broken speaks answers now 0 old l f.commands.items (in_order f)) all
      (so_far [] (subst (λ (l : List (Place S)). AnswersPlaces received sent has_none is_full has_more is_ended is_broken speaks answers now i l [] g.commands.items (in_order g)) (sym end) tt))
