-- Requests that begin as queries do are queries.
use Rattle.std.proofs.Common.{◌≡◌, ◌≢◌, ◌<◌, ◌≤◌, ◌⊎◌, ◌++◌, ◌∷◌, ◌∙◌, ◌==◌, ◌&&◌, not, [], ℕ, Bool, true, false, List, Option, None, Some, IsSome, if◌then◌else◌, append_assoc, bytes_eq, codes, drop, length, nat_eq, refl, ap, subst, sym, inl, inr, arith}
use Rattle.std.specs.List.{starts_with}
use Rattle.std.proofs.lemmas.Bool.{false≢true}
use Rattle.std.proofs.lemmas.Bool.Decides.{Decides-eqb}
use Rattle.std.proofs.lemmas.Slice.Eq.{starts_is}
use Rattle.httparse.specs.Ascii.{space}
use Rattle.httparse.specs.Grammar.{ReadsRequest, RequestHead}
use Rattle.httparse.specs.Pieces.{Stops, is_newline}
use Rattle.httparse.proofs.GrammarLemmas.{request_pieces}
use Rattle.httparse.proofs.PieceLemmas.{Blank_deterministic}
use Rattle.registry_names.specs.declared.method.Method.TheVariants.{Get, Other}
use Rattle.registry_wire.specs.Asked.{method_of}
use Rattle.registry_wire.specs.Spelling.{HasRequest}
use Rattle.registry_wire.specs.declared.wanted.Wanted.{Wanted}
use Rattle.registry_wire.specs.Reading.{TakenOf}
use Rattle.registry_service.specs.Courses.{taken_for}
use Rattle.registry_service.specs.Dialects.{AreQueries, AsksQueriesByGet, IsReader}
use Rattle.registry_service.specs.Turns.{Answering, AnswersAsBefore, AnswersEach, Cause, Dialect, Exchange, Turns, bad_input, no_memory, request, spoken}
use Rattle.registry_service.specs.declared.turning.Turned.{Turned}
use Rattle.registry_server.specs.ConnectionStates.{MayTakeTurn, Pending, holding}
use Rattle.registry_server.specs.Connections.{IsInOrder, Keeps, LeavesLittle, OpenConnection, TakesOne, Visits, asked_in_turn, may_command, query_start}
use Rattle.registry_server.specs.Phases.{HeardAt, is_under_way}
use Rattle.registry_server.specs.Pools.{HoldsAskQueries, IsOneCommand, QueriesAreAnswers, ServesQueries, no_round, one_round, VisitsAll, VisitsIf, VisitsThere, asked_if, asked_there, is_crowd, is_held_back, is_to_visit}
use Rattle.registry_server.specs.Queries.{AskQueries, IsQueried, one_more, queries, unasked}
use Rattle.registry_server.specs.declared.phase.Phase.{Phase}
use Rattle.registry_server.specs.declared.phase.Stage.{Stage}
use Rattle.registry_server.specs.declared.phase.Stage.TheVariants.{Idle, Begun, Next, Sends, Drains}
use Rattle.registry_server.specs.declared.pool.Place.{Place}

-- ---- the method

get-or-other : (is : Bool) → IsReader (if is then Get else Other)
get-or-other true = inl refl
get-or-other false = inr refl

-- where the first byte is that of `GET`, the method is `GET` or one that is never served
method-reads : (word rest more : List ℕ) → 0 < length word → word ++ rest ≡ query_start ++ more → IsReader (method_of word)
method-reads [] rest more some is = absurd (omega (arith, some))
method-reads (c ∷ word) rest more some is =
    let first : c ≡ 71 = cc in
    subst (λ (d : ℕ). IsReader (method_of (d ∷ word))) (sym first) (get-or-other (bytes_eq (71 ∷ word) (codes "GET")))

-- the method stands before the first space
head-reads : (bytes : List ℕ) (h : RequestHead) (rest more : List ℕ) → ReadsRequest bytes h rest → bytes ≡ query_start ++ more → IsReader (method_of h.method)
head-reads bytes h rest more reads is =
    let start = (request_pieces bytes h rest reads).1 in
    let blank = Blank_deterministic.unique h.blank [] bytes start.0 bytes start.1 (refl, subst (Stops is_newline) (sym is) refl) in
    method-reads h.method (space ∷ start.2.0) more start.2.1.0 (sym start.2.1.2 ∙ blank.1 ∙ is)

starts : (bytes : List ℕ) → starts_with nat_eq bytes query_start ≡ true → bytes ≡ query_start ++ drop 1 bytes
starts bytes is = (starts_is Decides-eqb bytes query_start _ refl).0 is

asked-reads : (bytes : List ℕ) (w : Wanted) (rest : List ℕ) → HasRequest bytes w rest → starts_with nat_eq bytes query_start ≡ true → IsReader w.method
asked-reads bytes w rest has is =
    subst IsReader (sym (ap (λ (x : Wanted). x.method) has.asked)) (head-reads bytes has.head _ (drop 1 bytes) has.begins.reads (starts bytes is))

-- more bytes change nothing about the first
pub starts-more : (bytes more : List ℕ) → starts_with nat_eq bytes query_start ≡ true → starts_with nat_eq (bytes ++ more) query_start ≡ true
starts-more bytes more is =
    (starts_is Decides-eqb (bytes ++ more) query_start _ refl).1 (drop 1 bytes ++ more)
    (ap (λ (l : List ℕ). l ++ more) (starts bytes is) ∙ append_assoc query_start (drop 1 bytes) more)

-- ---- a turn

module _ {D : Type 0} (answers : Answering D) where
  -- what is asked of a service are queries
  each-query : (M : D) (es : List Exchange) (N : D) → AreQueries es → AnswersEach answers M es N → AnswersEach (queries answers) M es N
  each-query M [] N only same = same
  each-query M (e ∷ es) N only (K, first, rest) = (K, (only.0, first), each-query K es N only.1 rest)

  each-answered : (M : D) (es : List Exchange) (N : D) → AnswersEach (queries answers) M es N → AnswersEach answers M es N
  each-answered M [] N same = same
  each-answered M (e ∷ es) N (K, first, rest) = (K, first.1, each-answered K es N rest)

  each-no_command : (M : D) (es : List Exchange) (N : D) → AnswersEach (queries answers) M es N → IsOneCommand es → ⊥
  each-no_command M [] N asked one = one
  each-no_command M (e ∷ []) N (K, first, rest) one = false≢true (sym first.0 ∙ one)
  each-no_command M (e ∷ f ∷ es) N asked one = one

  still : (K M N : D) → N ≡ M → AskQueries answers K M → AskQueries answers K N
  still K M N same was = subst (λ (d : D). AskQueries answers K d) (sym same) was

  each-leaves : (K M : D) (es : List Exchange) (N : D) → AskQueries answers K M → AnswersEach (queries answers) M es N → AskQueries answers K N
  each-leaves K M [] N was same = still K M N same was
  each-leaves K M (e ∷ es) N was (P, first, rest) = each-leaves K P es N (one_more M P e.asked e.outcome was first.0 first.1) rest

module _ (speaks : Dialect) {D : Type 0} (answers : Answering D) where
  -- none of them is a command
  turn-no_command : (c : Cause) (M : D) (last : Bool) (t : Turned) (N : D) (x : Turns (spoken speaks (queries answers)) M c last t N) → IsOneCommand x.exchanges → ⊥
  turn-no_command (request w at) M last t N x one = each-no_command answers M x.exchanges N x.is_turn.answered.1 one
  turn-no_command (bad_input r) M last t N x one = subst IsOneCommand x.is_turn.2 one
  turn-no_command no_memory M last t N x one = subst IsOneCommand x.is_turn.2 one

  taken-no_command : {A B : Type 0} (old new : Pending) (M N : D) (r r2 : Option (List ℕ)) (over : Bool) (t : (TakesOne (spoken speaks (queries answers)) old new M N r r2 over × A) ⊎ B)
      → IsOneCommand (asked_in_turn (spoken speaks (queries answers)) t) → ⊥
  taken-no_command old new M N r r2 over (inl t) one = turn-no_command t.0.takes.cause M (old.left == 1) t.0.takes.turned N t.0.takes.turns one
  taken-no_command old new M N r r2 over (inr t) one = one

  -- where its request begins as a query does, it asks queries alone
  turn-query : AsksQueriesByGet speaks → (c : Cause) (M : D) (last : Bool) (t : Turned) (N : D) → ((w : Wanted) (at : ℕ) → c ≡ request w at → IsReader w.method)
      → Turns (spoken speaks answers) M c last t N → Turns (spoken speaks (queries answers)) M c last t N
  turn-query asks (request w at) M last t N reads x =
      let asked = x.is_turn.answered in
      record {
        exchanges = x.exchanges;
        outcome = x.outcome;
        is_turn = record {
          answered = (asked.0, each-query answers M x.exchanges N (asks w at x.exchanges x.outcome (reads w at refl) asked.0) asked.1);
          ends = x.is_turn.ends;
        };
        answer = x.answer;
        counts = x.counts;
      }
  turn-query asks (bad_input r) M last t N reads x = record { exchanges = x.exchanges; outcome = x.outcome; is_turn = x.is_turn; answer = x.answer; counts = x.counts }
  turn-query asks no_memory M last t N reads x = record { exchanges = x.exchanges; outcome = x.outcome; is_turn = x.is_turn; answer = x.answer; counts = x.counts }

  -- one by a service that is asked queries is one by the service
  turn-answered : (c : Cause) (M : D) (last : Bool) (t : Turned) (N : D) → Turns (spoken speaks (queries answers)) M c last t N → Turns (spoken speaks answers) M c last t N
  turn-answered (request w at) M last t N x = record {
    exchanges = x.exchanges;
    outcome = x.outcome;
    is_turn = record {
      answered = (x.is_turn.answered.0, each-answered answers M x.exchanges N x.is_turn.answered.1);
      ends = x.is_turn.ends;
    };
    answer = x.answer;
    counts = x.counts;
  }
  turn-answered (bad_input r) M last t N x = record { exchanges = x.exchanges; outcome = x.outcome; is_turn = x.is_turn; answer = x.answer; counts = x.counts }
  turn-answered no_memory M last t N x = record { exchanges = x.exchanges; outcome = x.outcome; is_turn = x.is_turn; answer = x.answer; counts = x.counts }

  -- it leaves what queries do, or nothing is asked
  turn-leaves : (K : D) (c : Cause) (M : D) (last : Bool) (t : Turned) (N : D) → AskQueries answers K M → Turns (spoken speaks (queries answers)) M c last t N → AskQueries answers K N
  turn-leaves K (request w at) M last t N was x = each-leaves answers K M x.exchanges N was x.is_turn.answered.1
  turn-leaves K (bad_input r) M last t N was x = still answers K M N x.is_turn.1 was
  turn-leaves K no_memory M last t N was x = still answers K M N x.is_turn.1 was

  takes-query : AsksQueriesByGet speaks → (old new : Pending) (M N : D) (r r2 : Option (List ℕ)) (over : Bool) → starts_with nat_eq old.held query_start ≡ true
      → TakesOne (spoken speaks answers) old new M N r r2 over → TakesOne (spoken speaks (queries answers)) old new M N r r2 over
  takes-query asks old new M N r r2 over is x = record {
    may = x.may;
    takes = record {
      cause = x.takes.cause;
      turned = x.takes.turned;
      took = x.takes.took;
      turns = turn-query asks x.takes.cause M (old.left == 1) x.takes.turned N
          (λ w at same. asked-reads old.held w new.held (subst (λ (c : Cause). TakenOf old.held new.held (over ≡ true) (taken_for c)) same x.takes.took) is) x.takes.turns;
      asked = x.takes.asked;
      outgoing = x.takes.outgoing;
      ends = x.takes.ends;
      left = x.takes.left;
    };
  }

  takes-answered : (old new : Pending) (M N : D) (r r2 : Option (List ℕ)) (over : Bool) → TakesOne (spoken speaks (queries answers)) old new M N r r2 over → TakesOne (spoken speaks answers) old new M N r r2 over
  takes-answered old new M N r r2 over x = record {
    may = x.may;
    takes = record {
      cause = x.takes.cause;
      turned = x.takes.turned;
      took = x.takes.took;
      turns = turn-answered x.takes.cause M (old.left == 1) x.takes.turned N x.takes.turns;
      asked = x.takes.asked;
      outgoing = x.takes.outgoing;
      ends = x.takes.ends;
      left = x.takes.left;
    };
  }

-- ---- a visit

some-not-none : {A : Type 0} (o : Option A) → IsSome o → o ≡ None → ⊥
some-not-none None some none = cc
some-not-none (Some x) some none = cc

not-false : (b : Bool) → not b ≡ false → b ≡ true
not-false true is = refl
not-false false is = absurd (false≢true (sym is))

-- where a turn is taken of a request that was begun, and that may not be a command, it begins as a query
begun-query : (s : Stage) (p : Pending) (b : Bool) → IsInOrder s p → (s ≡ Idle → ⊥) → (is_under_way s && not b) ≡ false → MayTakeTurn p → b ≡ true
begun-query Idle p b order begun is may = absurd (begun refl)
begun-query Begun p b order begun is may = not-false b is
begun-query Next p b order begun is may = not-false b is
begun-query Sends p b order begun is may = absurd (order.sends refl may.all_sent)
begun-query Drains p b order begun is may = absurd (some-not-none p.ends (order.ends refl) may.goes_on)

-- what was received is held after that, so it is a turn of the connection as it was
kept-turn : (got : List ℕ) (old : Pending) (over : Bool) (read due : Pending) → Keeps got old over read due → MayTakeTurn read → MayTakeTurn old
kept-turn got old over read due (inl kept) may =
    record { all_sent = sym (ap (λ (p : Pending). p.outgoing) kept.1) ∙ may.all_sent; goes_on = kept.0 }
kept-turn got old over read due (inr lost) may = subst MayTakeTurn lost.0 may

-- and it still begins as it did
kept-starts : (got : List ℕ) (old : Pending) (over : Bool) (read due : Pending) → Keeps got old over read due → starts_with nat_eq old.held query_start ≡ true → starts_with nat_eq read.held query_start ≡ true
kept-starts got old over read due (inl kept) is = subst (λ (l : List ℕ). starts_with nat_eq l query_start ≡ true) (sym (ap (λ (p : Pending). p.held) kept.1)) (starts-more old.held got is)
kept-starts got old over read due (inr lost) is = subst (λ (l : List ℕ). starts_with nat_eq l query_start ≡ true) (sym (ap (λ (p : Pending). p.held) lost.0)) is

module _ {S : Type 0} (received sent : S → Option (List ℕ)) (speaks : Dialect) {D : Type 0} (answers : Answering D) where
  -- of a connection with a request under way that may not be a command, a visit asks a query
  pub visit-query : AsksQueriesByGet speaks → (now most : ℕ) (old new : OpenConnection S) (M N : D) (r r2 : Option (List ℕ)) → IsInOrder old.phase.stage old.state → (old.phase.stage ≡ Idle → ⊥) → may_command old ≡ false
      → Visits received sent (spoken speaks answers) now most old new M N r r2 → Visits received sent (spoken speaks (queries answers)) now most old new M N r r2
  visit-query asks now most old new M N r r2 order begun is v = record {
    got = v.got;
    few = v.few;
    gave = v.gave;
    lean = v.lean;
    read = v.read;
    due = v.due;
    keeps = v.keeps;
    put = v.put;
    turns = elim v.turns [
      | inl t ↦ inl (
        takes-query speaks answers asks v.read v.due M N r r2 new.is_over
            (kept-starts v.got old.state old.is_over v.read v.due v.keeps
            (begun-query old.phase.stage old.state (starts_with nat_eq old.state.held query_start) order begun is (kept-turn v.got old.state old.is_over v.read v.due v.keeps t.0.may))) t.0,
        t.1,
      )
      | inr t ↦ inr (record { state = t.0.state; service = t.0.service; unasked = t.0.unasked }, t.1)
    ];
    took = v.took;
    sends = v.sends;
    over = v.over;
  }

  visit-answered : (now most : ℕ) (old new : OpenConnection S) (M N : D) (r r2 : Option (List ℕ))
      → Visits received sent (spoken speaks (queries answers)) now most old new M N r r2 → Visits received sent (spoken speaks answers) now most old new M N r r2
  visit-answered now most old new M N r r2 v = record {
    got = v.got;
    few = v.few;
    gave = v.gave;
    lean = v.lean;
    read = v.read;
    due = v.due;
    keeps = v.keeps;
    put = v.put;
    turns = elim v.turns [
      | inl t ↦ inl (takes-answered speaks answers v.read v.due M N r r2 new.is_over t.0, t.1)
      | inr t ↦ inr (record { state = t.0.state; service = t.0.service; unasked = t.0.unasked }, t.1)
    ];
    took = v.took;
    sends = v.sends;
    over = v.over;
  }

  visit-leaves : (K : D) (now most : ℕ) (old new : OpenConnection S) (M N : D) (r r2 : Option (List ℕ)) → AskQueries answers K M
      → Visits received sent (spoken speaks (queries answers)) now most old new M N r r2 → AskQueries answers K N
  visit-leaves K now most old new M N r r2 was v = elim v.turns [
    | inl t ↦ turn-leaves speaks answers K t.0.takes.cause M (v.read.left == 1) t.0.takes.turned N was t.0.takes.turns
    | inr t ↦ still answers K M N t.0.service was
  ]

-- ---- the first bytes of a request

-- what they are wasn't looked at
pub first-unseen : (now : ℕ) (old new : Phase) → old.stage ≡ Idle → HeardAt now old new → new.stage ≢ Begun
first-unseen now old new is (inl same) begun = let was : old.stage ≡ Begun = sym (ap (λ (p : Phase). p.stage) same) ∙ begun in absurd (cc)
first-unseen now old new is (inr next) begun = let was : Next ≡ Begun = sym (ap (λ (p : Phase). p.stage) next) ∙ begun in absurd (cc)

-- and there are few of them
pub first-little : {S : Type 0} (most : ℕ) (got : List ℕ) (old : Pending) (new : OpenConnection S) → old.held ≡ [] → length got ≤ most → new.state ≡ holding old (old.held ++ got) → LeavesLittle most new
first-little most got old new none few is answered =
    let size : length new.state.held ≡ length got = ap (λ (p : Pending). length p.held) is ∙ ap (λ (l : List ℕ). length (l ++ got)) none in
    omega (arith, size, few)

-- ---- a round

module _ {S : Type 0} (received sent : S → Option (List ℕ)) (has_none is_full has_more is_ended is_broken : S → Bool) (speaks : Dialect) {D : Type 0} (answers : Answering D) (over : D → Bool) where
  there-answered : (now most : ℕ) (p : Place S) (o : Option (OpenConnection S)) (q : Place S) (M N : D) (r r2 : Option (List ℕ))
      → VisitsThere received sent has_none is_full has_more is_ended is_broken (spoken speaks (queries answers)) now most p o q M N r r2 → VisitsThere received sent has_none is_full has_more is_ended is_broken (spoken speaks answers) now most p o q M N r r2
  there-answered now most p None q M N r r2 v = record { place = v.place; service = v.service; unasked = v.unasked }
  there-answered now most p (Some c) q M N r r2 v = record {
    connection = v.connection;
    visits = visit-answered received sent speaks answers now most c v.connection M N r r2 v.visits;
    visit = v.visit;
    place = v.place;
    rests = v.rests;
    waits = v.waits;
    more = v.more;
    over = v.over;
    ends = v.ends;
    leaves = v.leaves;
  }

  visited-answered : (b held : Bool) (now most : ℕ) (p q : Place S) (M N : D) (r r2 : Option (List ℕ))
      → VisitsIf received sent has_none is_full has_more is_ended is_broken (spoken speaks (queries answers)) b held now most p q M N r r2 → VisitsIf received sent has_none is_full has_more is_ended is_broken (spoken speaks answers) b held now most p q M N r r2
  visited-answered true true now most p q M N r r2 v = record { place = v.place; service = v.service; unasked = v.unasked }
  visited-answered true false now most p q M N r r2 v = there-answered now most p p.connection q M N r r2 v
  visited-answered false held now most p q M N r r2 v = record { place = v.place; service = v.service; unasked = v.unasked }

  -- no command is asked
  there-no_command : (now most : ℕ) (p : Place S) (o : Option (OpenConnection S)) (q : Place S) (M N : D) (r r2 : Option (List ℕ))
      (v : VisitsThere received sent has_none is_full has_more is_ended is_broken (spoken speaks (queries answers)) now most p o q M N r r2)
      → IsOneCommand (asked_there received sent has_none is_full has_more is_ended is_broken (spoken speaks (queries answers)) now most p o q M N r r2 v) → ⊥
  there-no_command now most p None q M N r r2 v one = one
  there-no_command now most p (Some c) q M N r r2 v one =
      taken-no_command speaks answers v.visits.read v.visits.due M N r r2 v.connection.is_over v.visits.turns one

  visited-no_command : (b held : Bool) (now most : ℕ) (p q : Place S) (M N : D) (r r2 : Option (List ℕ))
      (v : VisitsIf received sent has_none is_full has_more is_ended is_broken (spoken speaks (queries answers)) b held now most p q M N r r2)
      → IsOneCommand (asked_if received sent has_none is_full has_more is_ended is_broken (spoken speaks (queries answers)) b held now most p q M N r r2 v) → ⊥
  visited-no_command true true now most p q M N r r2 v one = one
  visited-no_command true false now most p q M N r r2 v one = there-no_command now most p p.connection q M N r r2 v one
  visited-no_command false held now most p q M N r r2 v one = one

  all-answered : (paused crowd : Bool) (now most : ℕ) (ps qs : List (Place S)) (M K L N : D) (r r1 s s2 : Option (List ℕ))
      → VisitsAll received sent has_none is_full has_more is_ended is_broken (spoken speaks (queries answers)) over paused crowd now most ps qs M K L N r r1 s s2
      → VisitsAll received sent has_none is_full has_more is_ended is_broken (spoken speaks answers) over paused crowd now most ps qs M K L N r r1 s s2
  all-answered paused crowd now most [] [] M K L N r r1 s s2 v = v
  all-answered paused crowd now most (p ∷ ps) (q ∷ qs) M K L N r r1 s s2 (inl v) = inl (
    v.0,
    v.1,
    visited-answered (is_to_visit paused p && not (over M)) (is_held_back crowd p) now most p q M v.0 r v.1 v.2,
    all-answered paused crowd now most ps qs v.0 K L N v.1 r1 s s2 v.3,
  )
  all-answered paused crowd now most (p ∷ ps) (q ∷ qs) M K L N r r1 s s2 (inr v) =
      absurd (visited-no_command (is_to_visit paused p) (is_held_back crowd p) now most p q L v.1 s v.2 v.3.0 v.3.1)
  all-answered paused crowd now most [] (q ∷ qs) M K L N r r1 s s2 v = absurd v
  all-answered paused crowd now most (p ∷ ps) [] M K L N r r1 s s2 v = absurd v

  pub queries-are-answers : QueriesAreAnswers received sent has_none is_full has_more is_ended is_broken speaks answers over
  queries-are-answers paused now most old new M N r r2 round = record {
    looked = round.looked;
    looks = round.looks;
    between = round.between;
    readings1 = round.readings1;
    visits = all-answered paused (is_crowd old) now most round.looked new M round.between round.between N r round.readings1 round.readings1 r2 round.visits;
  }

  there-leaves : (K : D) (now most : ℕ) (p : Place S) (o : Option (OpenConnection S)) (q : Place S) (M N : D) (r r2 : Option (List ℕ)) → AskQueries answers K M
      → VisitsThere received sent has_none is_full has_more is_ended is_broken (spoken speaks (queries answers)) now most p o q M N r r2 → AskQueries answers K N
  there-leaves K now most p None q M N r r2 was v = still answers K M N v.service was
  there-leaves K now most p (Some c) q M N r r2 was v = visit-leaves received sent speaks answers K now most c v.connection M N r r2 was v.visits

  visited-leaves : (K : D) (b held : Bool) (now most : ℕ) (p q : Place S) (M N : D) (r r2 : Option (List ℕ)) → AskQueries answers K M
      → VisitsIf received sent has_none is_full has_more is_ended is_broken (spoken speaks (queries answers)) b held now most p q M N r r2 → AskQueries answers K N
  visited-leaves K true true now most p q M N r r2 was v = still answers K M N v.service was
  visited-leaves K true false now most p q M N r r2 was v = there-leaves K now most p p.connection q M N r r2 was v
  visited-leaves K false held now most p q M N r r2 was v = still answers K M N v.service was

  -- the first visits, and then those that come later
  all-leave : (B : D) (paused crowd : Bool) (now most : ℕ) (ps qs : List (Place S)) (M K L N : D) (r r1 s s2 : Option (List ℕ))
      → VisitsAll received sent has_none is_full has_more is_ended is_broken (spoken speaks (queries answers)) over paused crowd now most ps qs M K L N r r1 s s2
      → (AskQueries answers B M → AskQueries answers B K) × (AskQueries answers B L → AskQueries answers B N)
  all-leave B paused crowd now most [] [] M K L N r r1 s s2 v = (λ was. still answers B M K v.0 was, λ was. still answers B L N v.2 was)
  all-leave B paused crowd now most (p ∷ ps) (q ∷ qs) M K L N r r1 s s2 (inl v) =
      let rest = all-leave B paused crowd now most ps qs v.0 K L N v.1 r1 s s2 v.3 in
      (λ was. rest.0 (visited-leaves B (is_to_visit paused p && not (over M)) (is_held_back crowd p) now most p q M v.0 r v.1 was v.2), rest.1)
  all-leave B paused crowd now most (p ∷ ps) (q ∷ qs) M K L N r r1 s s2 (inr v) =
      let rest = all-leave B paused crowd now most ps qs M K v.1 N r r1 v.2 s2 v.4 in
      (rest.0, λ was. rest.1 (visited-leaves B (is_to_visit paused p) (is_held_back crowd p) now most p q L v.1 s v.2 was v.3.0))
  all-leave B paused crowd now most [] (q ∷ qs) M K L N r r1 s s2 v = absurd v
  all-leave B paused crowd now most (p ∷ ps) [] M K L N r r1 s s2 v = absurd v

  serve-queried : (now most : ℕ) (old new : List (Place S)) (M N : D) (r r2 : Option (List ℕ)) (x : ServesQueries received sent has_none is_full has_more is_ended is_broken speaks answers over now most old new M N r r2)
      → AskQueries answers M x.between
  serve-queried now most old new M N r r2 x =
      let leave = all-leave M true (is_crowd old) now most x.round.looked x.visited M x.round.between x.round.between x.between r x.round.readings1 x.round.readings1 r2 x.round.visits in
      leave.1 (leave.0 unasked)

  -- queries after a look-up are queries without it, except that the last look-up may show later
  after-look : (M K N B : D) → AskQueries answers M K → AnswersAsBefore answers K N → AskQueries answers N B → IsQueried answers M B
  after-look M K N _ was before unasked = record { left = K; asked = was; before = before }
  after-look M K N _ was before (one_more P B r o asked is given) =
      let so_far = after-look M K N P was before asked in
      record { left = B; asked = one_more so_far.left B r o so_far.asked is (so_far.before r o B given); before = λ q p L x. x }

  look-again : (M K N : D) → IsQueried answers M K → AnswersAsBefore answers K N → IsQueried answers M N
  look-again M K N was looks = record { left = was.left; asked = was.asked; before = λ r o L x. was.before r o L (looks r o L x) }

  pub holds-ask-queries : HoldsAskQueries received sent has_none is_full has_more is_ended is_broken speaks answers over
  holds-ask-queries old M _ _ no_round = record { left = M; asked = unasked; before = λ r o L x. x }
  holds-ask-queries old M _ _ (one_round between ready new K N now most r r2 held woken x) =
      let was = holds-ask-queries old M between K held in
      look-again M x.between N (after-look M was.left K x.between was.asked was.before (serve-queried now most ready new K N r r2 x)) x.looks
