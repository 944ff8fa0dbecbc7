-- Whom a new connection ends.
use Rattle.std.proofs.Common.{◌≡◌, ◌≤◌, ◌∷◌, ◌∙◌, [], ℕ, zero, suc, Bool, true, false, List, Option, None, Some, get_or, is_none, length, arith, refl, ap, subst, sym, inl, inr, if◌then◌else◌, ◌&&◌, not}
use Rattle.std.specs.Prelude.{All, MatchOption, is_some, map, position, slice_get}
use Rattle.std.proofs.lemmas.Bool.{false≢true}
use Rattle.std.proofs.lemmas.List.Elements.{All-cons, All-head, All-map, All-replicate, All-tail, All-weaker}
use Rattle.std.proofs.lemmas.List.Quantifiers.{position-Some}
use Rattle.std.proofs.lemmas.Option.{get_or_from_slice_get, slice_get_within}
use Rattle.registry_service.specs.Turns.{Dialogue}
use Rattle.registry_server.specs.Connections.{OpenConnection, finishing, must_wait, must_wait_in, waiting}
use Rattle.registry_server.specs.Phases.{idle_from, is_late}
use Rattle.registry_server.specs.Pools.{AllIdleEndsLeaveRest, ChoosesIf, EndsLeaveRest, FinishesLeaveRest, IdleEndsLeaveRest, IsAtRest, IsFirstOfEarliest, IsUnderWay, MayHaveOne, NewConnectionsLeaveRest, NewPoolRests, NewcomersEndIdle, StopsEndIdle, StopsLeaveUnderWay, VisitsAll, VisitsIf, VisitsLeaveRest, VisitsThere, WakesLeaveRest, WantOfRoomEndsIdle, after_visit, at_place, chosen, chosen_of, emptied, emptied_of, finishing_at, finishing_with, free, has_room, idle_at, idle_in, idle_times, idle_with, in_time, is_crowd, is_free, is_held_back, is_to_visit, kept_at, left_with, new_at, place_count, settled, unless_idle, waiting_at, waiting_with, woken}
use Rattle.registry_server.specs.declared.connection.Visit.{Visit}
use Rattle.registry_server.specs.declared.connection.Visit.TheVariants.{Again, Rests, Over}
use Rattle.registry_server.specs.declared.phase.Stage.{Stage}
use Rattle.registry_server.specs.declared.phase.Stage.TheVariants.{Idle, Begun, Next, Sends, Drains}
use Rattle.registry_server.specs.declared.pool.Place.{Place}

none-some : {A B : Type 0} (x : A) → None ≡ Some x → B
none-some x is = absurd (cc)

idle-stage : (s : Stage) (since t : ℕ) → idle_from s since ≡ Some t → s ≡ Idle
idle-stage Idle since t is = refl
idle-stage Begun since t is = none-some t is
idle-stage Next since t is = none-some t is
idle-stage Sends since t is = none-some t is
idle-stage Drains since t is = none-some t is

module _ {S : Type 0} (has_none is_full : S → Bool) where
  -- where nothing is begun it waits until something comes
  idle-waits : (c : OpenConnection S) → c.phase.stage ≡ Idle → must_wait has_none is_full c ≡ true → has_none c.socket ≡ true
  idle-waits c idle waits = sym (ap (λ (s : Stage). must_wait_in s (has_none c.socket) (is_full c.socket)) idle) ∙ waits

  -- no connection is there
  rest-free : IsAtRest has_none is_full free
  rest-free c ready at = none-some c at

  -- it is to be visited
  rest-ready : (p : Place S) → p.is_ready ≡ true → IsAtRest has_none is_full p
  rest-ready p is c ready at = absurd (false≢true (sym ready ∙ is))

  at-rest : (change : Place S → Place S) (places : List (Place S)) (k : ℕ) → ((p : Place S) → IsAtRest has_none is_full (change p))
      → All (IsAtRest has_none is_full) places → All (IsAtRest has_none is_full) (at_place change places k)
  at-rest change [] k rests h = h
  at-rest change (p ∷ places) zero rests h = All-cons (IsAtRest has_none is_full) (change p) places (rests p) (All-tail (IsAtRest has_none is_full) p places h)
  at-rest change (p ∷ places) (suc k) rests h = All-cons (IsAtRest has_none is_full) p (at_place change places k)
      (All-head (IsAtRest has_none is_full) p places h) (at-rest change places k rests (All-tail (IsAtRest has_none is_full) p places h))

  kept-if : (b : Bool) (d c : OpenConnection S) → (if b then None else Some d) ≡ Some c → Some d ≡ Some c
  kept-if true d c is = none-some c is
  kept-if false d c is = is

  was-there : (now : ℕ) (o : Option (OpenConnection S)) (c : OpenConnection S) → in_time now o ≡ Some c → o ≡ Some c
  was-there now None c is = none-some c is
  was-there now (Some d) c is = kept-if (is_late d.phase now) d c is

  kept-rest : (now : ℕ) (p : Place S) → IsAtRest has_none is_full p → IsAtRest has_none is_full (kept_at now p)
  kept-rest now p h c ready at = h c ready (was-there now p.connection c at)

  pub new-pool-rests : NewPoolRests has_none is_full
  new-pool-rests = All-replicate (IsAtRest has_none is_full) place_count free rest-free

  pub new-connections-leave-rest : NewConnectionsLeaveRest has_none is_full
  new-connections-leave-rest now socket places k h = at-rest (λ p. new_at now socket) places k (λ p. rest-ready (new_at now socket) refl) h

  pub wakes-leave-rest : WakesLeaveRest has_none is_full
  wakes-leave-rest places k h = at-rest woken places k (λ p. rest-ready (woken p) refl) h

  emptied-rest : (p : Place S) → IsAtRest has_none is_full (emptied p)
  emptied-rest p c ready at = none-some c at

  emptied-at-rest : (old : List (Place S)) (which : Option ℕ) → All (IsAtRest has_none is_full) old → All (IsAtRest has_none is_full) (emptied_of old which)
  emptied-at-rest old None h = h
  emptied-at-rest old (Some k) h = at-rest emptied old k emptied-rest h

  pub idle-ends-leave-rest : IdleEndsLeaveRest has_none is_full
  idle-ends-leave-rest old new found h ends = subst (All (IsAtRest has_none is_full)) (sym ends.places) (emptied-at-rest old ends.which h)

  left-if : (b : Bool) (o : Option (OpenConnection S)) (c : OpenConnection S) → (if b then None else o) ≡ Some c → o ≡ Some c
  left-if true o c is = none-some c is
  left-if false o c is = is

  left-rest : (p : Place S) → IsAtRest has_none is_full p → IsAtRest has_none is_full (unless_idle p)
  left-rest p h c ready at = h c ready (left-if (is_some (idle_in p)) p.connection c at)

  pub all-idle-ends-leave-rest : AllIdleEndsLeaveRest has_none is_full
  all-idle-ends-leave-rest places h = All-map (IsAtRest has_none is_full) unless_idle places
      (All-weaker (IsAtRest has_none is_full) (λ p. IsAtRest has_none is_full (unless_idle p)) left-rest places h)

  -- the next request of one is its last
  finishing-with-rest : (p : Place S) (o : Option (OpenConnection S)) → p.connection ≡ o → IsAtRest has_none is_full p → (c : OpenConnection S) → p.is_ready ≡ false → finishing_with o ≡ Some c → must_wait has_none is_full c ≡ true
  finishing-with-rest p None is h c ready at = none-some c at
  finishing-with-rest p (Some d) is h c ready at = let same : finishing d ≡ c = cc in subst (λ (x : OpenConnection S). must_wait has_none is_full x ≡ true) same (h d ready is)

  finishing-rest : (p : Place S) → IsAtRest has_none is_full p → IsAtRest has_none is_full (finishing_at p)
  finishing-rest p h c ready at = finishing-with-rest p p.connection refl h c ready at

  pub finishes-leave-rest : FinishesLeaveRest has_none is_full
  finishes-leave-rest places h = All-map (IsAtRest has_none is_full) finishing_at places
      (All-weaker (IsAtRest has_none is_full) (λ p. IsAtRest has_none is_full (finishing_at p)) finishing-rest places h)

  pub ends-leave-rest : EndsLeaveRest has_none is_full
  ends-leave-rest now places h = All-map (IsAtRest has_none is_full) (kept_at now) places
      (All-weaker (IsAtRest has_none is_full) (λ p. IsAtRest has_none is_full (kept_at now p)) (kept-rest now) places h)

  -- after a visit
  after-rest : (v : Visit) (p : Place S) (d : OpenConnection S) → (v ≡ Rests → must_wait has_none is_full d ≡ true) → IsAtRest has_none is_full (after_visit v p d)
  after-rest Again p d waits c ready at = absurd (false≢true (sym ready))
  after-rest Rests p d waits c ready at = let same : d ≡ c = cc in subst (λ (x : OpenConnection S). must_wait has_none is_full x ≡ true) same (waits refl)
  after-rest Over p d waits c ready at = none-some c at

  -- one that is held back
  waiting-rest : (now : ℕ) (p : Place S) (o : Option (OpenConnection S)) → p.connection ≡ o → IsAtRest has_none is_full p → (c : OpenConnection S) → p.is_ready ≡ false → waiting_with now o ≡ Some c → must_wait has_none is_full c ≡ true
  waiting-rest now p None is h c ready at = none-some c at
  waiting-rest now p (Some d) is h c ready at = let same : waiting now d ≡ c = cc in subst (λ (x : OpenConnection S). must_wait has_none is_full x ≡ true) same (h d ready is)

  pub waiting-at-rest : (now : ℕ) (p : Place S) → IsAtRest has_none is_full p → IsAtRest has_none is_full (waiting_at now p)
  waiting-at-rest now p h c ready at = waiting-rest now p p.connection refl h c ready at

  -- bodies stay chosen, or they don't
  settled-rest : (places : List (Place S)) → All (IsAtRest has_none is_full) places → All (IsAtRest has_none is_full) (map settled places)
  settled-rest places h = All-map (IsAtRest has_none is_full) settled places
      (All-weaker (IsAtRest has_none is_full) (λ p. IsAtRest has_none is_full (settled p)) (λ p rests c ready at. rests c ready at) places h)

  chosen-at-rest : (places : List (Place S)) (k : ℕ) → All (IsAtRest has_none is_full) places → All (IsAtRest has_none is_full) (at_place chosen places k)
  chosen-at-rest [] k h = h
  chosen-at-rest (p ∷ places) zero h = All-cons (IsAtRest has_none is_full) (chosen p) places
      (λ c ready at. All-head (IsAtRest has_none is_full) p places h c ready at) (All-tail (IsAtRest has_none is_full) p places h)
  chosen-at-rest (p ∷ places) (suc k) h = All-cons (IsAtRest has_none is_full) p (at_place chosen places k)
      (All-head (IsAtRest has_none is_full) p places h) (chosen-at-rest places k (All-tail (IsAtRest has_none is_full) p places h))

  chosen-rest : (places : List (Place S)) (next : Option ℕ) → All (IsAtRest has_none is_full) places → All (IsAtRest has_none is_full) (chosen_of places next)
  chosen-rest places None h = h
  chosen-rest places (Some k) h = chosen-at-rest places k h

  looked-rest : (b : Bool) (old new : List (Place S)) → ChoosesIf b old new → All (IsAtRest has_none is_full) old → All (IsAtRest has_none is_full) new
  looked-rest true old new chooses h = subst (All (IsAtRest has_none is_full)) (sym chooses.places) (chosen-rest old chooses.next h)
  looked-rest false old new same h = subst (All (IsAtRest has_none is_full)) (sym same) h

  idle-if : (b : Bool) (o : Option (OpenConnection S)) (c : OpenConnection S) (t : ℕ) → o ≡ Some c → (if b then None else idle_with o) ≡ Some t → (b ≡ false) × (c.phase.stage ≡ Idle)
  idle-if true o c t at is = none-some t is
  idle-if false o c t at is = (refl, idle-stage c.phase.stage c.phase.since t (sym (ap idle_with at) ∙ is))

  ends-idle : (places : List (Place S)) (k : ℕ) (p : Place S) (c : OpenConnection S) (o : Option ℕ) → slice_get places k ≡ Some p → p.connection ≡ Some c → position is_free places ≡ o
      → MatchOption o (IsFirstOfEarliest (idle_times places) (length places) (Some k)) (λ j. Some k ≡ Some j) → (p.is_ready ≡ false) × (c.phase.stage ≡ Idle)
  ends-idle places k p c None there at first longest = idle-if p.is_ready p.connection c longest.0 at (sym (ap idle_at there) ∙ longest.2)
  ends-idle places k p c (Some j) there at first same =
      let one : j ≡ k = cc in
      let empty : is_free (get_or places j p) ≡ true = (position-Some is_free places j p first).1 in
      let here : get_or places j p ≡ p = ap (λ (n : ℕ). get_or places n p) one ∙ get_or_from_slice_get places k p p there in
      let gone : is_free p ≡ true = ap is_free (sym here) ∙ empty in
      absurd (false≢true (sym (ap (λ (m : Option (OpenConnection S)). is_none m) at) ∙ gone))

  pub newcomers-end-idle : NewcomersEndIdle has_none is_full
  newcomers-end-idle places k p c rests place there at =
      let idle = ends-idle places k p c (position is_free places) there at refl place in
      let rest : IsAtRest has_none is_full p = subst (IsAtRest has_none is_full) (get_or_from_slice_get places k p p there) (rests k p (slice_get_within places k p there)) in
      (idle.0, idle-waits c idle.1 (rest c idle.0 at), idle.1)

  idle-first : (places : List (Place S)) (which : Option ℕ) (k : ℕ) (p : Place S) (c : OpenConnection S) → IsFirstOfEarliest (idle_times places) (length places) which → which ≡ Some k
      → slice_get places k ≡ Some p → p.connection ≡ Some c → (p.is_ready ≡ false) × (c.phase.stage ≡ Idle)
  idle-first places None k p c first is there at = none-some k is
  idle-first places (Some j) k p c first is there at =
      let one : j ≡ k = cc in
      idle-if p.is_ready p.connection c first.0 at (sym (ap idle_at there) ∙ ap (idle_times places) (sym one) ∙ first.2)

  pub want-of-room-ends-idle : WantOfRoomEndsIdle has_none is_full
  want-of-room-ends-idle old new found ends k p c rests is there at =
      let idle = idle-first old ends.which k p c ends.first is there at in
      let rest : IsAtRest has_none is_full p = subst (IsAtRest has_none is_full) (get_or_from_slice_get old k p p there) (rests k p (slice_get_within old k p there)) in
      (idle.0, idle-waits c idle.1 (rest c idle.0 at), idle.1)

  -- a connection was there, and isn't any more
  was-idle : (o : Option ℕ) (there : Option (OpenConnection S)) (c : OpenConnection S) → there ≡ Some c → (if is_some o then None else there) ≡ None → (t : ℕ) × (o ≡ Some t)
  was-idle None there c at is = none-some c (sym is ∙ at)
  was-idle (Some t) there c at is = (t, refl)

  pub stops-end-idle : StopsEndIdle has_none is_full
  stops-end-idle p c rests at is =
      let was = was-idle (idle_in p) p.connection c at is in
      let idle = idle-if p.is_ready p.connection c was.0 at was.1 in
      (idle.0, idle-waits c idle.1 (rests c idle.0 at), idle.1)

-- none is left on which nothing is begun
left-idle : {S : Type 0} (o : Option (OpenConnection S)) (t : Option ℕ) → idle_with o ≡ t → idle_with (if is_some t then None else o) ≡ None
left-idle o None is = is
left-idle o (Some t) is = refl

left-under-way : {S : Type 0} (ready : Bool) (o : Option (OpenConnection S))
    → (if ready then None else idle_with (if is_some (if ready then None else idle_with o) then None else o)) ≡ None
left-under-way true o = refl
left-under-way false o = left-idle o (idle_with o) refl

pub stops-leave-under-way : (S : Type 0) → StopsLeaveUnderWay S
stops-leave-under-way S places = All-map (IsUnderWay {S = S}) unless_idle places
    (λ k d lt. left-under-way (get_or places k d).is_ready (get_or places k d).connection)

-- what is under way still is where its next request is its last
finishing-idle : {S : Type 0} (o : Option (OpenConnection S)) → idle_with (finishing_with o) ≡ idle_with o
finishing-idle None = refl
finishing-idle (Some c) = refl

finishing-under-way : {S : Type 0} (p : Place S) → IsUnderWay p → IsUnderWay (finishing_at p)
finishing-under-way p is = ap (λ (t : Option ℕ). if p.is_ready then None else t) (finishing-idle p.connection) ∙ is

pub finishes-leave-under-way : {S : Type 0} (places : List (Place S)) → All IsUnderWay places → All IsUnderWay (map finishing_at places)
finishes-leave-under-way {S} places h = All-map (IsUnderWay {S = S}) finishing_at places
    (All-weaker (IsUnderWay {S = S}) (λ (p : Place S). IsUnderWay (finishing_at p)) finishing-under-way places h)

finishing-one : {S : Type 0} (o : Option (OpenConnection S)) → left_with (finishing_with o) ≤ 1
finishing-one None = omega arith
finishing-one (Some c) = omega arith

pub finishes-leave-one : {S : Type 0} (places : List (Place S)) → All MayHaveOne (map finishing_at places)
finishes-leave-one {S} places = All-map (MayHaveOne {S = S}) finishing_at places
    (λ k d lt. finishing-one (get_or places k d).connection)

module _ {S : Type 0} (received sent : S → Option (List ℕ)) (has_none is_full has_more is_ended is_broken : S → Bool) {D : Type 0} (answers : Dialogue D) (over : D → Bool) where
  there-rests : (now most : ℕ) (p : Place S) (o : Option (OpenConnection S)) (q : Place S) (M N : D) (r r2 : Option (List ℕ))
      → VisitsThere received sent has_none is_full has_more is_ended is_broken answers now most p o q M N r r2 → IsAtRest has_none is_full q
  there-rests now most p None q M N r r2 v = subst (IsAtRest has_none is_full) (sym v.place) (λ c ready at. none-some c at)
  there-rests now most p (Some c) q M N r r2 v = subst (IsAtRest has_none is_full) (sym v.place) (after-rest has_none is_full v.visit p v.connection v.waits)

  visited-rests : (b held : Bool) (now most : ℕ) (p q : Place S) (M N : D) (r r2 : Option (List ℕ)) → IsAtRest has_none is_full p
      → VisitsIf received sent has_none is_full has_more is_ended is_broken answers b held now most p q M N r r2 → IsAtRest has_none is_full q
  visited-rests true true now most p q M N r r2 h v = subst (IsAtRest has_none is_full) (sym v.place) (waiting-at-rest has_none is_full now p h)
  visited-rests true false now most p q M N r r2 h v = there-rests now most p p.connection q M N r r2 v
  visited-rests false held now most p q M N r r2 h v = subst (IsAtRest has_none is_full) (sym v.place) h

  visited-rest : (paused crowd : Bool) (now most : ℕ) (ps qs : List (Place S)) (M K L N : D) (r r1 s s2 : Option (List ℕ)) → All (IsAtRest has_none is_full) ps
      → VisitsAll received sent has_none is_full has_more is_ended is_broken answers over paused crowd now most ps qs M K L N r r1 s s2 → All (IsAtRest has_none is_full) qs
  visited-rest paused crowd now most [] [] M K L N r r1 s s2 h v = h
  visited-rest paused crowd now most (p ∷ ps) (q ∷ qs) M K L N r r1 s s2 h (inl v) = All-cons (IsAtRest has_none is_full) q qs
      (visited-rests (is_to_visit paused p && not (over M)) (is_held_back crowd p) now most p q M v.0 r v.1 (All-head (IsAtRest has_none is_full) p ps h) v.2)
      (visited-rest paused crowd now most ps qs v.0 K L N v.1 r1 s s2 (All-tail (IsAtRest has_none is_full) p ps h) v.3)
  visited-rest paused crowd now most (p ∷ ps) (q ∷ qs) M K L N r r1 s s2 h (inr v) = All-cons (IsAtRest has_none is_full) q qs
      (visited-rests (is_to_visit paused p) (is_held_back crowd p) now most p q L v.1 s v.2 (All-head (IsAtRest has_none is_full) p ps h) v.3.0)
      (visited-rest paused crowd now most ps qs M K v.1 N r r1 v.2 s2 (All-tail (IsAtRest has_none is_full) p ps h) v.4)
  visited-rest paused crowd now most [] (q ∷ qs) M K L N r r1 s s2 h v = absurd v
  visited-rest paused crowd now most (p ∷ ps) [] M K L N r r1 s s2 h v = absurd v

  pub visits-leave-rest : VisitsLeaveRest received sent has_none is_full has_more is_ended is_broken answers over
  visits-leave-rest paused now most old new M N r r2 h round = visited-rest paused (is_crowd old) now most round.looked new M round.between round.between N r round.readings1 round.readings1 r2
      (looked-rest has_none is_full (is_crowd old && has_room old) (map settled old) round.looked round.looks (settled-rest has_none is_full old h)) round.visits
