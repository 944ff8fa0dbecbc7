-- Two runs whose requests are one list once those that named a package and were accepted are dropped
-- from both.
use Rattle.std.proofs.Common.{◌≡◌, Bool, true, false, not, ◌||◌, refl, sym, ap, ap₂, ◌∙◌, subst, List, [], ◌∷◌, if◌then◌else◌}
use Rattle.std.proofs.lemmas.Bool.{and_parts}
use Rattle.registry_names.specs.Texts.{Text}
use Rattle.registry_rules.specs.Actions.{names_package}
use Rattle.registry_rules.specs.State.{State}
use Rattle.registry_rules.specs.declared.request.Request.{Request}
use Rattle.registry_laws_history.specs.History.{after}
use Rattle.registry_laws_history.specs.Runs.{HaveOutcomes, Outcome, enters, next}
use Rattle.registry_laws_hidden.specs.Arrivals.{AreAlike, Arrival, DifferIn, first_outcomes, first_requests, in_both, in_first, in_second, leaves_the_rest, second_outcomes, second_requests}
use Rattle.registry_laws_hidden.specs.Lists.{AreAnsweredAlike, AreDropped, Exchange, ListsAreAnsweredAlike, ListsHaveArrivals, both_requests, except_accepted, exchanges, is_dropped}
use Rattle.registry_laws_hidden.proofs.ArrivalFacts.{strangers_see_the_same}

module _ (p : Text) where
  record IsMerged (rs : List Request) (os : List Outcome) (qs : List Request) (ps : List Outcome) : Type 0 where
    arrivals : List Arrival
    requests : first_requests arrivals ≡ rs
    outcomes : first_outcomes arrivals ≡ os
    other_requests : second_requests arrivals ≡ qs
    other_outcomes : second_outcomes arrivals ≡ ps
    dropped : AreDropped p arrivals

  leaves : (r : Request) (o : Outcome) → is_dropped r o p ≡ true → leaves_the_rest r o p ≡ true
  leaves r o dropped = ap (λ b. b || not (enters r o)) (and_parts (names_package r.what p) _ dropped).0

  with_first : (r : Request) (o : Outcome) (rs : List Request) (os : List Outcome) (qs : List Request) (ps : List Outcome) → is_dropped r o p ≡ true → IsMerged rs os qs ps → IsMerged (r ∷ rs) (o ∷ os) qs ps
  with_first r o rs os qs ps dropped m = record {
    arrivals = in_first r o ∷ m.arrivals;
    requests = ap (λ xs. r ∷ xs) m.requests;
    outcomes = ap (λ xs. o ∷ xs) m.outcomes;
    other_requests = m.other_requests;
    other_outcomes = m.other_outcomes;
    dropped = (dropped, m.dropped);
  }

  with_second : (q : Request) (x : Outcome) (rs : List Request) (os : List Outcome) (qs : List Request) (ps : List Outcome) → is_dropped q x p ≡ true → IsMerged rs os qs ps → IsMerged rs os (q ∷ qs) (x ∷ ps)
  with_second q x rs os qs ps dropped m = record {
    arrivals = in_second q x ∷ m.arrivals;
    requests = m.requests;
    outcomes = m.outcomes;
    other_requests = ap (λ xs. q ∷ xs) m.other_requests;
    other_outcomes = ap (λ xs. x ∷ xs) m.other_outcomes;
    dropped = (dropped, m.dropped);
  }

  with_both : (r q : Request) (o x : Outcome) (rs : List Request) (os : List Outcome) (qs : List Request) (ps : List Outcome) → r ≡ q → is_dropped r o p ≡ false → is_dropped q x p ≡ false → IsMerged rs os qs ps
      → IsMerged (r ∷ rs) (o ∷ os) (q ∷ qs) (x ∷ ps)
  with_both r q o x rs os qs ps one stays stays' m = record {
    arrivals = in_both r o x ∷ m.arrivals;
    requests = ap (λ xs. r ∷ xs) m.requests;
    outcomes = ap (λ xs. o ∷ xs) m.outcomes;
    other_requests = ap₂ (λ y xs. y ∷ xs) one m.other_requests;
    other_outcomes = ap (λ xs. x ∷ xs) m.other_outcomes;
    dropped = (stays, ap (λ y. is_dropped y x p) one ∙ stays', m.dropped);
  }

  -- where the first run has no more, all that the second has is dropped
  none_left : (qs : List Request) (ps : List Outcome) (T : State) → HaveOutcomes T qs ps → [] ≡ except_accepted p qs ps → IsMerged [] [] qs ps
  none_left [] [] T b e = record { arrivals = []; requests = refl; outcomes = refl; other_requests = refl; other_outcomes = refl; dropped = tt }
  none_left [] (x ∷ ps) T b e = absurd b
  none_left (q ∷ qs) [] T b e = absurd b
  none_left (q ∷ qs) (x ∷ ps) T b e = by (none_left qs ps (next T q x) b.1) (is_dropped q x p) refl e
    where
      by : ([] ≡ except_accepted p qs ps → IsMerged [] [] qs ps) → (d : Bool) → is_dropped q x p ≡ d → [] ≡ (if d then except_accepted p qs ps else q ∷ except_accepted p qs ps) → IsMerged [] [] (q ∷ qs) (x ∷ ps)
      by later true dropped e = with_second q x [] [] qs ps dropped (later e)
      by later false stays e = absurd cc

  -- the request is found in the second run, after what is dropped
  found : (r : Request) (o : Outcome) (rs : List Request) (os : List Outcome) → is_dropped r o p ≡ false → ((qs : List Request) (ps : List Outcome) (T : State) → HaveOutcomes T qs ps → except_accepted p rs os ≡ except_accepted p qs ps → IsMerged rs os qs ps)
      → (qs : List Request) (ps : List Outcome) (T : State) → HaveOutcomes T qs ps → (r ∷ except_accepted p rs os) ≡ except_accepted p qs ps → IsMerged (r ∷ rs) (o ∷ os) qs ps
  found r o rs os here rest [] [] T b e = absurd cc
  found r o rs os here rest [] (x ∷ ps) T b e = absurd b
  found r o rs os here rest (q ∷ qs) [] T b e = absurd b
  found r o rs os here rest (q ∷ qs) (x ∷ ps) T b e = by (found r o rs os here rest qs ps (next T q x) b.1) (is_dropped q x p) refl e
    where
      by : ((r ∷ except_accepted p rs os) ≡ except_accepted p qs ps → IsMerged (r ∷ rs) (o ∷ os) qs ps) → (d : Bool) → is_dropped q x p ≡ d → (r ∷ except_accepted p rs os) ≡ (if d then except_accepted p qs ps else q ∷ except_accepted p qs ps) → IsMerged (r ∷ rs) (o ∷ os) (q ∷ qs) (x ∷ ps)
      by later true dropped e = with_second q x (r ∷ rs) (o ∷ os) qs ps dropped (later e)
      by later false stays e =
          let one : r ≡ q = cc in
          let others : except_accepted p rs os ≡ except_accepted p qs ps = cc in
          with_both r q o x rs os qs ps one here stays (rest qs ps (next T q x) b.1 others)

  merged : (rs : List Request) (os : List Outcome) (S : State) → HaveOutcomes S rs os → (qs : List Request) (ps : List Outcome) (T : State) → HaveOutcomes T qs ps → except_accepted p rs os ≡ except_accepted p qs ps → IsMerged rs os qs ps
  merged [] [] S a qs ps T b e = none_left qs ps T b e
  merged [] (o ∷ os) S a qs ps T b e = absurd a
  merged (r ∷ rs) [] S a qs ps T b e = absurd a
  merged (r ∷ rs) (o ∷ os) S a qs ps T b e = by (merged rs os (next S r o) a.1) (is_dropped r o p) refl e
    where
      by : ((xs : List Request) (ys : List Outcome) (U : State) → HaveOutcomes U xs ys → except_accepted p rs os ≡ except_accepted p xs ys → IsMerged rs os xs ys) → (d : Bool) → is_dropped r o p ≡ d → (if d then except_accepted p rs os else r ∷ except_accepted p rs os) ≡ except_accepted p qs ps → IsMerged (r ∷ rs) (o ∷ os) qs ps
      by rest true dropped e = with_first r o rs os qs ps dropped (rest qs ps T b e)
      by rest false stays e = found r o rs os stays rest qs ps T b e

  -- ---- of arrivals that are dropped from one run alone

  leave : (xs : List Arrival) → AreDropped p xs → DifferIn p xs
  leave [] dropped = tt
  leave (in_both r o q ∷ xs) dropped = leave xs dropped.2
  leave (in_first r o ∷ xs) dropped = (leaves r o dropped.0, leave xs dropped.1)
  leave (in_second r q ∷ xs) dropped = (leaves r q dropped.0, leave xs dropped.1)

  -- those of both are what is left of the first
  left : (xs : List Arrival) → AreDropped p xs → both_requests xs ≡ except_accepted p (first_requests xs) (first_outcomes xs)
  left [] dropped = refl
  left (in_both r o q ∷ xs) dropped =
      ap (λ rs. r ∷ rs) (left xs dropped.2)
      ∙ ap (λ b. if b then except_accepted p (first_requests xs) (first_outcomes xs) else r ∷ except_accepted p (first_requests xs) (first_outcomes xs)) (sym dropped.0)
  left (in_first r o ∷ xs) dropped =
      left xs dropped.1 ∙ ap (λ b. if b then except_accepted p (first_requests xs) (first_outcomes xs) else r ∷ except_accepted p (first_requests xs) (first_outcomes xs)) (sym dropped.0)
  left (in_second r q ∷ xs) dropped = left xs dropped.1

  -- their exchanges are answered alike
  side_by_side : (xs : List Arrival) (S T : State) → AreDropped p xs → AreAlike p S T xs → AreAnsweredAlike p (exchanges p S (first_requests xs) (first_outcomes xs)) (exchanges p T (second_requests xs) (second_outcomes xs))
  side_by_side [] S T dropped alike = tt
  side_by_side (in_both r o q ∷ xs) S T dropped alike =
      let xs' = exchanges p (next S r o) (first_requests xs) (first_outcomes xs) in
      let ys' = exchanges p (next T r q) (second_requests xs) (second_outcomes xs) in
      let x : Exchange = record { met = S; request = r; outcome = o } in
      let y : Exchange = record { met = T; request = r; outcome = q } in
      subst (λ b. AreAnsweredAlike p (if b then xs' else x ∷ xs') (if is_dropped r q p then ys' else y ∷ ys')) (sym dropped.0)
      (subst (λ b. AreAnsweredAlike p (x ∷ xs') (if b then ys' else y ∷ ys')) (sym dropped.1)
      (refl, alike.0, λ close. side_by_side xs (next S r o) (next T r q) dropped.2 (alike.1 close)))
  side_by_side (in_first r o ∷ xs) S T dropped alike =
      let xs' = exchanges p (next S r o) (first_requests xs) (first_outcomes xs) in
      let x : Exchange = record { met = S; request = r; outcome = o } in
      subst (λ b. AreAnsweredAlike p (if b then xs' else x ∷ xs') (exchanges p T (second_requests xs) (second_outcomes xs))) (sym dropped.0)
      (side_by_side xs (next S r o) T dropped.1 alike)
  side_by_side (in_second r q ∷ xs) S T dropped alike =
      let ys' = exchanges p (next T r q) (second_requests xs) (second_outcomes xs) in
      let y : Exchange = record { met = T; request = r; outcome = q } in
      subst (λ b. AreAnsweredAlike p (exchanges p S (first_requests xs) (first_outcomes xs)) (if b then ys' else y ∷ ys')) (sym dropped.0)
      (side_by_side xs S (next T r q) dropped.1 alike)

pub lists_have_arrivals : ListsHaveArrivals
lists_have_arrivals S T p rs qs os ps a b e =
    let m = merged p rs os S a qs ps T b e in
    record {
      arrivals = m.arrivals;
      requests = m.requests;
      outcomes = m.outcomes;
      other_requests = m.other_requests;
      other_outcomes = m.other_outcomes;
      runs = record {
        first = subst (λ xs. HaveOutcomes S xs (first_outcomes m.arrivals)) (sym m.requests) (subst (λ xs. HaveOutcomes S rs xs) (sym m.outcomes) a);
        second = subst (λ xs. HaveOutcomes T xs (second_outcomes m.arrivals)) (sym m.other_requests) (subst (λ xs. HaveOutcomes T qs xs) (sym m.other_outcomes) b);
        apart = leave p m.arrivals m.dropped;
      };
      both = left p m.arrivals m.dropped ∙ ap₂ (except_accepted p) m.requests m.outcomes;
      dropped = m.dropped;
    }

pub lists_are_answered_alike : ListsAreAnsweredAlike
lists_are_answered_alike g h p differ rs qs os ps a b one =
    let have = lists_have_arrivals (after g) (after h) p rs qs os ps a b one in
    let first = ap₂ (exchanges p (after g)) have.requests have.outcomes in
    let second = ap₂ (exchanges p (after h)) have.other_requests have.other_outcomes in
    subst (λ xs. AreAnsweredAlike p xs (exchanges p (after h) qs ps)) first
    (subst (AreAnsweredAlike p (exchanges p (after g) (first_requests have.arrivals) (first_outcomes have.arrivals))) second
    (side_by_side p have.arrivals (after g) (after h) have.dropped (strangers_see_the_same g h p differ have.arrivals have.runs)))
