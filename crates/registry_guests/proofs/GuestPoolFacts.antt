-- The visits of the slots, from the first on.
use Rattle.std.proofs.Common.{◌≡◌, ◌≢◌, ◌<◌, ◌≤◌, ◌+◌, ◌++◌, ◌∷◌, [], ◌∙◌, ℕ, zero, suc, Bool, true, false, List, Option, None, Some, length, get_or, set, take, drop, refl, ap, sym, subst, arith, ◌&&◌, not}
use Rattle.std.specs.Prelude.{IfSome}
use Rattle.std.proofs.lemmas.List.{drop-drop, drop-set-lt, get_or-drop, take_more, take_more_set}
use Rattle.registry_server.specs.Pools.{at_place}
use Rattle.registry_server.specs.declared.connection.Visit.{Visit}
use Rattle.registry_server.specs.declared.connection.Visit.TheVariants.{Again, Rests, Over}
use Rattle.registry_service.specs.Turns.{Answering}
use Rattle.registry_guests.specs.Guests.{HasNoMessage, IsOver, IsWithin, OpenGuest, Visits, must_wait}
use Rattle.registry_guests.specs.GuestPools.{IsWithinAt, StayWithin, VisitsAll, VisitsAt, VisitsIf, VisitsThere, after_visit, new_at, slot}
use Rattle.registry_guests.specs.declared.guest_pool.GuestSlot.{GuestSlot}

-- ---- one slot changed

pub at-put : {A : Type 0} (xs : List A) (k : ℕ) (y : A) → k < length xs → set xs k y ≡ at_place (λ _. y) xs k
at-put [] k y within = absurd (omega (arith, within))
at-put (x ∷ xs) zero y within = refl
at-put (x ∷ xs) (suc k) y within = ap (λ (l : List _). x ∷ l) (at-put xs k y (omega (arith, within)))

pub at-set : {A : Type 0} (change : A → A) (xs : List A) (k : ℕ) (x : A) → k < length xs → x ≡ get_or xs k x → set xs k (change x) ≡ at_place change xs k
at-set change [] k x within is = absurd (omega (arith, within))
at-set change (y ∷ xs) zero x within is = ap (λ (z : _). change z ∷ xs) is
at-set change (y ∷ xs) (suc k) x within is = ap (λ (l : List _). y ∷ l) (at-set change xs k x (omega (arith, within)) is)

pub at-none : {A : Type 0} (change : A → A) (xs : List A) (k : ℕ) → length xs ≤ k → xs ≡ at_place change xs k
at-none change [] k beyond = refl
at-none change (y ∷ xs) zero beyond = absurd (omega (arith, beyond))
at-none change (y ∷ xs) (suc k) beyond = ap (λ (l : List _). y ∷ l) (at-none change xs k (omega (arith, beyond)))

-- the slots that weren't visited yet are as they were
pub rest-step : {A : Type 0} (old items : List A) (i : ℕ) (q : A) → drop i items ≡ drop i old → drop (i + 1) (set items i q) ≡ drop (i + 1) old
rest-step old items i q rest =
    drop-set-lt (i + 1) items i q (omega arith) ∙ sym (drop-drop 1 i items) ∙ ap (drop 1) rest ∙ drop-drop 1 i old

-- ---- visits

module _ {S : Type 0} (received sent : S → Option (List ℕ)) (has_none is_full is_ended is_broken : S → Bool) {D : Type 0} (answers : Answering D) (over : D → Bool) where
  -- it isn't to be visited, or the service is over
  pub visits-none : (most : ℕ) (p : GuestSlot S) (M : D) (r : Option (List ℕ)) → (p.is_ready && not (over M)) ≡ false → VisitsAt received sent has_none is_full is_ended is_broken answers over most p p M M r r
  visits-none most p M r is = subst (λ (b : Bool). VisitsIf received sent has_none is_full is_ended is_broken answers b most p p M M r r) (sym is) (record { slot_after = refl; service = refl; unasked = refl })

  there : (most : ℕ) (p q : GuestSlot S) (M N : D) (r r2 : Option (List ℕ)) (g : Option (OpenGuest S)) → (p.is_ready && not (over M)) ≡ true → p.guest ≡ g
      → VisitsThere received sent has_none is_full is_ended is_broken answers most g q M N r r2 → VisitsAt received sent has_none is_full is_ended is_broken answers over most p q M N r r2
  there most p q M N r r2 g is at visits =
      subst (λ (b : Bool). VisitsIf received sent has_none is_full is_ended is_broken answers b most p q M N r r2) (sym is)
      (subst (λ (o : Option (OpenGuest S)). VisitsThere received sent has_none is_full is_ended is_broken answers most o q M N r r2) (sym at) visits)

  -- nobody is there
  pub visits-free : (most : ℕ) (p : GuestSlot S) (M : D) (r : Option (List ℕ)) → (p.is_ready && not (over M)) ≡ true → p.guest ≡ None
      → VisitsAt received sent has_none is_full is_ended is_broken answers over most p (slot p.guest false) M M r r
  visits-free most p M r is at = there most p (slot p.guest false) M M r r None is at (record { slot_after = ap (λ (o : Option (OpenGuest S)). slot o false) at; service = refl; unasked = refl })

  -- a guest is there, and was visited
  pub visits-there : (most : ℕ) (p : GuestSlot S) (c d : OpenGuest S) (v : Visit) (M N : D) (r r2 : Option (List ℕ)) → (p.is_ready && not (over M)) ≡ true → p.guest ≡ Some c
      → Visits received sent has_none answers most c d M N r r2 → (v ≢ Over → IsWithin c → IsWithin d) → (v ≡ Rests → must_wait has_none is_full d ≡ true) → (v ≡ Rests → HasNoMessage d) → (v ≡ Over → IsOver is_ended is_broken d)
      → VisitsAt received sent has_none is_full is_ended is_broken answers over most p (after_visit v d) M N r r2
  visits-there most p c d v M N r r2 is at visits within waits no_message ends = there most p (after_visit v d) M N r r2 (Some c) is at
      (record { guest = d; visits = visits; visit = v; slot_after = refl; within = within; waits = waits; no_message = no_message; over = ends })

  visits-more : (most : ℕ) (ps qs : List (GuestSlot S)) (p q : GuestSlot S) (M m N : D) (r r1 r2 : Option (List ℕ))
      → VisitsAll received sent has_none is_full is_ended is_broken answers over most ps qs M m r r1 → VisitsAt received sent has_none is_full is_ended is_broken answers over most p q m N r1 r2
      → VisitsAll received sent has_none is_full is_ended is_broken answers over most (ps ++ p ∷ []) (qs ++ q ∷ []) M N r r2
  visits-more most [] [] p q M m N r r1 r2 all one = (
    N,
    r2,
    subst (λ (d : D). VisitsAt received sent has_none is_full is_ended is_broken answers over most p q d N r r2) all.0
        (subst (λ (x : Option (List ℕ)). VisitsAt received sent has_none is_full is_ended is_broken answers over most p q m N x r2) all.1 one),
    (refl, refl),
  )
  visits-more most (a ∷ ps) (b ∷ qs) p q M m N r r1 r2 all one = (all.0, all.1, all.2, visits-more most ps qs p q all.0 m N all.1 r1 r2 all.3 one)
  visits-more most [] (b ∷ qs) p q M m N r r1 r2 all one = absurd all
  visits-more most (a ∷ ps) [] p q M m N r r1 r2 all one = absurd all

  -- one more slot was visited
  pub visits-step : (most : ℕ) (old items : List (GuestSlot S)) (i : ℕ) (p q : GuestSlot S) (M m N : D) (r r1 r2 : Option (List ℕ))
      → i < length old → length items ≡ length old → drop i items ≡ drop i old → p ≡ get_or items i p
      → VisitsAll received sent has_none is_full is_ended is_broken answers over most (take i old) (take i items) M m r r1
      → VisitsAt received sent has_none is_full is_ended is_broken answers over most p q m N r1 r2
      → VisitsAll received sent has_none is_full is_ended is_broken answers over most (take (i + 1) old) (take (i + 1) (set items i q)) M N r r2
  visits-step most old items i p q M m N r r1 r2 within len rest is all one =
      let none : i + 0 ≡ i = omega arith in
      let first : get_or (drop i items) 0 p ≡ get_or items i p = get_or-drop i items 0 p ∙ ap (λ (n : ℕ). get_or items n p) none in
      let second : get_or (drop i old) 0 p ≡ get_or old i p = get_or-drop i old 0 p ∙ ap (λ (n : ℕ). get_or old n p) none in
      let here : p ≡ get_or old i p = is ∙ sym first ∙ ap (λ (l : List (GuestSlot S)). get_or l 0 p) rest ∙ second in
      let before : take (i + 1) old ≡ take i old ++ p ∷ [] = take_more old i p within ∙ ap (λ (x : GuestSlot S). take i old ++ x ∷ []) (sym here) in
      let after : take (i + 1) (set items i q) ≡ take i items ++ q ∷ [] = take_more_set items i q (omega (arith, within, len)) in
      subst (λ (l : List (GuestSlot S)). VisitsAll received sent has_none is_full is_ended is_broken answers over most l (take (i + 1) (set items i q)) M N r r2) (sym before)
      (subst (λ (l : List (GuestSlot S)). VisitsAll received sent has_none is_full is_ended is_broken answers over most (take i old ++ p ∷ []) l M N r r2) (sym after)
      (visits-more most (take i old) (take i items) p q M m N r r1 r2 all one))

  -- ---- what is held

  within-after : (v : Visit) (g : OpenGuest S) → (v ≢ Over → IsWithin g) → IsWithinAt (after_visit v g)
  within-after Again g is = is (λ e. absurd (cc))
  within-after Rests g is = is (λ e. absurd (cc))
  within-after Over g is = tt

  within-there : (most : ℕ) (o : Option (OpenGuest S)) (q : GuestSlot S) (M N : D) (r r2 : Option (List ℕ)) → VisitsThere received sent has_none is_full is_ended is_broken answers most o q M N r r2
      → IfSome o IsWithin → IsWithinAt q
  within-there most None q M N r r2 v is = subst IsWithinAt (sym v.slot_after) tt
  within-there most (Some g) q M N r r2 v is = subst IsWithinAt (sym v.slot_after) (within-after v.visit v.guest (λ on. v.within on is))

  within-if : (b : Bool) (most : ℕ) (p q : GuestSlot S) (M N : D) (r r2 : Option (List ℕ)) → VisitsIf received sent has_none is_full is_ended is_broken answers b most p q M N r r2
      → IsWithinAt p → IsWithinAt q
  within-if true most p q M N r r2 v is = within-there most p.guest q M N r r2 v is
  within-if false most p q M N r r2 v is = subst IsWithinAt (sym v.slot_after) is

  pub stay-within : StayWithin received sent has_none is_full is_ended is_broken answers over
  stay-within most [] [] M N r r2 v is = tt
  stay-within most (p ∷ ps) (q ∷ qs) M N r r2 v is =
      (within-if (p.is_ready && not (over M)) most p q M v.0 r v.1 v.2 is.0, stay-within most ps qs v.0 N v.1 r2 v.3 is.1)
  stay-within most [] (q ∷ qs) M N r r2 v is = absurd v
  stay-within most (p ∷ ps) [] M N r r2 v is = absurd v

pub first-within : {S : Type 0} (now : ℕ) (socket : S) → IsWithinAt (new_at now socket)
first-within now socket = omega arith
