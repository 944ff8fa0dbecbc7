-- Who stays when connections come in, and while a server is held.
use Rattle.std.proofs.Common.{◌≡◌, ◌<◌, ◌⊎◌, ◌∷◌, ◌∙◌, ◌&&◌, [], ℕ, zero, suc, Bool, true, false, List, Option, None, Some, get_or, is_none, length, map, not, refl, ap, subst, sym, inl, inr, arith, if◌then◌else◌}
use Rattle.std.specs.Prelude.{MatchOption, position, slice_get}
use Rattle.std.proofs.lemmas.Bool.{false≢true}
use Rattle.std.proofs.lemmas.List.Quantifiers.{position-Some}
use Rattle.std.proofs.lemmas.Option.{slice_get_read}
use Rattle.registry_service.specs.Turns.{Answering, Dialect, spoken}
use Rattle.registry_server.specs.Connections.{OpenConnection}
use Rattle.registry_server.specs.Phases.{idle_from, is_under_way}
use Rattle.registry_server.specs.Pools.{AreWoken, ChoosesIf, HoldsKeepCommands, IsBusyThere, IsFirstOfEarliest, IsPlaceFor, IsUnderWay, LetsIn, MayCommand, NewcomersLeaveBusy, ServesQueries, Stay, VisitsAll, VisitsIf, at_place, chosen, chosen_of, command_with, emptied, emptied_of, idle_at, idle_ends, idle_times, idle_with, is_crowd, is_free, is_held_back, is_looked, is_to_visit, may_choose, may_command_at, new_at, no_round, nobody_comes, one_comes, one_round, settled, woken}
use Rattle.registry_server.specs.Queries.{queries}
use Rattle.registry_server.specs.declared.phase.Stage.{Stage}
use Rattle.registry_server.specs.declared.phase.Stage.TheVariants.{Idle, Begun, Next, Sends, Drains}
use Rattle.registry_server.specs.declared.pool.Place.{Place}

-- ---- one after the other

none-some : {A B : Type 0} (x : A) → None ≡ Some x → B
none-some x is = absurd (cc)

command-begun : (s : Stage) (since : ℕ) (more : Bool) → (is_under_way s && more) ≡ true → idle_from s since ≡ None
command-begun Idle since more is = absurd (false≢true is)
command-begun Begun since more is = refl
command-begun Next since more is = refl
command-begun Sends since more is = refl
command-begun Drains since more is = refl

module _ {S : Type 0} where
  pub lets-then : (now : ℕ) (old between new : List (Place S)) → LetsIn now old between → LetsIn now between new → LetsIn now old new
  lets-then now old between _ first nobody_comes = first
  lets-then now old between _ first (is_looked places new next woken) = is_looked places new (lets-then now old between places first next) woken
  lets-then now old between _ first (one_comes places k socket next is) = one_comes places k socket (lets-then now old between places first next) is
  lets-then now old between _ first (idle_ends places new was next ends) = idle_ends places new was (lets-then now old between places first next) ends

  -- a newcomer takes the place that was found, or none
  pub newcomer-in : (now : ℕ) (old between new : List (Place S)) (k : ℕ) → LetsIn now old between → IsPlaceFor between (Some k)
      → (new ≡ between) ⊎ ((socket : S) × (new ≡ at_place (λ _. new_at now socket) between k)) → LetsIn now old new
  newcomer-in now old between new k first is (inl same) = subst (LetsIn now old) (sym same) first
  newcomer-in now old between new k first is (inr came) = subst (LetsIn now old) (sym came.1) (one_comes between k came.0 first is)

  pub looks-once : (now : ℕ) (old new : List (Place S)) → AreWoken old new → LetsIn now old new
  looks-once now old new woken = is_looked old new nobody_comes woken

  module _ (P : Place S → Type 0) where
    stay-same : (places : List (Place S)) → Stay P places places
    stay-same [] = tt
    stay-same (p ∷ places) = (λ holds. (refl, holds), stay-same places)

    stay-on : (p q r : Place S) → (P p → (q.connection ≡ p.connection) × P q) → (P q → (r.connection ≡ q.connection) × P r) → P p → (r.connection ≡ p.connection) × P r
    stay-on p q r first next holds = let here = first holds in let there = next here.1 in (there.0 ∙ here.0, there.1)

    stay-then : (old between new : List (Place S)) → Stay P old between → Stay P between new → Stay P old new
    stay-then [] [] [] first next = tt
    stay-then [] [] (r ∷ new) first next = absurd next
    stay-then [] (q ∷ between) new first next = absurd first
    stay-then (p ∷ old) [] new first next = absurd first
    stay-then (p ∷ old) (q ∷ between) [] first next = absurd next
    stay-then (p ∷ old) (q ∷ between) (r ∷ new) first next = (stay-on p q r first.0 next.0, stay-then old between new first.1 next.1)

    -- one place changes, where this didn't hold
    stay-beside : (change : Place S → Place S) (places : List (Place S)) (k : ℕ) → ((p : Place S) → k < length places → get_or places k p ≡ p → P p → ⊥) → Stay P places (at_place change places k)
    stay-beside change [] k none = tt
    stay-beside change (p ∷ places) zero none = (λ holds. absurd (none p (omega arith) refl holds), stay-same places)
    stay-beside change (p ∷ places) (suc k) none =
        (λ holds. (refl, holds), stay-beside change places k (λ q within is holds. none q (omega (arith, within)) is holds))

  -- ---- whoever is under way stays

  -- the first place of the earliest time has nobody under way
  not-earliest : (places : List (Place S)) (k : ℕ) (p : Place S) → IsFirstOfEarliest (idle_times places) (length places) (Some k) → slice_get places k ≡ Some p → IsUnderWay p → ⊥
  not-earliest places k p earliest there way = none-some earliest.0 (sym way ∙ (sym (ap idle_at there) ∙ earliest.2))

  not-placed : (places : List (Place S)) (k : ℕ) (p : Place S) (o : Option ℕ) → slice_get places k ≡ Some p → get_or places k p ≡ p → IsBusyThere p → position is_free places ≡ o
      → MatchOption o (IsFirstOfEarliest (idle_times places) (length places) (Some k)) (λ j. Some k ≡ Some j) → ⊥
  not-placed places k p None there at busy first earliest = not-earliest places k p earliest there busy.1
  not-placed places k p (Some j) there at busy first same =
      let one : j ≡ k = cc in
      let empty : is_free (get_or places j p) ≡ true = (position-Some is_free places j p first).1 in
      let here : get_or places j p ≡ p = ap (λ (n : ℕ). get_or places n p) one ∙ at in
      false≢true (sym busy.0 ∙ (ap is_free (sym here) ∙ empty))

  read-there : (places : List (Place S)) (k : ℕ) (p : Place S) → k < length places → get_or places k p ≡ p → slice_get places k ≡ Some p
  read-there places k p within is = slice_get_read places (length places) k p refl within (sym is)

  newcomer-stay : (now : ℕ) (socket : S) (places : List (Place S)) (k : ℕ) → IsPlaceFor places (Some k) → Stay IsBusyThere places (at_place (λ _. new_at now socket) places k)
  newcomer-stay now socket places k is =
      stay-beside IsBusyThere (λ _. new_at now socket) places k (λ p within at busy. not-placed places k p (position is_free places) (read-there places k p within at) at busy refl is)

  emptied-stay : (places : List (Place S)) (which : Option ℕ) → IsFirstOfEarliest (idle_times places) (length places) which → Stay IsBusyThere places (emptied_of places which)
  emptied-stay places None first = stay-same IsBusyThere places
  emptied-stay places (Some k) first =
      stay-beside IsBusyThere emptied places k (λ p within at busy. not-earliest places k p first (read-there places k p within at) busy.1)

  woken-one : (p q : Place S) → (q ≡ p) ⊎ (q ≡ woken p) → IsBusyThere p → (q.connection ≡ p.connection) × IsBusyThere q
  woken-one p q (inl is) busy = (ap (λ (x : Place S). x.connection) is, subst IsBusyThere (sym is) busy)
  woken-one p q (inr is) busy = (ap (λ (x : Place S). x.connection) is, subst IsBusyThere (sym is) (busy.0, refl))

  woken-stay : (old new : List (Place S)) → AreWoken old new → Stay IsBusyThere old new
  woken-stay [] [] w = tt
  woken-stay [] (q ∷ new) w = absurd w
  woken-stay (p ∷ old) [] w = absurd w
  woken-stay (p ∷ old) (q ∷ new) w = (woken-one p q w.0, woken-stay old new w.1)

  coming-stay : (now : ℕ) (old new : List (Place S)) → LetsIn now old new → Stay IsBusyThere old new
  coming-stay now old _ nobody_comes = stay-same IsBusyThere old
  coming-stay now old _ (is_looked between new next woken) = stay-then IsBusyThere old between new (coming-stay now old between next) (woken-stay between new woken)
  coming-stay now old _ (one_comes between k socket next is) =
      stay-then IsBusyThere old between (at_place (λ _. new_at now socket) between k) (coming-stay now old between next) (newcomer-stay now socket between k is)
  coming-stay now old _ (idle_ends between new was next ends) =
      stay-then IsBusyThere old between new (coming-stay now old between next)
      (subst (Stay IsBusyThere between) (sym ends.places) (emptied-stay between ends.which ends.first))

  -- ---- who may have a command is under way

  command-there : (o : Option (OpenConnection S)) → command_with o ≡ true → is_none o ≡ false
  command-there None is = absurd (false≢true is)
  command-there (Some c) is = refl

  command-with : (o : Option (OpenConnection S)) → command_with o ≡ true → idle_with o ≡ None
  command-with None is = refl
  command-with (Some c) is = command-begun c.phase.stage c.phase.since _ is

  command-idle : (ready : Bool) (o : Option (OpenConnection S)) → command_with o ≡ true → (if ready then None else idle_with o) ≡ None
  command-idle true o is = refl
  command-idle false o is = command-with o is

  command-busy : (p : Place S) → MayCommand p → IsBusyThere p
  command-busy p is = (command-there p.connection is, command-idle p.is_ready p.connection is)

  commands-stay : (old new : List (Place S)) → Stay IsBusyThere old new → Stay MayCommand old new
  commands-stay [] [] stay = tt
  commands-stay [] (q ∷ new) stay = absurd stay
  commands-stay (p ∷ old) [] stay = absurd stay
  commands-stay (p ∷ old) (q ∷ new) stay =
      (λ is. let there = (stay.0 (command-busy p is)).0 in (there, ap command_with there ∙ is), commands-stay old new stay.1)

  -- ---- a look at the bodies changes no connection

  settled-stay : (places : List (Place S)) → Stay MayCommand places (map settled places)
  settled-stay [] = tt
  settled-stay (p ∷ places) = (λ is. (refl, is), settled-stay places)

  chosen-at-stay : (places : List (Place S)) (k : ℕ) → Stay MayCommand places (at_place chosen places k)
  chosen-at-stay [] k = tt
  chosen-at-stay (p ∷ places) zero = (λ is. (refl, is), stay-same MayCommand places)
  chosen-at-stay (p ∷ places) (suc k) = (λ is. (refl, is), chosen-at-stay places k)

  chosen-stay : (places : List (Place S)) (next : Option ℕ) → Stay MayCommand places (chosen_of places next)
  chosen-stay places None = stay-same MayCommand places
  chosen-stay places (Some k) = chosen-at-stay places k

  looked-stay : (b : Bool) (old new : List (Place S)) → ChoosesIf b (map settled old) new → Stay MayCommand old new
  looked-stay true old new chooses =
      stay-then MayCommand old (map settled old) new (settled-stay old) (subst (Stay MayCommand (map settled old)) (sym chooses.places) (chosen-stay (map settled old) chooses.next))
  looked-stay false old new same = subst (Stay MayCommand old) (sym same) (settled-stay old)

-- ---- a round while commands wait

module _ {S : Type 0} (received sent : S → Option (List ℕ)) (has_none is_full has_more is_ended is_broken : S → Bool) (speaks : Dialect) {D : Type 0} (answers : Answering D) (over : D → Bool) where
  unvisited : (ready may more : Bool) → may ≡ true → ((ready && not (true && may)) && more) ≡ false
  unvisited true true more is = refl
  unvisited false true more is = refl
  unvisited true false more is = absurd (false≢true is)
  unvisited false false more is = refl

  waiting-stays : (b held : Bool) (now most : ℕ) (p q : Place S) (M N : D) (r r2 : Option (List ℕ)) → b ≡ false → MayCommand p
      → VisitsIf received sent has_none is_full has_more is_ended is_broken (spoken speaks (queries answers)) b held now most p q M N r r2 → (q.connection ≡ p.connection) × MayCommand q
  waiting-stays true held now most p q M N r r2 not is v = absurd (false≢true (sym not))
  waiting-stays false held now most p q M N r r2 not is v = (ap (λ (x : Place S). x.connection) v.place, subst MayCommand (sym v.place) is)

  visits-stay : (crowd : Bool) (now most : ℕ) (ps qs : List (Place S)) (M K L N : D) (r r1 s s2 : Option (List ℕ))
      → VisitsAll received sent has_none is_full has_more is_ended is_broken (spoken speaks (queries answers)) over true crowd now most ps qs M K L N r r1 s s2 → Stay MayCommand ps qs
  visits-stay crowd now most [] [] M K L N r r1 s s2 v = tt
  visits-stay crowd now most [] (q ∷ qs) M K L N r r1 s s2 v = absurd v
  visits-stay crowd now most (p ∷ ps) [] M K L N r r1 s s2 v = absurd v
  visits-stay crowd now most (p ∷ ps) (q ∷ qs) M K L N r r1 s s2 (inl v) = (
    λ is. waiting-stays (is_to_visit true p && not (over M)) (is_held_back crowd p) now most p q M v.0 r v.1 (unvisited p.is_ready (may_command_at p) (not (over M)) is) is v.2,
    visits-stay crowd now most ps qs v.0 K L N v.1 r1 s s2 v.3,
  )
  visits-stay crowd now most (p ∷ ps) (q ∷ qs) M K L N r r1 s s2 (inr v) = absurd (false≢true (sym v.0.0))

  serve-stays : (now most : ℕ) (old new : List (Place S)) (M N : D) (r r2 : Option (List ℕ))
      → ServesQueries received sent has_none is_full has_more is_ended is_broken speaks answers over now most old new M N r r2 → Stay MayCommand old new
  serve-stays now most old new M N r r2 x =
      stay-then MayCommand old x.visited new
      (stay-then MayCommand old x.round.looked x.visited (looked-stay (may_choose old) old x.round.looked x.round.looks)
      (visits-stay (is_crowd old) now most x.round.looked x.visited M x.round.between x.round.between x.between r x.round.readings1 x.round.readings1 r2 x.round.visits))
      (commands-stay x.visited new (coming-stay now x.visited new x.comes))

  pub holds-keep-commands : HoldsKeepCommands received sent has_none is_full has_more is_ended is_broken speaks answers over
  holds-keep-commands old M _ _ no_round = stay-same MayCommand old
  holds-keep-commands old M _ _ (one_round between ready new K N now most r r2 held woken x) =
      stay-then MayCommand old between new (holds-keep-commands old M between K held)
      (stay-then MayCommand between ready new (commands-stay between ready (woken-stay between ready woken)) (serve-stays now most ready new K N r r2 x))

module _ (S : Type 0) where
  pub newcomers-leave-busy : NewcomersLeaveBusy S
  newcomers-leave-busy now old new lets = coming-stay now old new lets
