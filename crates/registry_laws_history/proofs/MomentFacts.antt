-- The first and the last of a package's moments.
use Rattle.std.proofs.Common.{◌≡◌, ◌≤◌, ◌⊎◌, inl, inr, ◌∙◌, ◌++◌, ℕ, Bool, true, false, cond, List, [], ◌∷◌, map, Option, Some, None, All, nat_lt, arith, refl, sym, ap}
use Rattle.std.specs.Prelude.{MatchOption, min, max, unwrap_or}
use Rattle.std.proofs.lemmas.Bool.{ltb-false, ltb-true}
use Rattle.std.proofs.lemmas.List.Elements.{All-head, All-tail}
use Rattle.std.proofs.lemmas.Option.{none-some}
use Rattle.registry_names.specs.Maps.{PairMap, at, first_at, of}
use Rattle.registry_names.specs.Texts.{Text, is}
use Rattle.registry_names.proofs.KeyFacts.{text_key}
use Rattle.registry_names.proofs.PartFacts.{at-part, part_found}
use Rattle.registry_packument.specs.Moments.{earlier, first_of, last_of, later}
use Rattle.registry_rules.specs.Moments.{live_publications, publications, spent_publications}
use Rattle.registry_rules.specs.State.{State, Release, Withdrawal}
use Rattle.registry_rules.specs.Withdrawals as withdrawals
use Rattle.registry_laws_history.specs.Answers.{created_at, modified_at}
use Rattle.registry_laws_history.specs.PackumentMoments.{CreatedAtFirst, IsPublicationMoment, IsWithdrawalMoment, ModifiedAtLast}

-- ---- moments in a list

-- one of them
abbrev IsAmong : List ℕ → ℕ → Type 0
IsAmong [] n = ⊥
IsAmong (m ∷ ms) n = (n ≡ m) ⊎ IsAmong ms n

-- the first of them, if there is one
abbrev IsFirst : List ℕ → Option ℕ → Type 0
IsFirst ns o = MatchOption o ((n : ℕ) → ¬ IsAmong ns n) (λ first. IsAmong ns first × ((n : ℕ) → IsAmong ns n → first ≤ n))

-- the last of them, if there is one
abbrev IsLast : List ℕ → Option ℕ → Type 0
IsLast ns o = MatchOption o ((n : ℕ) → ¬ IsAmong ns n) (λ last. IsAmong ns last × ((n : ℕ) → IsAmong ns n → n ≤ last))

first_more : (m : ℕ) (ms : List ℕ) (o : Option ℕ) → IsFirst ms o → IsFirst (m ∷ ms) (earlier (Some m) o)
first_more m ms None none = (inl refl, λ n h. first_alone n h)
  where
    first_alone : (n : ℕ) → (n ≡ m) ⊎ IsAmong ms n → m ≤ n
    first_alone n (inl e) = omega (arith, e)
    first_alone n (inr h) = absurd (none n h)
first_more m ms (Some k) (there, least) = first_of_two (nat_lt m k) refl
  where
    below : (n : ℕ) → (n ≡ m) ⊎ IsAmong ms n → min m k ≤ n
    below n (inl e) = omega (arith, e)
    below n (inr h) = omega (arith, least n h)

    first_of_two : (b : Bool) → nat_lt m k ≡ b → IsFirst (m ∷ ms) (Some (min m k))
    first_of_two true e = (inl (omega (arith, ltb-true m k e)), below)
    first_of_two false e = let same : min m k ≡ k = omega (arith, ltb-false m k e) in (inr (rw same there), below)

first_is : (ns : List ℕ) → IsFirst ns (first_of ns)
first_is [] = λ n h. h
first_is (m ∷ ms) = first_more m ms (first_of ms) (first_is ms)

last_more : (m : ℕ) (ms : List ℕ) (o : Option ℕ) → IsLast ms o → IsLast (m ∷ ms) (later (Some m) o)
last_more m ms None none = (inl refl, λ n h. last_alone n h)
  where
    last_alone : (n : ℕ) → (n ≡ m) ⊎ IsAmong ms n → n ≤ m
    last_alone n (inl e) = omega (arith, e)
    last_alone n (inr h) = absurd (none n h)
last_more m ms (Some k) (there, greatest) = last_of_two (nat_lt m k) refl
  where
    above : (n : ℕ) → (n ≡ m) ⊎ IsAmong ms n → n ≤ max m k
    above n (inl e) = omega (arith, e)
    above n (inr h) = omega (arith, greatest n h)

    last_of_two : (b : Bool) → nat_lt m k ≡ b → IsLast (m ∷ ms) (Some (max m k))
    last_of_two true e = let same : max m k ≡ k = omega (arith, ltb-true m k e) in (inr (rw same there), above)
    last_of_two false e = (inl (omega (arith, ltb-false m k e)), above)

last_is : (ns : List ℕ) → IsLast ns (last_of ns)
last_is [] = λ n h. h
last_is (m ∷ ms) = last_more m ms (last_of ms) (last_is ms)

-- in two lists
in_first : (ns ms : List ℕ) (n : ℕ) → IsAmong ns n → IsAmong (ns ++ ms) n
in_first [] ms n h = absurd h
in_first (k ∷ ns) ms n (inl e) = inl e
in_first (k ∷ ns) ms n (inr h) = inr (in_first ns ms n h)

in_second : (ns ms : List ℕ) (n : ℕ) → IsAmong ms n → IsAmong (ns ++ ms) n
in_second [] ms n h = h
in_second (k ∷ ns) ms n h = inr (in_second ns ms n h)

in_either : (ns ms : List ℕ) (n : ℕ) → IsAmong (ns ++ ms) n → IsAmong ns n ⊎ IsAmong ms n
in_either [] ms n h = inr h
in_either (k ∷ ns) ms n (inl e) = inl (inl e)
in_either (k ∷ ns) ms n (inr h) = again (in_either ns ms n h)
  where
    again : IsAmong ns n ⊎ IsAmong ms n → IsAmong (k ∷ ns) n ⊎ IsAmong ms n
    again (inl h) = inl (inr h)
    again (inr h) = inr h

-- ---- moments of a part of a map

module _ {X : Type 0} (moment : X → ℕ) where
  -- the map has a value with this moment under the package
  abbrev Has : PairMap X → Text → ℕ → Type 0
  Has m p n = (v : Text) × ((x : X) × ((at m (p, v) ≡ Some x) × (n ≡ moment x)))

  abbrev moments : List (Text × X) → List ℕ
  moments es = map (λ (e : Text × X). moment e.1) es

  one_at : (b : Bool) (k : Text) (x : X) (e : Text × X) (es : List (Text × X)) → cond b (Some e.1) (first_at is es k) ≡ Some x
      → (first_at is es k ≡ Some x → IsAmong (moments es) (moment x)) → IsAmong (moments (e ∷ es)) (moment x)
  one_at true k x e es h rest = inl (ap (λ (o : Option X). moment (unwrap_or o x)) (sym h))
  one_at false k x e es h rest = inr (rest h)

  is_listed : (es : List (Text × X)) (k : Text) (x : X) → first_at is es k ≡ Some x → IsAmong (moments es) (moment x)
  is_listed [] k x h = absurd (none-some x h)
  is_listed (e ∷ es) k x h = one_at (is e.0 k) k x e es h (is_listed es k x)

  pub among-has : (m : PairMap X) (p : Text) (n : ℕ) → Has m p n → IsAmong (moments (of m p)) n
  among-has m p n (v, (x, (there, e))) = rw e (is_listed (of m p) v x (at-part text_key m p v ∙ there))

  listed_is : (m : PairMap X) (p : Text) (es : List (Text × X)) (n : ℕ) → All (λ (e : Text × X). at m (p, e.0) ≡ Some e.1) es → IsAmong (moments es) n → Has m p n
  listed_is m p [] n all h = absurd h
  listed_is m p (e ∷ es) n all (inl here) = (e.0, (e.1, (All-head (λ (e : Text × X). at m (p, e.0) ≡ Some e.1) e es all, here)))
  listed_is m p (e ∷ es) n all (inr there) = listed_is m p es n (All-tail (λ (e : Text × X). at m (p, e.0) ≡ Some e.1) e es all) there

  pub has-among : (m : PairMap X) (p : Text) (n : ℕ) → IsAmong (moments (of m p)) n → Has m p n
  has-among m p n h = listed_is m p (of m p) n (part_found text_key m p) h

-- ---- a package

to_publication : (S : State) (p : Text) (n : ℕ) → IsAmong (publications (of S.live p) (of S.spent p)) n → IsPublicationMoment S p n
to_publication S p n h = either (in_either (live_publications (of S.live p)) (spent_publications (of S.spent p)) n h)
  where
    either : IsAmong (live_publications (of S.live p)) n ⊎ IsAmong (spent_publications (of S.spent p)) n → IsPublicationMoment S p n
    either (inl live) = inl (has-among (λ (r : Release). r.at) S.live p n live)
    either (inr spent) = inr (has-among (λ (w : Withdrawal). w.published) S.spent p n spent)

of_publication : (S : State) (p : Text) (n : ℕ) → IsPublicationMoment S p n → IsAmong (publications (of S.live p) (of S.spent p)) n
of_publication S p n (inl live) = in_first (live_publications (of S.live p)) (spent_publications (of S.spent p)) n (among-has (λ (r : Release). r.at) S.live p n live)
of_publication S p n (inr spent) = in_second (live_publications (of S.live p)) (spent_publications (of S.spent p)) n (among-has (λ (w : Withdrawal). w.published) S.spent p n spent)

pub created_at_first : CreatedAtFirst
created_at_first S p = each (created_at (of S.live p) (of S.spent p)) (first_is (publications (of S.live p) (of S.spent p)))
  where
    each : (o : Option ℕ) → IsFirst (publications (of S.live p) (of S.spent p)) o
        → MatchOption o ((n : ℕ) → ¬ IsPublicationMoment S p n) (λ created. IsPublicationMoment S p created × ((n : ℕ) → IsPublicationMoment S p n → created ≤ n))
    each None none = λ n h. none n (of_publication S p n h)
    each (Some k) (there, least) = (to_publication S p k there, λ n h. least n (of_publication S p n h))

-- the last withdrawal, as the last of their moments
abbrev ended_at : List (Text × Withdrawal) → List ℕ
ended_at spent = map (λ (e : Text × Withdrawal). e.1.withdrawn) spent

max_zero : (n : ℕ) → max n 0 ≡ n
max_zero n = omega arith

ended_more : (e : Text × Withdrawal) (es : List (Text × Withdrawal)) (o : Option ℕ) → IsLast (ended_at es) o → IsLast (ended_at (e ∷ es)) (Some (max e.1.withdrawn (unwrap_or o 0)))
ended_more e es None none = rw (max_zero e.1.withdrawn) (last_more e.1.withdrawn (ended_at es) None none)
ended_more e es (Some k) last = last_more e.1.withdrawn (ended_at es) (Some k) last

last_ended : (spent : List (Text × Withdrawal)) → IsLast (ended_at spent) (withdrawals.last_of spent)
last_ended [] = λ n h. h
last_ended (e ∷ es) = ended_more e es (withdrawals.last_of es) (last_ended es)

-- the last of two lists is the later of the last of both
last_both : (ns ms : List ℕ) (a b : Option ℕ) → IsLast ns a → IsLast ms b → IsLast (ns ++ ms) (later a b)
last_both ns ms None b none last = both_second b last
  where
    only : (n : ℕ) → IsAmong ns n ⊎ IsAmong ms n → IsAmong ms n
    only n (inl h) = absurd (none n h)
    only n (inr h) = h

    both_second : (b : Option ℕ) → IsLast ms b → IsLast (ns ++ ms) b
    both_second None none = λ n h. none n (only n (in_either ns ms n h))
    both_second (Some k) (there, greatest) = (in_second ns ms k there, λ n h. greatest n (only n (in_either ns ms n h)))
last_both ns ms (Some k) None (there, greatest) none = (in_first ns ms k there, λ n h. at_most n (in_either ns ms n h))
  where
    at_most : (n : ℕ) → IsAmong ns n ⊎ IsAmong ms n → n ≤ k
    at_most n (inl h) = greatest n h
    at_most n (inr h) = absurd (none n h)
last_both ns ms (Some k) (Some l) (there, greatest) (other, most) = greater (nat_lt k l) refl
  where
    at_most : (n : ℕ) → IsAmong ns n ⊎ IsAmong ms n → n ≤ max k l
    at_most n (inl h) = omega (arith, greatest n h)
    at_most n (inr h) = omega (arith, most n h)

    greater : (b : Bool) → nat_lt k l ≡ b → IsLast (ns ++ ms) (Some (max k l))
    greater true e = let same : max k l ≡ l = omega (arith, ltb-true k l e) in (rw same (in_second ns ms l other), λ n h. at_most n (in_either ns ms n h))
    greater false e = let same : max k l ≡ k = omega (arith, ltb-false k l e) in (rw same (in_first ns ms k there), λ n h. at_most n (in_either ns ms n h))

module _ (S : State) (p : Text) where
  -- its publications, and its withdrawals
  abbrev published : List ℕ
  published = publications (of S.live p) (of S.spent p)

  abbrev ended : List ℕ
  ended = ended_at (of S.spent p)

  to_change : (n : ℕ) → IsAmong published n ⊎ IsAmong ended n → IsPublicationMoment S p n ⊎ IsWithdrawalMoment S p n
  to_change n (inl h) = inl (to_publication S p n h)
  to_change n (inr h) = inr (has-among (λ (w : Withdrawal). w.withdrawn) S.spent p n h)

  of_change : (n : ℕ) → IsPublicationMoment S p n ⊎ IsWithdrawalMoment S p n → IsAmong (published ++ ended) n
  of_change n (inl h) = in_first published ended n (of_publication S p n h)
  of_change n (inr h) = in_second published ended n (among-has (λ (w : Withdrawal). w.withdrawn) S.spent p n h)

  last_change : (o : Option ℕ) → IsLast (published ++ ended) o
      → MatchOption o ((n : ℕ) → ¬ (IsPublicationMoment S p n ⊎ IsWithdrawalMoment S p n))
      (λ modified. (IsPublicationMoment S p modified ⊎ IsWithdrawalMoment S p modified) × ((n : ℕ) → IsPublicationMoment S p n ⊎ IsWithdrawalMoment S p n → n ≤ modified))
  last_change None none = λ n h. none n (of_change n h)
  last_change (Some k) (there, greatest) = (to_change k (in_either published ended k there), λ n h. greatest n (of_change n h))

pub modified_at_last : ModifiedAtLast
modified_at_last S p =
    last_change S p (modified_at (of S.live p) (of S.spent p))
    (last_both (published S p) (ended S p) (last_of (published S p)) (withdrawals.last_of (of S.spent p)) (last_is (published S p)) (last_ended (of S.spent p)))
