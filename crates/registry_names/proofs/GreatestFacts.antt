-- The greatest of a list is what IsGreatest says, and depends on the list's members alone.
use Rattle.std.proofs.Common.{◌≡◌, Bool, true, false, cond, ◌||◌, List, [], ◌∷◌, ◌++◌, is_some, refl, sym, ◌∙◌, ap, subst, true≢false, Ordering, Less, Equal, Greater, is_gt, is_lt, Some, None}
use Rattle.std.specs.Ordering.{ordering_reverse}
use Rattle.std.specs.Cmp.{upto, tied_itself}
use Rattle.std.proofs.lemmas.Bool.{or_right}
use Rattle.registry_names.specs.Texts.{Text, is}
use Rattle.registry_names.specs.Maps.{PairMap, at, of, among, keys}
use Rattle.registry_names.specs.Precedence.{text_precedence}
use Rattle.registry_names.specs.Greatest.{IsGreatest, greater, greatest}
use Rattle.registry_names.proofs.TextFacts.{is_true, is_self}
use Rattle.registry_names.proofs.KeyFacts.{text_key}
use Rattle.registry_names.proofs.PartFacts.{any-part}
use Rattle.registry_names.proofs.PrecedenceFacts.{text_precedence_total, text_precedence_exact}

-- ---- answers of an order

not_gt_lt : (o : Ordering) → is_lt o ≡ true → is_gt o ≡ false
not_gt_lt Less e = refl
not_gt_lt Equal e = refl
not_gt_lt Greater e = absurd (true≢false (sym e))

not_lt_back : (o r : Ordering) → o ≡ ordering_reverse r → is_lt o ≡ false → is_gt r ≡ false
not_lt_back o Less h e = refl
not_lt_back o Equal h e = refl
not_lt_back o Greater h e = absurd (true≢false (sym (ap is_lt h) ∙ e))

tie_if : (o r : Ordering) → o ≡ ordering_reverse r → is_gt o ≡ false → is_gt r ≡ false → r ≡ Equal
tie_if o Less h e f = absurd (true≢false (sym (ap is_gt h) ∙ e))
tie_if o Equal h e f = refl
tie_if o Greater h e f = absurd (true≢false f)

not_above_self : (v : Text) → is_gt (text_precedence v v) ≡ false
not_above_self v = ap is_gt (tied_itself text_precedence_total v)

-- ---- members of a list

split : {G : Type 0} (b c : Bool) → (b || c) ≡ true → (b ≡ true → G) → (c ≡ true → G) → G
split true c e f g = f refl
split false c e f g = g e

pub head_among : (v : Text) (vs : List Text) → among is (v ∷ vs) v ≡ true
head_among v vs = ap (λ b. b || among is vs v) (is_self v)

pub among-push : (xs : List Text) (x v : Text) → among is (xs ++ x ∷ []) v ≡ among is (x ∷ xs) v
among-push [] x v = refl
among-push (y ∷ ys) x v = ap (λ b. is y v || b) (among-push ys x v) ∙ swap_or (is y v) (is x v) _
  where
    swap_or : (a b c : Bool) → (a || (b || c)) ≡ (b || (a || c))
    swap_or true true c = refl
    swap_or true false c = refl
    swap_or false b c = refl

-- ---- the greatest is the one that IsGreatest says

greatest_one : (v : Text) → IsGreatest v (v ∷ [])
greatest_one v = record {
  member = head_among v [];
  above = λ u h. split (is v u) false h (λ s. ap (λ x. is_gt (text_precedence x v)) (sym (is_true v u s)) ∙ not_above_self v) (λ f. absurd (true≢false (sym f)));
}

greatest_more : (v m : Text) (vs : List Text) (b : Bool) → is_lt (text_precedence v m) ≡ b → IsGreatest m vs → IsGreatest (cond b m v) (v ∷ vs)
greatest_more v m vs true e g = record {
  member = or_right (is v m) _ g.member;
  above = λ u h. split (is v u) _ h (λ s. ap (λ x. is_gt (text_precedence x m)) (sym (is_true v u s)) ∙ not_gt_lt _ e) (g.above u);
}
greatest_more v m vs false e g = record {
  member = head_among v vs;
  above = λ u h. split (is v u) _ h (λ s. ap (λ x. is_gt (text_precedence x v)) (sym (is_true v u s)) ∙ not_above_self v)
      (λ f. upto text_precedence_total u m v (g.above u f) (not_lt_back _ _ (text_precedence_total.antisymm v m) e));
}

greatest_of : (v : Text) (vs : List Text) → (m : Text) × (greatest (v ∷ vs) ≡ Some m) × IsGreatest m (v ∷ vs)
unfolding greatest
greatest_of v [] = (v, refl, greatest_one v)
greatest_of v (w ∷ vs) =
    let k = greatest_of w vs in
    (cond (is_lt (text_precedence v k.0)) k.0 v, ap (λ x. Some (greater v x)) k.1, greatest_more v k.0 (w ∷ vs) _ refl k.2)

-- two lists with the same members have one greatest at most
unique : (m n : Text) (xs ys : List Text) → ((v : Text) → among is xs v ≡ among is ys v) → IsGreatest m xs → IsGreatest n ys → m ≡ n
unique m n xs ys h g k = sym (text_precedence_exact n m (tie_if _ _ (text_precedence_total.antisymm m n) (k.above m (sym (h m) ∙ g.member)) (g.above n (h n ∙ k.member))))

pub greatest_is : (vs : List Text) (m : Text) → greatest vs ≡ Some m → IsGreatest m vs
unfolding greatest
greatest_is [] m e = absurd cc
greatest_is (v ∷ vs) m e =
    let k = greatest_of v vs in
    let same : k.0 ≡ m = cc (k.1, e) in
    subst (λ (x : Text). IsGreatest x (v ∷ vs)) same k.2

pub is_greatest : (vs : List Text) (m : Text) → IsGreatest m vs → greatest vs ≡ Some m
is_greatest [] m g = absurd (true≢false (sym g.member))
is_greatest (v ∷ vs) m g = let k = greatest_of v vs in k.1 ∙ ap (λ (x : Text). Some x) (unique k.0 m (v ∷ vs) (v ∷ vs) (λ _. refl) k.2 g)

-- only the empty list has no greatest
pub greatest_none : (vs : List Text) → greatest vs ≡ None → vs ≡ []
greatest_none [] e = refl
greatest_none (v ∷ vs) e = let k = greatest_of v vs in absurd (true≢false (sym (ap is_some k.1) ∙ ap is_some e))

pub none_greatest : (vs : List Text) → vs ≡ [] → greatest vs ≡ None
unfolding greatest
none_greatest vs e = ap greatest e

-- a list with a member has a greatest
pub greatest_stands : (vs : List Text) (v : Text) → among is vs v ≡ true → is_some (greatest vs) ≡ true
greatest_stands [] v e = absurd (true≢false (sym e))
greatest_stands (w ∷ vs) v e = ap is_some (greatest_of w vs).1

-- lists with the same members have one greatest
pub same_greatest : (xs ys : List Text) → ((v : Text) → among is xs v ≡ among is ys v) → greatest xs ≡ greatest ys
same_greatest [] [] h = refl
same_greatest [] (y ∷ ys) h = absurd (true≢false (sym (head_among y ys) ∙ sym (h y)))
same_greatest (x ∷ xs) [] h = absurd (true≢false (sym (head_among x xs) ∙ h x))
same_greatest (x ∷ xs) (y ∷ ys) h =
    let k = greatest_of y ys in
    let g = greatest_of x xs in
    g.1 ∙ ap (λ (v : Text). Some v) (unique g.0 k.0 (x ∷ xs) (y ∷ ys) h g.2 k.2) ∙ sym k.1

-- a member more at the end
pub greatest_push : (xs : List Text) (x : Text) → greatest (xs ++ x ∷ []) ≡ Some (greater x (greatest xs))
unfolding greatest
greatest_push xs x = same_greatest (xs ++ x ∷ []) (x ∷ xs) (among-push xs x)

-- ---- the greatest of a map's part

module _ {X : Type 0} where
  -- the map has something at the greatest
  pub greatest_at : (m : PairMap X) (p v : Text) → greatest (keys (of m p)) ≡ Some v → is_some (at m (p, v)) ≡ true
  greatest_at m p v e = sym (any-part text_key m p v) ∙ (greatest_is (keys (of m p)) v e).member

  -- where the map has something, there is a greatest
  pub at_greatest : (m : PairMap X) (p v : Text) → is_some (at m (p, v)) ≡ true → is_some (greatest (keys (of m p))) ≡ true
  at_greatest m p v e = greatest_stands (keys (of m p)) v (any-part text_key m p v ∙ e)
