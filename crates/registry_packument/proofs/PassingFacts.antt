-- Items and members that are passed one after the other.
use Rattle.std.proofs.Common.{◌≡◌, ℕ, zero, suc, ◌-◌, ◌<◌, ◌≤◌, Bool, true, false, List, length, Option, Some, None, if◌then◌else◌, unwrap_or, refl, ap, ◌∙◌, arith}
use Rattle.std.proofs.lemmas.Option.{none-some}
use Rattle.json.specs.Json.{Json, Items, item, Members, member, Parse, parse_map, after_end_array, read_key, items, members}
use Rattle.json.specs.Token.{Token}
use Rattle.json.proofs.Grammar.{items_end, items_more, items_fail, members_end, members_more, members_fail, members_no_key}
use Rattle.registry_packument.specs.Passing.{is_held, items_are_held, members_are_held, behind}

kept_if : {A : Type 0} (b : Bool) (x y : A) → (if b then Some x else None) ≡ Some y → (b ≡ true) × (x ≡ y)
kept_if true x y e = (refl, ap (λ o. unwrap_or o x) e)
kept_if false x y e = absurd (none-some y e)

lost_if : {A : Type 0} (b : Bool) (x : A) → (if b then Some x else None) ≡ None → b ≡ false
lost_if true x e = absurd (cc)
lost_if false x e = refl

-- what was read, where something is left after it
passed : {A : Type 0} (test : A → Bool) (o : Option (A × List Token)) (r : List Token) → behind test o ≡ Some r → (a : A) × (o ≡ Some (a, r)) × (test a ≡ true)
passed test None r e = absurd (none-some r e)
passed test (Some (a, s)) r e = let both = kept_if (test a) s r e in (a, ap (λ t. Some (a, t)) both.1, both.0)

behind-item : (j : Json) (o : Option (Items × List Token)) → is_held j ≡ true → behind items_are_held (parse_map (item j) o) ≡ behind items_are_held o
behind-item j None h = refl
behind-item j (Some p) h = rw h refl

behind-member : (k : List ℕ) (j : Json) (o : Option (Members × List Token)) → is_held j ≡ true → behind members_are_held (parse_map (member k j) o) ≡ behind members_are_held o
behind-member k j None h = refl
behind-member k j (Some p) h = rw h refl

behind-no_item : (j : Json) (o : Option (Items × List Token)) → is_held j ≡ false → behind items_are_held (parse_map (item j) o) ≡ None
behind-no_item j None h = refl
behind-no_item j (Some p) h = rw h refl

behind-no_member : (k : List ℕ) (j : Json) (o : Option (Members × List Token)) → is_held j ≡ false → behind members_are_held (parse_map (member k j) o) ≡ None
behind-no_member k j None h = refl
behind-no_member k j (Some p) h = rw h refl

module _ (p : Parse Json) where
  pub behind-item_passed : (n : ℕ) (ts r : List Token) → 0 < n → after_end_array ts ≡ None → behind is_held (p ts) ≡ Some r
      → behind items_are_held (items p n ts) ≡ behind items_are_held (items p (n - 1) r)
  behind-item_passed n ts r some going e =
      let j = passed is_held (p ts) r e in
      ap (behind items_are_held) (items_more p n ts r j.0 some going j.1) ∙ behind-item j.0 (items p (n - 1) r) j.2

  pub behind-member_passed : (n : ℕ) (k : List ℕ) (ts s r : List Token) → 0 < n → read_key ts ≡ Some (Some k, s) → behind is_held (p s) ≡ Some r
      → behind members_are_held (members p n ts) ≡ behind members_are_held (members p (n - 1) r)
  behind-member_passed n k ts s r some key e =
      let j = passed is_held (p s) r e in
      ap (behind members_are_held) (members_more p n k ts s r j.0 some key j.1) ∙ behind-member k j.0 (members p (n - 1) r) j.2

  item_at : (n : ℕ) (ts : List Token) (o : Option (Json × List Token)) → after_end_array ts ≡ None → p ts ≡ o → behind is_held o ≡ None → behind items_are_held (items p n ts) ≡ None
  unfolding items
  item_at zero ts o going e h = refl
  item_at (suc n) ts None going e h = ap (behind items_are_held) (items_fail p (suc n) ts going e)
  item_at (suc n) ts (Some (j, r)) going e h =
      ap (behind items_are_held) (items_more p (suc n) ts r j (omega arith) going e) ∙ behind-no_item j (items p (suc n - 1) r) (lost_if (is_held j) r h)

  pub behind-item_failed : (n : ℕ) (ts : List Token) → after_end_array ts ≡ None → behind is_held (p ts) ≡ None → behind items_are_held (items p n ts) ≡ None
  behind-item_failed n ts going h = item_at n ts (p ts) going refl h

  member_at : (n : ℕ) (k : List ℕ) (ts s : List Token) (o : Option (Json × List Token)) → read_key ts ≡ Some (Some k, s) → p s ≡ o → behind is_held o ≡ None
      → behind members_are_held (members p n ts) ≡ None
  unfolding members
  member_at zero k ts s o key e h = refl
  member_at (suc n) k ts s None key e h = ap (behind members_are_held) (members_fail p (suc n) k ts s key e)
  member_at (suc n) k ts s (Some (j, r)) key e h =
      ap (behind members_are_held) (members_more p (suc n) k ts s r j (omega arith) key e) ∙ behind-no_member k j (members p (suc n - 1) r) (lost_if (is_held j) r h)

  pub behind-member_failed : (n : ℕ) (k : List ℕ) (ts s : List Token) → read_key ts ≡ Some (Some k, s) → behind is_held (p s) ≡ None → behind members_are_held (members p n ts) ≡ None
  behind-member_failed n k ts s key h = member_at n k ts s (p s) key refl h

  pub behind-key_failed : (n : ℕ) (ts : List Token) → read_key ts ≡ None → behind members_are_held (members p n ts) ≡ None
  behind-key_failed n ts e = ap (behind members_are_held) (members_no_key p n ts e)

  pub behind-items_end : (n : ℕ) (ts r : List Token) → length ts ≤ n → after_end_array ts ≡ Some r → behind items_are_held (items p n ts) ≡ Some r
  behind-items_end n ts r enough e = ap (behind items_are_held) (items_end p n ts r enough e)

  pub behind-members_end : (n : ℕ) (ts r : List Token) → length ts ≤ n → read_key ts ≡ Some (None, r) → behind members_are_held (members p n ts) ≡ Some r
  behind-members_end n ts r enough e = ap (behind members_are_held) (members_end p n ts r enough e)

-- what is left after an array or an object is what is left after what it holds
pub behind-array : (o : Option (Items × List Token)) → behind is_held (parse_map Json.array o) ≡ behind items_are_held o
behind-array None = refl
behind-array (Some p) = refl

pub behind-object : (o : Option (Members × List Token)) → behind is_held (parse_map Json.object o) ≡ behind members_are_held o
behind-object None = refl
behind-object (Some p) = refl
