-- A float in a number, and in a list of values, or of members, from a place on.
use Rattle.std.proofs.Common.{◌≡◌, ℕ, ◌+◌, ◌<◌, true, false, List, ◌∷◌, length, get_or, drop, refl, rules}
use Rattle.std.proofs.lemmas.List.{drop_more}
use Rattle.serde_json.specs.Find.{is_float}
use Rattle.serde_json.specs.View.{view, number_view, items_view, members_view}
use Rattle.serde_json.specs.Written.{has_float, items_have_float, members_have_float}
use Rattle.serde_json.specs.declared.number.Number.{Number}
use Rattle.serde_json.specs.declared.value.Value.{Value, Number as NumberOf, the_lemmas}
use Rattle.serde_json.proofs.Views.{Entry}

pub float_number : (n : Number) → has_float (view (NumberOf n)) ≡ is_float (number_view n)
float_number n = search (rules, the_lemmas)

pub float_here : (vs : List Value) (i : ℕ) (d : Value) → i < length vs → has_float (view (get_or vs i d)) ≡ true
    → true ≡ items_have_float (items_view (drop i vs))
float_here vs i d lt h = rw (drop_more vs i d lt, h) refl

pub float_past : (vs : List Value) (i : ℕ) (d : Value) → i < length vs → has_float (view (get_or vs i d)) ≡ false
    → items_have_float (items_view (drop i vs)) ≡ items_have_float (items_view (drop (i + 1) vs))
float_past vs i d lt h = rw (drop_more vs i d lt, h) refl

pub member_here : (es rest : List Entry) (e : Entry) → es ≡ e ∷ rest → has_float (view e.1) ≡ true → true ≡ members_have_float (members_view es)
member_here es rest e split h = rw (split, h) refl

pub member_past : (es rest : List Entry) (e : Entry) → es ≡ e ∷ rest → has_float (view e.1) ≡ false
    → members_have_float (members_view es) ≡ members_have_float (members_view rest)
member_past es rest e split h = rw (split, h) refl
