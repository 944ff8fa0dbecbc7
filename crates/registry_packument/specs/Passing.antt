-- What is left of the tokens of a text after a value whose numbers `serde_json` holds.
use Rattle.std.specs.Prelude.{ℕ, Bool, true, ◌&&◌, List, [], ◌∷◌, length, is_some, if◌then◌else◌, Option, Some, None, option_and_then}
use Rattle.json.specs.Json.{Json, null, boolean, number, string, array, object, Items, no_items, item, Members, no_members, member, items, members, value}
use Rattle.json.specs.Token.{Token}
use Rattle.serde_json.specs.Read.{number_of}

-- each number is an integer of 64 bits, or not too large for a float
abbrev mutual
  pub is_held : Json → Bool
  is_held null = true
  is_held (boolean b) = true
  is_held (number s) = is_some (number_of s)
  is_held (string s) = true
  is_held (array js) = items_are_held js
  is_held (object ms) = members_are_held ms

  pub items_are_held : Items → Bool
  items_are_held no_items = true
  items_are_held (item j js) = is_held j && items_are_held js

  pub members_are_held : Members → Bool
  members_are_held no_members = true
  members_are_held (member k j ms) = is_held j && members_are_held ms

-- what is left after what was read, where it passes the test
abbrev pub behind : {A : Type 0} → (A → Bool) → Option (A × List Token) → Option (List Token)
behind test read = option_and_then (λ p. if test p.0 then Some p.1 else None) read

-- after a value that nests at most this deep
abbrev pub behind_value : ℕ → List Token → Option (List Token)
behind_value depth ts = behind is_held (value depth ts)

-- after the items of an array and its bracket
abbrev pub behind_items : ℕ → List Token → Option (List Token)
behind_items depth ts = behind items_are_held (items (value depth) (length ts) ts)

-- after the members of an object and its brace
abbrev pub behind_members : ℕ → List Token → Option (List Token)
behind_members depth ts = behind members_are_held (members (value depth) (length ts) ts)

-- no object begins here
abbrev pub IsNoObject : List Token → Type 0
IsNoObject [] = Unit {0}
IsNoObject (Token.begin_object ∷ ts) = ⊥
IsNoObject (Token.end_object ∷ ts) = Unit {0}
IsNoObject (Token.begin_array ∷ ts) = Unit {0}
IsNoObject (Token.end_array ∷ ts) = Unit {0}
IsNoObject (Token.key s ∷ ts) = Unit {0}
IsNoObject (Token.string s ∷ ts) = Unit {0}
IsNoObject (Token.number s ∷ ts) = Unit {0}
IsNoObject (Token.boolean b ∷ ts) = Unit {0}
IsNoObject (Token.null ∷ ts) = Unit {0}
IsNoObject (Token.bad ∷ ts) = Unit {0}
