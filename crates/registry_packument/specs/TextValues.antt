-- Values of JSON that are made of texts.
use Rattle.std.specs.Prelude.{ℕ, Bool, nat_lt, not, ◌&&◌, ◌==◌, List, [], ◌∷◌}
use Rattle.serde_json.specs.Data.{Data, string, Items, no_items, item, Members, no_members, member}

-- the items of an array, each a text
abbrev pub text_items : List (List ℕ) → Items
text_items [] = no_items
text_items (t ∷ ts) = item (string t) (text_items ts)

-- the members of an object: of each row its key, and the text that is its value
abbrev pub text_members : {A : Type 0} → (A → List ℕ × List ℕ) → List A → Members
text_members pair [] = no_members
text_members pair (r ∷ rs) = member (pair r).0 (string (pair r).1) (text_members pair rs)

-- the members of an object: of each row its key, and its value
abbrev pub value_members : {A : Type 0} → (A → List ℕ × Data) → List A → Members
value_members pair [] = no_members
value_members pair (r ∷ rs) = member (pair r).0 (pair r).1 (value_members pair rs)

-- the byte stands for itself in a JSON string: it isn't a control character, a quote or a backslash
abbrev pub is_plain_char : ℕ → Bool
is_plain_char x = not (nat_lt x 32) && (not (x == 34) && not (x == 92))
