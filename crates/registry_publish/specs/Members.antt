-- Members of a JSON value. Only an object has some.
use Rattle.std.specs.Prelude.{ℕ, ◌==◌, Bool, false, unwrap_or, List, Option, Some, None, option_map, option_and_then}
use Rattle.std.specs.Str.{bytes_eq}
use Rattle.serde_json.specs.Data.{Data, Members, no_members, member}
use Rattle.serde_json.specs.Find.{get, as_number, as_object, as_str, as_u64}

-- the value is the text t
abbrev pub is_text : List ℕ → Data → Bool
is_text t d = unwrap_or (option_map (λ s. bytes_eq s t) (as_str d)) false

-- the value is the whole number n
abbrev pub is_number : ℕ → Data → Bool
is_number n d = unwrap_or (option_map (λ m. m == n) (option_and_then as_u64 (as_number d))) false

-- the member k, where it is a text
abbrev pub text_at : List ℕ → Data → Option (List ℕ)
text_at k d = option_and_then as_str (get k d)

-- the member k is the text t
abbrev pub has_text : List ℕ → List ℕ → Data → Bool
has_text k t d = unwrap_or (option_map (λ s. bytes_eq s t) (text_at k d)) false

-- the name and the value of the one member
abbrev pub sole_member : Members → Option (List ℕ × Data)
sole_member no_members = None
sole_member (member k d no_members) = Some (k, d)
sole_member (member k d (member l e ms)) = None

-- the name and the value of an object's one member
abbrev pub sole : Data → Option (List ℕ × Data)
sole d = option_and_then sole_member (as_object d)

-- the name and the value of the one member of the member k
abbrev pub sole_at : List ℕ → Data → Option (List ℕ × Data)
sole_at k d = option_and_then sole (get k d)
