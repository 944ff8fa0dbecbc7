-- The members of an object as they are read, for private clauses.
use Rattle.std.specs.Prelude.{ℕ, List, [], ◌∷◌, map, slice_index, String, string_bytes}
use denote.Ref.{Bor}
use Rattle.std.specs.Int.{w128, from_be_bytes}
use Rattle.std.specs.declared.alloc.Global.{Global}
use Rattle.serde_json.specs.Data.{Members, no_members, put}
use Rattle.serde_json.specs.View.{view}
use Rattle.serde_json.specs.declared.value.Value.{Value}

-- the members that these keys and values make, each put in after the other
abbrev pub put_all : List (List ℕ × Value) → Members → Members
put_all [] ms = ms
put_all (p ∷ ps) ms = put_all ps (put p.0 (view p.1) ms)

abbrev pub members_of_all : List (List ℕ × Value) → Members
members_of_all ps = put_all ps no_members

-- the keys as texts
abbrev pub named : List (Bor (List ℕ) × Value) → List (List ℕ × Value)
named xs = map (λ x. (x.0.now, x.1)) xs

abbrev pub own_named : List (String Global × Value) → List (List ℕ × Value)
own_named xs = map (λ x. (string_bytes x.0, x.1)) xs

-- the first 16 bytes of the text as a number, with zeros behind a shorter one
unfoldable pub beginning : List ℕ → ℕ
beginning t = from_be_bytes w128 (slice_index t 0 ∷ slice_index t 1 ∷ slice_index t 2 ∷ slice_index t 3 ∷ slice_index t 4 ∷ slice_index t 5 ∷ slice_index t 6 ∷ slice_index t 7
    ∷ slice_index t 8 ∷ slice_index t 9 ∷ slice_index t 10 ∷ slice_index t 11 ∷ slice_index t 12 ∷ slice_index t 13 ∷ slice_index t 14 ∷ slice_index t 15 ∷ [])
