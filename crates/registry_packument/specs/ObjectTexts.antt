-- The compact text of an object, of the texts of its members.
use Rattle.std.specs.Prelude.{ℕ, Bool, true, false, List, [], ◌∷◌, ◌++◌}
use Rattle.json.specs.Print.{quoted}
use Rattle.serde_json.specs.Written.{comma_if}

-- a member's key, and the text of its value
abbrev pub Pair : Type 0
Pair = List ℕ × List ℕ

-- a member, with a comma where another came earlier
abbrev pub member_text : Bool → Pair → List ℕ
member_text later p = comma_if later ++ (quoted p.0 ++ 58 ∷ p.1)

-- the members that are left, and the closing brace
abbrev pub members_text : Bool → List Pair → List ℕ
members_text later [] = 125 ∷ []
members_text later (p ∷ ps) = member_text later p ++ members_text true ps

abbrev pub object_text : List Pair → List ℕ
object_text ps = 123 ∷ members_text false ps
