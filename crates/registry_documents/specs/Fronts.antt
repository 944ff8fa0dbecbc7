-- A packument as npm reads it: before its members its revision and its maintainers.
use Rattle.std.specs.Prelude.{◌≡◌, ◌==◌, ℕ, Bool, true, false, List, [], ◌∷◌, ◌++◌, drop, codes, if◌then◌else◌}
use Rattle.serde_json.specs.Data.{Data, string, array, object, Items, no_items, item, Members, no_members, member}
use Rattle.json.specs.Print.{quoted}
use Rattle.serde_json.specs.Written.{comma_if, compact_text}
use Rattle.registry_names.specs.Texts.{Text}
use Rattle.registry_documents.specs.Revisions.{revision}

-- a maintainer, whose address the registry doesn't hold
abbrev pub person : Text → Data
person name = object (member (codes "email") (string []) (member (codes "name") (string name) no_members))

abbrev pub people : List Text → Items
people [] = no_items
people (n ∷ ns) = item (person n) (people ns)

-- the maintainers in front of other members, where there are some
abbrev pub with_maintainers : List Text → Members → Members
with_maintainers [] ms = ms
with_maintainers (n ∷ ns) ms = member (codes "maintainers") (array (people (n ∷ ns))) ms

-- the members of a packument as npm reads it: first its revision, then its maintainers
abbrev pub shown : Text → List Text → Members → Members
shown rev names ms = member (codes "_rev") (string rev) (with_maintainers names ms)

-- ---- the same as a text

-- a member, with a comma where another came earlier
abbrev pub member_text : Bool → Text → Data → List ℕ
member_text later k d = comma_if later ++ (quoted k ++ 58 ∷ compact_text d)

-- a comma, and the maintainers where there are some
abbrev pub maintainers_text : List Text → List ℕ
maintainers_text [] = []
maintainers_text (n ∷ ns) = member_text true (codes "maintainers") (array (people (n ∷ ns)))

-- the opening brace, both members, and a comma
abbrev pub front_text : Text → List Text → List ℕ
front_text rev names = 123 ∷ (member_text false (codes "_rev") (string rev) ++ (maintainers_text names ++ 44 ∷ []))

-- what follows the brace at the front
abbrev pub behind_brace : Text → Text
behind_brace [] = []
behind_brace (b ∷ bs) = if b == 123 then bs else b ∷ bs

-- the packument as npm reads it: before its first member its revision and the maintainers
unfoldable pub shown_text : Text → List Text → Text
shown_text text names = front_text (revision text names) names ++ behind_brace text

-- The front, and a packument's text without its first byte, are the compact JSON of the packument
-- with both members in front of its own.
abbrev pub FrontsAreJson : Type 0
FrontsAreJson = (rev : Text) (names : List Text) (k : Text) (d : Data) (ms : Members)
    → front_text rev names ++ drop 1 (compact_text (object (member k d ms))) ≡ compact_text (object (shown rev names (member k d ms)))
