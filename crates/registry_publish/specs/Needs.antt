-- What a manifest depends on.
use Rattle.std.specs.Prelude.{◌≡◌, ℕ, List, [], ◌∷◌, ◌++◌, codes, Option, Some, None, option_map, option_and_then, unwrap_or, is_some, if◌then◌else◌}
use Rattle.serde_json.specs.Data.{Data, Members, no_members, member}
use Rattle.serde_json.specs.Find.{get, as_object, as_str}
use Rattle.serde_json.specs.Read.{read}
use Rattle.registry_publish.specs.declared.need.Need.{Need}

abbrev pub need : List ℕ → List ℕ → Need
need target range = record { target = target; range = range }

-- one need more in front, where its range is a text
abbrev pub with_need : List ℕ → Option (List ℕ) → Option (List Need) → Option (List Need)
with_need target range needs = option_and_then (λ text. option_map (λ ns. need target text ∷ ns) needs) range

-- a need for each member, where all their values are texts
abbrev pub needs_of_members : Members → Option (List Need)
needs_of_members no_members = Some []
needs_of_members (member k d ms) = with_need k (as_str d) (needs_of_members ms)

-- the needs in the member k, if it is there; None where it isn't an object of texts
abbrev pub needs_at : List ℕ → Data → Option (List Need)
needs_at k m = unwrap_or (option_map (λ d. option_and_then needs_of_members (as_object d)) (get k m)) (Some [])

abbrev pub joined : Option (List Need) → Option (List Need) → Option (List Need)
joined a b = option_and_then (λ ns. option_map (λ ms. ns ++ ms) b) a

abbrev pub needs_of_three : Data → Option (List Need)
needs_of_three m = joined (needs_at (codes "dependencies") m) (joined (needs_at (codes "optionalDependencies") m) (needs_at (codes "peerDependencies") m))

-- the needs of a manifest, which is an object, in the three members that name some
unfoldable pub needs_in : Data → Option (List Need)
needs_in m = if is_some (as_object m) then needs_of_three m else None

-- the needs of the manifest that the text spells; None where it spells none, or one out of form
unfoldable pub needs_of : List ℕ → Option (List Need)
needs_of text = option_and_then needs_in (read text)

-- the needs were added at the end, for private clauses
abbrev pub AddsNeeds : Option (List Need) → List Need → List Need → Type 0
AddsNeeds needs old new = (ns : List Need) × (needs ≡ Some ns) × (new ≡ old ++ ns)
