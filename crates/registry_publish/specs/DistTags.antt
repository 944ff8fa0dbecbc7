-- The tag that a publish body asks for.
use Rattle.std.specs.Prelude.{ℕ, unwrap_or, List, codes, Option, Some, None, option_map, option_and_then, if◌then◌else◌}
use Rattle.serde_json.specs.Data.{Data, Members, no_members, member}
use Rattle.serde_json.specs.Find.{get, as_object}
use Rattle.registry_publish.specs.Members.{is_text}

-- no tag where there is no member, or the one whose value is the version v; None for other members
abbrev pub tag_in : List ℕ → Members → Option (Option (List ℕ))
tag_in v no_members = Some None
tag_in v (member k d no_members) = if is_text v d then Some (Some k) else None
tag_in v (member k d (member l e ms)) = None

-- the tag, if any, that `dist-tags` gives the version v, if it is there; None where it isn't in
-- form
abbrev pub tag_at : List ℕ → Data → Option (Option (List ℕ))
tag_at v d = unwrap_or (option_map (λ tags. option_and_then (tag_in v) (as_object tags)) (get (codes "dist-tags") d)) (Some None)
