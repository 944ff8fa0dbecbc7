-- What a package's tags name once a version is withdrawn.
use Rattle.std.specs.Prelude.{⊤, Bool, false, ◌&&◌, ◌||◌, not, is_none, if◌then◌else◌, bytes_eq, Option, Some, None, option_map, unwrap_or}
use Rattle.std.specs.Ordering.{is_gt}
use Rattle.serde_json.specs.Data.{Data, Members, no_members, member}
use Rattle.serde_json.specs.Find.{get, as_str}
use Rattle.registry_names.specs.Precedence.{text_precedence}
use Rattle.registry_names.specs.Tags.{latest}
use Rattle.registry_names.specs.Texts.{Text}
use Rattle.registry_names.specs.Versions.{IsVersion}
use Rattle.registry_names.specs.declared.stop.Fault.{Fault}
use Rattle.registry_names.specs.declared.stop.Fault.TheVariants.{Memory, Database}
use Rattle.registry_documents.specs.Values.{all_members, same}

-- the version u is v, or not above m
abbrev pub is_below : Text → Text → Text → Bool
is_below v m u = bytes_eq u v || not (is_gt (text_precedence u m))

-- none of the versions but v is above m
abbrev pub is_top : Text → Text → Members → Bool
is_top v m vs = all_members (λ u d. is_below v m u) vs

-- m is one of the versions
abbrev pub is_version_of : Members → Text → Bool
is_version_of no_members m = false
is_version_of (member u d ms) m = bytes_eq u m || is_version_of ms m

-- m is the greatest of the versions but v
abbrev pub is_greatest_but : Text → Members → Text → Bool
is_greatest_but v vs m = not (bytes_eq m v) && is_version_of vs m && is_top v m vs

-- no version but v is there
abbrev pub is_sole : Text → Members → Bool
is_sole v vs = all_members (λ u d. bytes_eq u v) vs

-- `latest` names the greatest of the versions but v, and nothing where there is no other
abbrev pub is_moved : Text → Members → Option Data → Bool
is_moved v vs None = is_sole v vs
is_moved v vs (Some d) = unwrap_or (option_map (is_greatest_but v vs) (as_str d)) false

-- the tag names the version v
abbrev pub names : Text → Data → Bool
names v d = unwrap_or (option_map (λ s. bytes_eq s v) (as_str d)) false

-- what a tag named, and what it is to name: a tag on the version v goes, but for `latest`, which
-- moves; each other one stays
abbrev pub is_left : Text → Members → Text → Data → Option Data → Bool
is_left v vs t d o = if names v d then (if bytes_eq t latest then is_moved v vs o else is_none o) else unwrap_or (option_map (same d) o) false

-- each of these tags is left so among others
abbrev pub are_left : Text → Members → Members → Data → Bool
are_left v vs ms tags = all_members (λ t d. is_left v vs t d (get t tags)) ms

-- each key is that of a version
abbrev pub AreVersions : Members → Type 0
AreVersions no_members = Unit {0}
AreVersions (member v d ms) = IsVersion v × AreVersions ms

-- no memory is left, or what is stored isn't in form
abbrev pub FaultsReading : Type 0 → Fault → Type 0
FaultsReading P Memory = ⊤
FaultsReading P Database = ¬ P
