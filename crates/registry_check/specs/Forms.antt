-- Whether texts are in form. Each of these holds exactly where the relation of the same
-- name does: `IsName`, `IsVersion`, `IsRangeText` and `IsManifestText`.
use Rattle.std.specs.Prelude.{suc, Bool, true, false, ◌&&◌, nat_le, ◌∷◌, ◌++◌, length, drop, Option, Some, None, is_some, Result, Ok, Err}
use Rattle.semver.specs.Parse.{Parts, version_parts}
use Rattle.semver.specs.declared.error.Error.{Error}
use Rattle.serde_json.specs.Data.{Data}
use Rattle.serde_json.specs.Read.{read}
use Rattle.serde_json.specs.Written.{compact_text}
use Rattle.registry_names.specs.Idents.{is_ident}
use Rattle.registry_names.specs.Names.{is_plain_part, is_scoped_part, longest_name, scope_of}
use Rattle.registry_names.specs.Texts.{Text, is}
use Rattle.registry_names.specs.VersionReading.{in_profile}
use Rattle.registry_names.specs.Versions.{longest_version}
use Rattle.registry_publish.specs.Body.{is_manifest}
use Rattle.registry_publish.specs.Integrity.{has_integrity}
use Rattle.registry_ranges.specs.Texts.{ranges_in}

-- ---- texts

-- what follows the @, a scope and a slash
abbrev pub part_after : Text → Text → Text
part_after s t = drop (suc (suc (length s))) t

-- the text is a name of this scope, if any
abbrev pub is_name_in : Text → Option Text → Bool
is_name_in t None = is_plain_part t
is_name_in t (Some s) = is t (64 ∷ (s ++ 47 ∷ part_after s t)) && (is_ident s && is_scoped_part (part_after s t))

-- the text is the name of a package
abbrev pub is_name : Text → Bool
is_name t = nat_le (length t) longest_name && is_name_in t (scope_of t)

-- what was read is a version of the registry
abbrev pub is_version_read : Result Parts Error → Bool
is_version_read (Ok p) = in_profile p
is_version_read (Err e) = false

-- the text is a version
abbrev pub is_version : Text → Bool
is_version t = nat_le (length t) longest_version && is_version_read (version_parts t)

-- the text is a range of versions
abbrev pub is_range : Text → Bool
is_range t = is_some (ranges_in t)

-- the value is a manifest of this name and version, and the text is how it is written
abbrev pub is_manifest_read : Text → Text → Text → Option Data → Bool
is_manifest_read name version t None = false
is_manifest_read name version t (Some m) = is_manifest name version m && is t (compact_text m)

-- the text is that of a manifest of this name and version
abbrev pub is_manifest_text : Text → Text → Text → Bool
is_manifest_text name version t = is_manifest_read name version t (read t)

-- a value that isn't there states nothing
abbrev pub states_in : Text → Option Data → Bool
states_in integrity None = true
states_in integrity (Some m) = has_integrity integrity m

-- the manifest states this integrity of its archive, if it states any
abbrev pub states : Text → Text → Bool
states integrity manifest = states_in integrity (read manifest)
