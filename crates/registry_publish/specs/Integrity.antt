-- The integrity of bytes, in the form of Subresource Integrity.
use Rattle.std.specs.Prelude.{ℕ, Bool, true, unwrap_or, List, ◌++◌, codes, Option, option_map, option_and_then}
use Rattle.base64.specs.Engines.{standard}
use Rattle.base64.specs.GeneralPurpose.{encode_of}
use Rattle.serde_json.specs.Data.{Data}
use Rattle.serde_json.specs.Find.{get}
use Rattle.sha2.specs.Sha512.{sha512}
use Rattle.registry_publish.specs.Members.{is_text}

-- the hash's name, a hyphen, and the base64 of the hash
abbrev pub integrity_text : List ℕ → List ℕ
integrity_text b = codes "sha512-" ++ encode_of standard (sha512 b)

-- what a manifest says of the integrity of its archive
abbrev pub stated_integrity : Data → Option Data
stated_integrity m = option_and_then (get (codes "integrity")) (get (codes "dist") m)

-- the manifest says this integrity, if it says any
abbrev pub has_integrity : List ℕ → Data → Bool
has_integrity integrity m = unwrap_or (option_map (is_text integrity) (stated_integrity m)) true
