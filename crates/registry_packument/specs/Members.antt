-- The members of versions, each in two parts, and the packument that is written of them.
use Rattle.std.specs.Prelude.{ℕ, List, [], ◌∷◌, ◌++◌, flat_map}
use Rattle.registry_packument.specs.declared.packument.VersionMember.{VersionMember}

-- a member's bytes: its key, and then its document
abbrev pub member_bytes : VersionMember → List ℕ
member_bytes m = m.key ++ m.document

-- the packument that begins so, then has these members, and ends with two braces
abbrev pub text_of_members : List ℕ → List VersionMember → List ℕ
text_of_members opening members = opening ++ (flat_map member_bytes members ++ 125 ∷ 125 ∷ [])
