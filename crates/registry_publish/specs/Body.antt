-- What a publish body says, member by member.
use Rattle.std.specs.Prelude.{◌≡◌, ℕ, Bool, true, ◌&&◌, not, is_some, List, codes, Option, Some, unwrap_or, IsUtf8}
use Rattle.serde_json.specs.Data.{Data}
use Rattle.serde_json.specs.Find.{get}
use Rattle.serde_json.specs.Read.{read}
use Rattle.serde_json.specs.Written.{has_float}
use Rattle.registry_names.specs.Tags.{latest}
use Rattle.registry_names.specs.declared.status.Status.{Status}
use Rattle.registry_publish.specs.Access.{access_at}
use Rattle.registry_publish.specs.Attachments.{IsAttached}
use Rattle.registry_publish.specs.DistTags.{tag_at}
use Rattle.registry_publish.specs.Members.{has_text, sole_at, text_at}
use Rattle.registry_publish.specs.Needs.{needs_in}
use Rattle.registry_publish.specs.declared.need.Need.{Need}

-- the value is a manifest of this name and version: it says them, isn't deprecated, and each
-- number in it, at any depth, is an integer of 64 bits
unfoldable pub is_manifest : List ℕ → List ℕ → Data → Bool
is_manifest name version m = has_text (codes "name") name m && has_text (codes "version") version m
    && not (is_some (get (codes "deprecated") m)) && not (has_float m)

-- what a body says
pub record BodyParts : Type 0 where
  pub name : List ℕ
  pub version : List ℕ
  pub manifest : Data
  pub needs : List Need
  pub tag : Option (List ℕ)
  pub access : Option Status
  pub archive : List ℕ

-- the tag that a body asks for, which is `latest` where it names none
abbrev pub tag_of : BodyParts → List ℕ
tag_of p = unwrap_or p.tag latest

-- the value is a body that says this
pub record IsBody (d : Data) (p : BodyParts) : Type 0 where
  pub name : text_at (codes "name") d ≡ Some p.name
  pub version : sole_at (codes "versions") d ≡ Some (p.version, p.manifest)
  pub manifest : is_manifest p.name p.version p.manifest ≡ true
  pub needs : needs_in p.manifest ≡ Some p.needs
  pub tag : tag_at p.version d ≡ Some p.tag
  pub access : access_at d ≡ Some p.access
  pub archive : IsAttached d p.archive

-- the bytes are JSON, and a body that says this
abbrev pub IsBodyOf : List ℕ → BodyParts → Type 0
IsBodyOf b p = (d : Data) × IsUtf8 b × (read b ≡ Some d) × IsBody d p
