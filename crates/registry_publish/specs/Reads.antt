-- What is read of a body step by step, for private clauses.
use Rattle.std.specs.Prelude.{◌≡◌, ◌≤◌, ⊤, ℕ, false, List, length}
use Rattle.serde_json.specs.Data.{depth}
use Rattle.serde_json.specs.Read.{max_depth}
use Rattle.registry_names.specs.Bodies.{body_limit}
use Rattle.registry_names.specs.Names.{IsName}
use Rattle.registry_names.specs.Versions.{VersionParts, IsVersionOf}
use Rattle.registry_names.specs.declared.refusal.Refusal.TheVariants.{BadIntegrity}
use Rattle.registry_names.specs.declared.stop.Stop.{Stop}
use Rattle.registry_names.specs.declared.stop.Stop.TheVariants.{Refused, Fault as Faulted}
use Rattle.registry_names.specs.declared.stop.Fault.TheVariants.{Memory, Database}
use Rattle.registry_ranges.specs.Tags.{IsTag}
use Rattle.registry_publish.specs.Body.{BodyParts, IsBodyOf, tag_of}
use Rattle.registry_publish.specs.Integrity.{has_integrity, integrity_text}

-- the bytes aren't too large, and are a body that says this, whose manifest nests no deeper than is
-- read
pub record IsReadBody (b : List ℕ) (p : BodyParts) : Type 0 where
  pub short : length b ≤ body_limit
  pub body : IsBodyOf b p
  pub nests : depth p.manifest ≤ max_depth

-- what the name, the version and the tag of a body are read to
pub record IsNamed (p : BodyParts) (n : List ℕ) (v : VersionParts) (t : List ℕ) : Type 0 where
  pub name : (n ≡ p.name) × IsName p.name
  pub version : IsVersionOf p.version v
  pub tag : (t ≡ tag_of p) × IsTag (tag_of p)

-- the manifest says another integrity than the archive's, or no memory is left
abbrev pub StopsTexts : BodyParts → Stop → Type 0
StopsTexts p (Refused r) = (r ≡ BadIntegrity) × (has_integrity (integrity_text p.archive) p.manifest ≡ false)
StopsTexts p (Faulted Memory) = ⊤
StopsTexts p (Faulted Database) = ⊥
