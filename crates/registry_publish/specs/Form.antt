-- The form of a publish body, and why a body isn't in form.
use Rattle.std.specs.Prelude.{◌≡◌, ◌≤◌, ◌<◌, ℕ, true, false, List, length, Option, Some}
use Rattle.serde_json.specs.Data.{Data}
use Rattle.serde_json.specs.Read.{read}
use Rattle.serde_json.specs.Written.{compact_text}
use Rattle.registry_names.specs.Bodies.{body_limit}
use Rattle.registry_names.specs.Names.{IsName}
use Rattle.registry_names.specs.Tags.{is_tag}
use Rattle.registry_names.specs.Versions.{VersionParts, IsVersion, IsVersionOf, text_of_version}
use Rattle.registry_names.specs.declared.refusal.Refusal.{Refusal}
use Rattle.registry_names.specs.declared.refusal.Refusal.TheVariants.{BadName, BadVersion, RangeTag, BadTag, BadBody, BadIntegrity, TooLarge}
use Rattle.registry_names.specs.declared.status.Status.{Status}
use Rattle.registry_names.specs.declared.stop.Stop.{Stop}
use Rattle.registry_names.specs.declared.stop.Stop.TheVariants.{Refused, Fault as Faulted}
use Rattle.registry_names.specs.declared.stop.Fault.TheVariants.{Memory, Database}
use Rattle.registry_ranges.specs.Grammar.{IsRangeText}
use Rattle.registry_ranges.specs.Tags.{IsTag}
use Rattle.registry_publish.specs.Body.{BodyParts, IsBodyOf, is_manifest, tag_of}
use Rattle.registry_publish.specs.Integrity.{has_integrity, integrity_text}
use Rattle.registry_publish.specs.declared.need.Need.{Need}

-- what a form holds
pub record FormParts : Type 0 where
  pub name : List ℕ
  pub version : VersionParts
  pub tag : List ℕ
  pub access : Option Status
  pub manifest : List ℕ
  pub archive : List ℕ
  pub needs : List Need
  pub integrity : List ℕ

-- the text is the compact JSON of this value, and reads back to it
abbrev pub IsTextOf : Data → List ℕ → Type 0
IsTextOf m text = (text ≡ compact_text m) × (read text ≡ Some m)

-- the text is that of a manifest of this name and version
abbrev pub IsManifestText : List ℕ → VersionParts → List ℕ → Type 0
IsManifestText name version text = (m : Data) × (is_manifest name (text_of_version version) m ≡ true) × IsTextOf m text

-- the body isn't too large, and P holds of its parts
abbrev pub HasBody : List ℕ → (BodyParts → Type 0) → Type 0
HasBody b P = (p : BodyParts) × (length b ≤ body_limit) × IsBodyOf b p × P p

-- the body has this form: what it says, with the manifest written as a text
pub record IsFormOf (b : List ℕ) (f : FormParts) : Type 0 where
  pub parts : BodyParts
  pub short : length b ≤ body_limit
  pub body : IsBodyOf b parts
  pub name : (f.name ≡ parts.name) × IsName parts.name
  pub version : IsVersionOf parts.version f.version
  pub tag : (f.tag ≡ tag_of parts) × IsTag (tag_of parts)
  pub access : f.access ≡ parts.access
  pub manifest : IsTextOf parts.manifest f.manifest
  pub archive : f.archive ≡ parts.archive
  pub needs : f.needs ≡ parts.needs
  pub integrity : (f.integrity ≡ integrity_text parts.archive) × (has_integrity f.integrity parts.manifest ≡ true)

-- the body is refused by this: the first of the reasons that hold
abbrev pub IsRefusedBody : List ℕ → Refusal → Type 0
IsRefusedBody b TooLarge = body_limit < length b
IsRefusedBody b BadBody = (length b ≤ body_limit) × ((p : BodyParts) → ¬ (IsBodyOf b p))
IsRefusedBody b BadName = HasBody b (λ p. ¬ (IsName p.name))
IsRefusedBody b BadVersion = HasBody b (λ p. IsName p.name × (¬ (IsVersion p.version)))
IsRefusedBody b RangeTag = HasBody b (λ p. IsName p.name × IsVersion p.version × IsRangeText (tag_of p))
IsRefusedBody b BadTag = HasBody b (λ p. IsName p.name × IsVersion p.version × (is_tag (tag_of p) ≡ false) × (¬ (IsRangeText (tag_of p))))
IsRefusedBody b BadIntegrity = HasBody b (λ p. IsName p.name × IsVersion p.version × IsTag (tag_of p)
    × (has_integrity (integrity_text p.archive) p.manifest ≡ false))
IsRefusedBody b _ = ⊥

-- why no form is read; a body that is too large takes no memory
abbrev pub StopsForm : List ℕ → Stop → Type 0
StopsForm b (Refused r) = IsRefusedBody b r
StopsForm b (Faulted Memory) = length b ≤ body_limit
StopsForm b (Faulted Database) = ⊥
