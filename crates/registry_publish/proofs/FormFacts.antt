-- What stops a body that was read, and the form that is made of it.
use Rattle.std.proofs.Common.{◌≡◌, ◌∙◌, ◌≤◌, ◌⊎◌, inl, inr, ℕ, true, false, List, length, Some, None, refl, sym, le_trans, IsUtf8}
use Rattle.serde_json.specs.Data.{Data, depth}
use Rattle.serde_json.specs.Read.{read, max_depth}
use Rattle.serde_json.specs.Written.{has_float, compact_text}
use Rattle.registry_names.specs.Bodies.{body_limit}
use Rattle.registry_names.specs.Names.{IsName}
use Rattle.registry_names.specs.Tags.{is_tag}
use Rattle.registry_names.specs.Versions.{VersionParts, IsVersion, IsVersionOf, text_of_version}
use Rattle.registry_names.specs.declared.stop.Stop.{Stop}
use Rattle.registry_names.specs.declared.stop.Stop.TheVariants.{Refused, Fault as Faulted}
use Rattle.registry_names.specs.declared.stop.Fault.TheVariants.{Memory, Database}
use Rattle.registry_names.specs.declared.refusal.Refusal.TheVariants.{BadName, BadVersion, RangeTag, BadTag}
use Rattle.registry_publish.specs.Body.{BodyParts, IsBody, is_manifest, tag_of}
use Rattle.registry_publish.specs.Form.{FormParts, IsFormOf, IsManifestText, IsTextOf, StopsForm}
use Rattle.registry_ranges.specs.Grammar.{IsRangeText}
use Rattle.registry_publish.specs.Integrity.{has_integrity, integrity_text}
use Rattle.registry_publish.specs.Needs.{needs_of}
use Rattle.registry_publish.specs.Reads.{IsNamed, IsReadBody, StopsTexts}
use Rattle.registry_publish.specs.Stops.{StopsReading}
use Rattle.registry_publish.proofs.BodyFacts.{no_body_of, no_body_of_none, no_float}
use Rattle.registry_publish.proofs.DepthFacts.{manifest_depth}
use Rattle.registry_publish.proofs.NeedFacts.{needs_of_text}

-- bytes that aren't too large, and are no JSON
pub stops_document : (b : List ℕ) → length b ≤ body_limit → (e : Stop) → StopsReading (IsUtf8 b → read b ≡ None) e → StopsForm b e
stops_document b short (Refused r) h = rw h.0 (short, no_body_of_none b h.1)
stops_document b short (Faulted Memory) h = short
stops_document b short (Faulted Database) h = h

pub stops_body : (b : List ℕ) (d : Data) → length b ≤ body_limit → read b ≡ Some d
    → (e : Stop) → StopsReading ((p : BodyParts) → ¬ (IsBody d p)) e → StopsForm b e
stops_body b d short is (Refused r) h = rw h.0 (short, no_body_of b d is h.1)
stops_body b d short is (Faulted Memory) h = short
stops_body b d short is (Faulted Database) h = h

pub stops_name : (b : List ℕ) (p : BodyParts) → IsReadBody b p
    → (e : Stop) → (e ≡ Faulted Memory) ⊎ ((e ≡ Refused BadName) × (¬ (IsName p.name))) → StopsForm b e
stops_name b p i e (inl m) = rw m i.short
stops_name b p i e (inr r) = rw r.0 (p, i.short, i.body, r.1)

pub stops_version : (b : List ℕ) (p : BodyParts) → IsReadBody b p → IsName p.name
    → (e : Stop) → (e ≡ Faulted Memory) ⊎ ((e ≡ Refused BadVersion) × (¬ (IsVersion p.version))) → StopsForm b e
stops_version b p i n e (inl m) = rw m i.short
stops_version b p i n e (inr r) = rw r.0 (p, i.short, i.body, (n, r.1))

pub stops_tag : (b : List ℕ) (p : BodyParts) → IsReadBody b p → IsName p.name → IsVersion p.version → (e : Stop)
    → (e ≡ Refused RangeTag → IsRangeText (tag_of p)) → (e ≡ Refused BadTag → (is_tag (tag_of p) ≡ false) × ¬ (IsRangeText (tag_of p)))
    → (e ≡ Faulted Memory) ⊎ ((e ≡ Refused RangeTag) ⊎ (e ≡ Refused BadTag)) → StopsForm b e
stops_tag b p i name version e range bad (inl m) = rw m i.short
stops_tag b p i name version e range bad (inr (inl r)) = rw r (p, i.short, i.body, (name, version, range r))
stops_tag b p i name version e range bad (inr (inr r)) = rw r (p, i.short, i.body, (name, version, (bad r).0, (bad r).1))

pub stops_texts : (b : List ℕ) (p : BodyParts) → IsReadBody b p
    → (name : List ℕ) (version : VersionParts) (tag : List ℕ) → IsNamed p name version tag
    → (e : Stop) → StopsTexts p e → StopsForm b e
stops_texts b p i name version tag n (Refused r) h = rw h.0 (p, i.short, i.body, (n.name.1, (version, n.version), n.tag.1, h.1))
stops_texts b p i name version tag n (Faulted Memory) h = i.short
stops_texts b p i name version tag n (Faulted Database) h = h

-- a body that was read, of bytes that aren't too large
pub read_body : (b : List ℕ) (d : Data) (p : BodyParts) → length b ≤ body_limit → IsUtf8 b × (read b ≡ Some d) → depth d ≤ max_depth → IsBody d p → IsReadBody b p
read_body b d p short is low body = record {
  short = short;
  body = (d, is.0, is.1, body);
  nests = le_trans (manifest_depth d p body) low;
}

-- the text that its manifest is written as
pub text_of : (b : List ℕ) (p : BodyParts) → IsReadBody b p → (text : List ℕ)
    → (has_float p.manifest ≡ false → text ≡ compact_text p.manifest)
    → (depth p.manifest ≤ max_depth → read text ≡ Some p.manifest) → IsTextOf p.manifest text
text_of b p i text written reads = (written (no_float _ _ p.manifest i.body.3.manifest), reads i.nests)

-- the form that is made of it
pub form_of : (b : List ℕ) (p : BodyParts) (f : FormParts) → IsReadBody b p → IsNamed p f.name f.version f.tag
    → f.access ≡ p.access → f.archive ≡ p.archive → f.needs ≡ p.needs
    → (f.integrity ≡ integrity_text p.archive) × (has_integrity f.integrity p.manifest ≡ true)
    → IsTextOf p.manifest f.manifest → IsFormOf b f
form_of b p f i n access archive needs integrity text = record {
  parts = p;
  short = i.short;
  body = i.body;
  name = n.name;
  version = n.version;
  tag = n.tag;
  access = access;
  manifest = text;
  archive = archive;
  needs = needs;
  integrity = integrity;
}

own_text : (t : List ℕ) (v : VersionParts) → IsVersionOf t v → IsVersionOf (text_of_version v) v
own_text t v i = (refl, rw (sym i.0) i.1, i.2, i.3, i.4, i.5)

-- the parts of a form are in form
pub in_form : (b : List ℕ) (f : FormParts) → IsFormOf b f
    → IsName f.name × IsVersionOf (text_of_version f.version) f.version × (is_tag f.tag ≡ true) × IsManifestText f.name f.version f.manifest
    × (needs_of f.manifest ≡ Some f.needs) × (f.integrity ≡ integrity_text f.archive)
in_form b f i =
    let body = i.body.3 in
    let m : is_manifest f.name (text_of_version f.version) i.parts.manifest ≡ true = rw (i.name.0, sym i.version.0) body.manifest in (
      rw i.name.0 i.name.1,
      own_text i.parts.version f.version i.version,
      rw i.tag.0 i.tag.1.0,
      (i.parts.manifest, m, i.manifest),
      rw i.needs (needs_of_text f.manifest i.parts.manifest i.manifest.1 ∙ body.needs),
      rw i.archive i.integrity.0,
    )
