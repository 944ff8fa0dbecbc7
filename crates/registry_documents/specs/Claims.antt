-- Documents that repeat what was read.
use Rattle.std.specs.Prelude.{◌≡◌, ⊤, ◌⊎◌, true, false, is_some, List, codes, Option, Some, None}
use Rattle.serde_json.specs.Data.{Data, null, boolean, number, string, array, object, Items, no_items, item, Members, no_members, member}
use Rattle.serde_json.specs.Find.{get, get_member, is_float}
use Rattle.registry_names.specs.Texts.{Text}
use Rattle.registry_documents.specs.Differences.{adds_none, asked_of_package, change_asked, lost, message_of, news, same_names}
use Rattle.registry_documents.specs.Documents.{is_of}
use Rattle.registry_documents.specs.Fronts.{shown}
use Rattle.registry_documents.specs.Judging.{asked_in}
use Rattle.registry_documents.specs.Laws.{AllMembers}
use Rattle.registry_documents.specs.Parts.{is_apart}
use Rattle.registry_documents.specs.Values.{within}
use Rattle.registry_documents.specs.declared.asked.Asked.TheVariants.{AlreadySo}
use Rattle.registry_documents.specs.declared.value.Part.{Part}
use Rattle.registry_documents.specs.declared.value.Part.TheVariants.{Dist, Manifest, Package}

-- each of these members is what is found under its key among them all, as where each key is there
-- once
abbrev pub AreFound : Members → Members → Type 0
AreFound all no_members = ⊤
AreFound all (member k d ms) = (get_member k all ≡ Some d) × AreFound all ms

-- JSON whose objects have each key once, and whose numbers are integers of 64 bits
abbrev mutual
  pub IsPlain : Data → Type 0
  IsPlain null = ⊤
  IsPlain (boolean b) = ⊤
  IsPlain (number n) = is_float n ≡ false
  IsPlain (string s) = ⊤
  IsPlain (array ds) = ArePlainItems ds
  IsPlain (object ms) = AreFound ms ms × ArePlain ms

  pub ArePlainItems : Items → Type 0
  ArePlainItems no_items = ⊤
  ArePlainItems (item d ds) = IsPlain d × ArePlainItems ds

  pub ArePlain : Members → Type 0
  ArePlain no_members = ⊤
  ArePlain (member k d ms) = IsPlain d × ArePlain ms

-- both are plain objects, and have the same under each key but those apart
pub record Repeats (part : Part) (d e : Data) : Type 0 where
  pub members : Members
  pub others : Members
  pub is_object : d ≡ object members
  pub other_is_object : e ≡ object others
  pub is_plain : IsPlain d
  pub other_is_plain : IsPlain e
  pub found : (k : Text) → is_apart part k ≡ false → get k d ≡ get k e

-- both are the same, or plain objects that are the same but for the address of the archive
abbrev pub RepeatsDist : Option Data → Option Data → Type 0
RepeatsDist a b = (a ≡ b) ⊎ ((d : Data) × ((e : Data) × ((a ≡ Some d) × ((b ≡ Some e) × Repeats Dist d e))))

-- the document w has the version v with the moment and the manifest that are there in d, but for a
-- message and for the address of its archive
pub record RepeatsVersion (w d : Data) (v : Text) (present : Data) : Type 0 where
  pub wanted : Data
  pub there : within (codes "versions") v w ≡ Some wanted
  pub moment : within (codes "time") v w ≡ within (codes "time") v d
  pub manifest : Repeats Manifest wanted present
  pub dist : RepeatsDist (get (codes "dist") wanted) (get (codes "dist") present)
  pub message : is_some (message_of wanted) ≡ true
  pub other_message : is_some (message_of present) ≡ true

-- the version is missing, or repeated
abbrev pub IsLostOrRepeated : Data → Data → Text → Data → Type 0
IsLostOrRepeated w d v present = (within (codes "versions") v w ≡ None) ⊎ RepeatsVersion w d v present

-- The document w repeats what was read, but for tags, messages and missing versions. A proxy may have
-- rewritten the addresses of archives, `modified` may be another, and it may say more moments.
pub record IsClaim (w d : Data) (vs : Members) (present names : List Text) : Type 0 where
  pub members : Repeats Package w d
  pub created : within (codes "time") (codes "created") w ≡ within (codes "time") (codes "created") d
  pub versions : AllMembers (IsLostOrRepeated w d) vs
  pub none_more : adds_none w d ≡ true
  pub maintainers : same_names present names ≡ true

-- What such a document asks for is decided by the missing versions, the new messages, and the tags.
abbrev pub ClaimsAreHeard : Type 0
ClaimsAreHeard = (w d : Data) (vs : Members) (present names : List Text) → IsClaim w d vs present names
    → asked_of_package w d vs present names ≡ change_asked w d vs (lost w vs) (news w vs)

-- ---- what npm is shown

-- the value of a member is a plain object whose message, if it has one, is a text
abbrev pub IsManifest : Text → Data → Type 0
IsManifest v p = (ms : Members) × ((p ≡ object ms) × (is_some (message_of p) ≡ true))

-- a packument, as far as that matters here: plain JSON without the members that npm alone is shown or
-- sends, with versions whose messages are texts
pub record IsPackument (ms vs : Members) : Type 0 where
  pub plain : IsPlain (object ms)
  pub no_revision : get_member (codes "_rev") ms ≡ None
  pub no_maintainers : get_member (codes "maintainers") ms ≡ None
  pub no_archive : get_member (codes "_attachments") ms ≡ None
  pub versions : get_member (codes "versions") ms ≡ Some (object vs)
  pub manifests : AllMembers IsManifest vs

-- What npm is shown of a package, sent back as it is, is of the present revision, and says what there
-- is.
abbrev pub ShownIsThere : Type 0
ShownIsThere = (ms vs : Members) (names : List Text) (rev : Text) → IsPackument ms vs
    → (is_of rev None (object (shown rev names ms)) ≡ true) × ((is_of rev (Some rev) (object (shown rev names ms)) ≡ true)
    × (asked_in (object (shown rev names ms)) (object ms) names ≡ Some AlreadySo))
