-- Packuments: as texts, and as the values that these are the texts of.
use Rattle.std.specs.Prelude.{◌≡◌, ℕ, ◌^◌, Bool, true, false, nat_lt, if◌then◌else◌, List, [], ◌∷◌, ◌++◌, length, Option, Some, None, option_map, option_and_then, map, codes}
use Rattle.json.specs.Print.{quoted}
use Rattle.serde_json.specs.Data.{Data, string, object, Members, no_members, member}
use Rattle.registry_packument.specs.Abbreviated.{document_in, members_of_form}
use Rattle.registry_packument.specs.Documents.{IsCompact}
use Rattle.registry_packument.specs.Lists.{tag_texts}
use Rattle.registry_packument.specs.ObjectTexts.{Pair, member_text, members_text, object_text}
use Rattle.registry_packument.specs.TextValues.{text_members}
use Rattle.registry_packument.specs.Calendar.{utc_text}
use Rattle.registry_packument.specs.Heads.{HeadParts, time_entry}
use Rattle.registry_names.specs.declared.dist_tag.DistTag.{DistTag}
use Rattle.registry_packument.specs.declared.form.PackForm.{PackForm}
use Rattle.registry_packument.specs.declared.form.PackForm.TheVariants.{Full, Abbreviated}
use Rattle.registry_packument.specs.declared.packument.VersionRow.{VersionRow}
use Rattle.registry_packument.specs.declared.times.VersionTime.{VersionTime}

-- a tag, and the version that it names as a JSON string
abbrev pub tag_pair : DistTag → Pair
tag_pair r = (r.tag, quoted r.version)

-- a version, and its document
abbrev pub version_pair : PackForm → VersionRow → Option Pair
version_pair form r = option_map (λ document. (r.version, document)) (document_in form r.manifest r.message)

-- the versions with their documents, unless one of them has none
abbrev pub version_pairs : PackForm → List VersionRow → Option (List Pair)
version_pairs form [] = Some []
version_pairs form (r ∷ rs) = option_and_then (λ p. option_map (λ ps. p ∷ ps) (version_pairs form rs)) (version_pair form r)

-- the moments under `time`: of each version its publication, and then those at which the package
-- was created and modified
abbrev pub moments_of : List VersionTime → ℕ → ℕ → List (List ℕ × ℕ)
moments_of times created modified = map time_entry times ++ (codes "created", created) ∷ (codes "modified", modified) ∷ []

-- a key of `time`, and its moment as a JSON string
abbrev pub time_pair : List ℕ × ℕ → Pair
time_pair e = (e.0, quoted (utc_text e.1))

-- `time` as a text
abbrev pub time_text : HeadParts → List ℕ
time_text head = object_text (map time_pair (moments_of head.times head.created head.modified))

-- the members of a packument of a form, with those of `versions` as texts
abbrev pub pairs_of_form : PackForm → HeadParts → List Pair → List Pair
pairs_of_form Full head versions =
    (codes "_id", quoted head.name)
    ∷ (codes "dist-tags", object_text (map tag_pair head.tags))
    ∷ (codes "name", quoted head.name)
    ∷ (codes "time", time_text head)
    ∷ (codes "versions", object_text versions)
    ∷ []
pairs_of_form Abbreviated head versions =
    (codes "dist-tags", object_text (map tag_pair head.tags))
    ∷ (codes "modified", quoted (utc_text head.modified))
    ∷ (codes "name", quoted head.name)
    ∷ (codes "versions", object_text versions)
    ∷ []

abbrev pub pack_pairs : HeadParts → List Pair → List Pair
pack_pairs head versions = pairs_of_form head.form head versions

-- the packument of a package's head and its versions, unless a version has no document
abbrev pub pack_text : HeadParts → List VersionRow → Option (List ℕ)
pack_text head versions = option_map (λ ps. object_text (pack_pairs head ps)) (version_pairs head.form versions)

-- how many bytes the packument has, where there is one and the number is below 2^64
abbrev pub pack_len : HeadParts → List VersionRow → Option ℕ
pack_len head versions = option_and_then (λ text. if nat_lt (length text) (2 ^ 64) then Some (length text) else None) (pack_text head versions)

-- ---- the same in parts, as they are written one after the other

-- all that comes before the first of the moments of a full packument
abbrev pub before_times : HeadParts → List ℕ
before_times head =
    123 ∷ (member_text false (codes "_id", quoted head.name)
    ++ (member_text true (codes "dist-tags", object_text (map tag_pair head.tags))
    ++ (member_text true (codes "name", quoted head.name)
    ++ member_text true (codes "time", 123 ∷ []))))

-- the moments of the versions that are left, those of the package, and what comes before the first
-- version
abbrev pub times_text : HeadParts → Bool → List VersionTime → List ℕ
times_text head later times =
    members_text later (map time_pair (moments_of times head.created head.modified))
    ++ member_text true (codes "versions", 123 ∷ [])

-- all that comes before the first version of a packument of a form
abbrev pub opening_of_form : PackForm → HeadParts → List ℕ
opening_of_form Full head =
    123 ∷ (member_text false (codes "_id", quoted head.name)
    ++ (member_text true (codes "dist-tags", object_text (map tag_pair head.tags))
    ++ (member_text true (codes "name", quoted head.name)
    ++ (member_text true (codes "time", time_text head)
    ++ member_text true (codes "versions", 123 ∷ [])))))
opening_of_form Abbreviated head =
    123 ∷ (member_text false (codes "dist-tags", object_text (map tag_pair head.tags))
    ++ (member_text true (codes "modified", quoted (utc_text head.modified))
    ++ (member_text true (codes "name", quoted head.name)
    ++ member_text true (codes "versions", 123 ∷ []))))

abbrev pub opening_text : HeadParts → List ℕ
opening_text head = opening_of_form head.form head

-- the versions that are left, and the two braces that end the packument
abbrev pub versions_text : Bool → List Pair → List ℕ
versions_text later ps = members_text later ps ++ 125 ∷ []

-- ---- the same as a value

-- each tag, with the version that it names
abbrev pub tag_members : List DistTag → Members
tag_members rs = text_members tag_texts rs

-- a key of `time`, and the text of its moment
abbrev pub time_texts : List ℕ × ℕ → List ℕ × List ℕ
time_texts e = (e.0, utc_text e.1)

-- each key of `time`, with its moment
abbrev pub time_members : HeadParts → Members
time_members head = text_members time_texts (moments_of head.times head.created head.modified)

-- the value is that of the version's document, where its manifest is the compact JSON of an object
abbrev pub IsDocumentOf : PackForm → VersionRow → Data → Type 0
IsDocumentOf form r d = (ms : Members) × (IsCompact ms r.manifest × (d ≡ object (members_of_form form ms r.message)))

-- each version, with the value of its document
abbrev pub AreDocumentsOf : PackForm → List VersionRow → Members → Type 0
AreDocumentsOf form [] no_members = Unit {0}
AreDocumentsOf form [] (member k d ms) = ⊥
AreDocumentsOf form (r ∷ rs) no_members = ⊥
AreDocumentsOf form (r ∷ rs) (member k d ms) = (r.version ≡ k) × (IsDocumentOf form r d × AreDocumentsOf form rs ms)

-- the members of the packument of a form
abbrev pub members_of_pack : PackForm → HeadParts → Members → Members
members_of_pack Full head documents =
    member (codes "_id") (string head.name)
    (member (codes "dist-tags") (object (tag_members head.tags))
    (member (codes "name") (string head.name)
    (member (codes "time") (object (time_members head))
    (member (codes "versions") (object documents)
    no_members))))
members_of_pack Abbreviated head documents =
    member (codes "dist-tags") (object (tag_members head.tags))
    (member (codes "modified") (string (utc_text head.modified))
    (member (codes "name") (string head.name)
    (member (codes "versions") (object documents)
    no_members)))

-- the packument of a package's head and its versions' documents
abbrev pub pack_value : HeadParts → Members → Data
pack_value head documents = object (members_of_pack head.form head documents)
