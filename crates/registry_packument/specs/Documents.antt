-- The documents of versions: a manifest, with the message of a deprecation put in.
use Rattle.std.specs.Prelude.{◌≡◌, ℕ, false, List, [], ◌∷◌, Option, Some, None, option_map, option_and_then, unwrap_or, if◌then◌else◌, bytes_eq, codes}
use Rattle.std.specs.Ordering.{is_lt}
use Rattle.json.specs.Json.{Json, null, boolean, number, string, array, object, Members, no_members, member, document}
use Rattle.json.specs.Print.{print}
use Rattle.json.specs.Tree.{json_tokens}
use Rattle.serde_json.specs.Data as value
use Rattle.serde_json.specs.Find.{as_object}
use Rattle.serde_json.specs.Read.{read}
use Rattle.serde_json.specs.Written.{members_have_float}
use Rattle.registry_names.specs.Texts.{text_cmp}
use Rattle.registry_publish.specs.Form.{IsTextOf}

-- the members of a manifest, which is a text that serde_json reads into an object; no other text is
-- one
abbrev pub manifest_members : List ℕ → Option value.Members
manifest_members text = option_and_then as_object (read text)

-- ---- the same members as they are written, with the digits of each number

abbrev pub members_in : Json → Option Members
members_in null = None
members_in (boolean b) = None
members_in (number s) = None
members_in (string s) = None
members_in (array js) = None
members_in (object ms) = Some ms

-- the members of the JSON object that a text is
abbrev pub written_members : List ℕ → Members
written_members text = unwrap_or (option_and_then members_in (document text)) no_members

-- the members but those under this key
abbrev pub members_without : List ℕ → Members → Members
members_without k no_members = no_members
members_without k (member l j ms) = if bytes_eq l k then members_without k ms else member l j (members_without k ms)

-- the members, with this one before the first whose key is greater
abbrev pub placed : List ℕ → Json → Members → Members
placed k i no_members = member k i no_members
placed k i (member l j ms) = if is_lt (text_cmp k l) then member k i (member l j ms) else member l j (placed k i ms)

-- the members, with the message under `deprecated`, in its place by key and instead of what was
-- under it
abbrev pub deprecated_members : List ℕ → Members → Members
deprecated_members message ms = let key = codes "deprecated" in placed key (string message) (members_without key ms)

-- The members of a manifest and a message. The empty message says that nothing is deprecated.
abbrev pub with_message : List ℕ → Members → Members
with_message [] ms = ms
with_message (c ∷ message) ms = deprecated_members (c ∷ message) ms

-- the manifest without spaces, with the message
abbrev pub deprecated_text : List ℕ → List ℕ → List ℕ
deprecated_text manifest message = print (json_tokens (object (deprecated_members message (written_members manifest))))

-- the text of a manifest and a message
abbrev pub documented : List ℕ → List ℕ → List ℕ
documented manifest [] = manifest
documented manifest (c ∷ message) = deprecated_text manifest (c ∷ message)

-- the document of a manifest and a message, if the manifest is one
abbrev pub document_text : List ℕ → List ℕ → Option (List ℕ)
document_text manifest message = option_map (λ _. documented manifest message) (manifest_members manifest)

-- ---- the same as a value

-- the members of the document of a manifest with these members
abbrev pub document_members : value.Members → List ℕ → value.Members
document_members ms [] = ms
document_members ms (c ∷ message) = value.put (codes "deprecated") (value.string (c ∷ message)) ms

-- the text is the compact JSON of an object with these members, whose numbers are integers of 64
-- bits, and reads back to it
abbrev pub IsCompact : value.Members → List ℕ → Type 0
IsCompact ms text = (members_have_float ms ≡ false) × IsTextOf (value.object ms) text
