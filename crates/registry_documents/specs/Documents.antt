-- The kinds of npm's documents, and what is read of one.
use Rattle.std.specs.Prelude.{◌≡◌, ℕ, Bool, true, false, ◌&&◌, ◌||◌, not, is_some, if◌then◌else◌, List, [], ◌∷◌, bytes_eq, codes, Option, Some, option_map, option_and_then, unwrap_or, IsUtf8}
use Rattle.serde_json.specs.Data.{Data, Items, no_items, item, Members}
use Rattle.serde_json.specs.Find.{get, as_array, as_object, as_str}
use Rattle.serde_json.specs.Read.{read}
use Rattle.serde_json.specs.View.{view}
use Rattle.registry_names.specs.Texts.{Text}
use Rattle.registry_documents.specs.declared.document.Document.{Document}
use Rattle.registry_documents.specs.declared.document.Kind.{Kind}
use Rattle.registry_documents.specs.declared.document.Kind.TheVariants.{Publication, Package, Maintainers, Other}

-- the JSON value that a document is, and how many bytes it had as it came
abbrev pub value_of : Document → Data
value_of d = view d.value

abbrev pub size_of : Document → ℕ
size_of d = d.size

-- the bytes are JSON of an object, which has this value
abbrev pub IsDocumentOf : List ℕ → Data → Type 0
IsDocumentOf bytes d = IsUtf8 bytes × (read bytes ≡ Some d) × (is_some (as_object d) ≡ true)

abbrev pub IsNoDocument : List ℕ → Type 0
IsNoDocument bytes = (d : Data) → ¬ (IsDocumentOf bytes d)

abbrev pub has : Text → Data → Bool
has k d = is_some (get k d)

-- it brings an archive, or says neither what it was made from nor versions
abbrev pub is_publication : Data → Bool
is_publication d = has (codes "_attachments") d || (not (has (codes "_rev") d) && not (has (codes "versions") d))

abbrev pub kind_of : Data → Kind
kind_of d = if is_publication d then Publication else (if has (codes "versions") d then Package else (if has (codes "maintainers") d then Maintainers else Other))

-- the member k is the text t
abbrev pub has_text : Text → Text → Data → Bool
has_text k t d = unwrap_or (option_map (λ s. bytes_eq s t) (option_and_then as_str (get k d))) false

-- the document, and the path where it names one, say this revision
abbrev pub is_of : Text → Option Text → Data → Bool
is_of revision path d = has_text (codes "_rev") revision d && unwrap_or (option_map (λ t. bytes_eq t revision) path) true

-- the members of `versions`, if that is an object
abbrev pub versions_in : Data → Option Members
versions_in d = option_and_then as_object (get (codes "versions") d)

-- ---- maintainers

-- a name before others, where both are read
abbrev pub with_name : Option Text → Option (List Text) → Option (List Text)
with_name name names = option_and_then (λ n. option_map (λ ns. n ∷ ns) names) name

-- the name of each item; None where one has no text for it
abbrev pub names_of : Items → Option (List Text)
names_of no_items = Some []
names_of (item d ds) = with_name (option_and_then as_str (get (codes "name") d)) (names_of ds)

-- The names of the document's maintainers, of whom it has none where it doesn't say them. None where
-- what it says isn't an array of objects with names
abbrev pub names_in : Data → Option (List Text)
names_in d = unwrap_or (option_map (λ ds. option_and_then names_of (as_array ds)) (get (codes "maintainers") d)) (Some [])
