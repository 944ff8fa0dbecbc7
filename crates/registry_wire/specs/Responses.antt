-- The bytes of a response.
use Rattle.std.specs.Prelude.{ℕ, ◌==◌, not, List, [], ◌++◌, length, codes, decimal, Bool, Option, Some, None, if◌then◌else◌, unwrap_or}
use Rattle.http.specs.StatusCode.{code_digits, reason_phrase}
use Rattle.registry_wire.specs.MediaRanges.{abbreviated_type}
use Rattle.registry_wire.specs.declared.labels.Caching.{Caching}
use Rattle.registry_wire.specs.declared.labels.Caching.TheVariants.{Unsaid, Checked, Kept, Shared}
use Rattle.registry_wire.specs.declared.labels.DocumentForm.{DocumentForm}
use Rattle.registry_wire.specs.declared.labels.DocumentForm.TheVariants.{Only, Full, Abbreviated}
use Rattle.registry_wire.specs.declared.labels.Labels.{Labels}
use Rattle.registry_wire.specs.declared.response.ContentKind.{ContentKind}
use Rattle.registry_wire.specs.declared.response.ContentKind.TheVariants.{Json, Bytes}
use Rattle.registry_wire.specs.declared.response.Response.{Response}

abbrev pub line_end : List ℕ
line_end = codes "\r\n"

-- the text where it applies
abbrev pub only_if : Bool → List ℕ → List ℕ
only_if applies text = if applies then text else []

-- the phrase of a status, where it has one
unfoldable pub phrase : ℕ → List ℕ
phrase status = unwrap_or (reason_phrase status) []

abbrev pub status_line : ℕ → List ℕ
status_line status = codes "HTTP/1.1 " ++ code_digits status ++ codes " " ++ phrase status ++ line_end

abbrev pub json_type : DocumentForm → List ℕ
json_type Only = codes "application/json"
json_type Full = codes "application/json"
json_type Abbreviated = abbreviated_type

abbrev pub media_type : ContentKind → DocumentForm → List ℕ
media_type Json form = json_type form
media_type Bytes form = codes "application/octet-stream"

abbrev pub type_line : ContentKind → DocumentForm → List ℕ
type_line kind form = codes "content-type: " ++ media_type kind form ++ line_end

abbrev pub length_line : ℕ → List ℕ
length_line len = codes "content-length: " ++ decimal len ++ line_end

-- the status of a response that has no content (RFC 9110, 15.4.5): who asked has it
abbrev pub not_modified : ℕ
not_modified = 304

-- what and how long the content is, where there is one
abbrev pub content_lines : ℕ → ContentKind → DocumentForm → ℕ → List ℕ
content_lines status kind form len = only_if (not (status == not_modified)) (type_line kind form ++ length_line len)

-- nothing is said to those who keep a document
abbrev pub no_labels : Labels
no_labels = record { tag = None; caching = Unsaid; form = Only }

-- entity-tag = opaque-tag (RFC 9110, 8.8.3)
abbrev pub tag_line : Option (List ℕ) → List ℕ
tag_line None = []
tag_line (Some tag) = codes "etag: \"" ++ tag ++ codes "\"\r\n"

abbrev pub caching_line : Caching → List ℕ
caching_line Unsaid = []
caching_line Checked = codes "cache-control: no-cache\r\n"
caching_line Kept = codes "cache-control: private, max-age=31536000, immutable\r\n"
caching_line Shared = codes "cache-control: public, max-age=31536000, immutable\r\n"

-- where the field `accept` of a request chooses the form, the response depends on it (12.5.5)
abbrev pub vary_line : DocumentForm → List ℕ
vary_line Only = []
vary_line Full = codes "vary: accept\r\n"
vary_line Abbreviated = codes "vary: accept\r\n"

abbrev pub label_lines : Labels → List ℕ
label_lines labels = tag_line labels.tag ++ caching_line labels.caching ++ vary_line labels.form

-- the field of a 401: which kind of credential is asked for
abbrev pub challenge : ℕ → List ℕ
challenge status = only_if (status == 401) (codes "www-authenticate: Bearer\r\n")

abbrev pub close_line : Bool → List ℕ
close_line closes = only_if closes (codes "connection: close\r\n")

-- the lines of a head, its blank line included
abbrev pub head_bytes : ℕ → ContentKind → Labels → ℕ → Bool → List ℕ
head_bytes status kind labels len closes = status_line status ++ content_lines status kind labels.form len ++ label_lines labels ++ challenge status ++ close_line closes ++ line_end

-- the body, of its two pieces; a response with the status 304 has none, whatever they are
abbrev pub content : Response → List ℕ
content r = only_if (not (r.status == not_modified)) (r.body.now ++ r.rest.now)

abbrev pub head_of : Response → List ℕ
head_of r = head_bytes r.status r.kind r.labels.now (length (content r)) r.closes

abbrev pub response_bytes : Response → List ℕ
response_bytes r = head_of r ++ content r
