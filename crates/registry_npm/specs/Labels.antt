-- What responses say to those who keep documents, where npm's own requests are served.
use Rattle.std.specs.Prelude.{Bool, true, false, if◌then◌else◌, ℕ, ◌∷◌, [], List, take, drop, Option, Some, Ok}
use Rattle.hex.specs.Hex.{encode_lower}
use Rattle.sha2.specs.Sha256.{sha256}
use Rattle.registry_names.specs.Texts.{Text}
use Rattle.registry_routes.specs.declared.npm_endpoint.NpmEndpoint.{NpmEndpoint}
use Rattle.registry_routes.specs.declared.npm_endpoint.NpmEndpoint.TheVariants as by
use Rattle.registry_rules.specs.declared.reply.Reply.TheVariants.{Bytes, Doc}
use Rattle.registry_rules.specs.declared.request.Action.{Action}
use Rattle.registry_rules.specs.declared.request.Action.TheVariants.{Archive}
use Rattle.registry_rules.specs.declared.request.Credential.{Credential}
use Rattle.registry_rules.specs.declared.request.Credential.TheVariants.{Anonymous}
use Rattle.registry_service.specs.HttpAnswers.{Outcome}
use Rattle.registry_service.specs.Turns.{Exchange}
use Rattle.registry_wire.specs.EntityTags.{tag_of}
use Rattle.registry_wire.specs.MediaRanges.{accepts_abbreviated}
use Rattle.registry_wire.specs.Responses.{no_labels}
use Rattle.registry_wire.specs.declared.labels.Caching.{Caching}
use Rattle.registry_wire.specs.declared.labels.Caching.TheVariants.{Checked, Kept, Shared}
use Rattle.registry_wire.specs.declared.labels.DocumentForm.TheVariants.{Abbreviated, Full, Only}
use Rattle.registry_wire.specs.declared.labels.Labels.{Labels}
use Rattle.registry_wire.specs.declared.wanted.FieldValue.{FieldValue}

-- the tag of what is sent as the registry keeps it: the SHA-256 of its bytes in hexadecimal
abbrev pub content_tag : List ℕ → Text
content_tag bytes = encode_lower (sha256 bytes)

-- a document has labels, and no other outcome
abbrev pub of_document : (Text → Labels) → Outcome → Labels
of_document says (Ok (Doc text)) = says text
of_document says _ = no_labels

-- ---- packuments

-- the revision of a packument as npm reads it: 64 bytes behind `{"_rev":"`
abbrev pub tag_in : Text → Option Text
tag_in shown = tag_of (take 64 (drop 9 shown))

-- who keeps one asks each time whether it is the same still
abbrev pub full_labels : Text → Labels
full_labels shown = record { tag = tag_in shown; caching = Checked; form = Full }

abbrev pub abbreviated_labels : Text → Labels
abbreviated_labels text = record { tag = Some (content_tag text); caching = Checked; form = Abbreviated }

-- a packument that is read, by a request with this field `accept`
abbrev pub packument_labels : FieldValue → Outcome → Labels
packument_labels accept o = if accepts_abbreviated accept then of_document abbreviated_labels o else of_document full_labels o

-- the route by which a packument is read
abbrev pub is_packument : NpmEndpoint → Bool
is_packument by.Packument = true
is_packument _ = false

-- What a request of npm's own comes to. Only a packument that is read has labels
abbrev pub own_labels : NpmEndpoint → FieldValue → Outcome → Labels
own_labels e accept o = if is_packument e then packument_labels accept o else no_labels

-- ---- archives

-- what is answered to nobody in particular may be shared by all
abbrev pub archive_caching : Credential → Caching
archive_caching Anonymous = Shared
archive_caching _ = Kept

abbrev pub archive_labels : Credential → Action → List ℕ → Labels
archive_labels who (Archive p v) bytes = record { tag = Some (content_tag bytes); caching = archive_caching who; form = Only }
archive_labels who _ bytes = no_labels

abbrev pub asked_labels : List Exchange → List ℕ → Labels
asked_labels [] bytes = no_labels
asked_labels (e ∷ es) bytes = archive_labels e.asked.who e.asked.what bytes

-- What a request of the registry's own routes comes to. Only an archive has labels
abbrev pub other_labels : List Exchange → Outcome → Labels
other_labels es (Ok (Bytes bytes)) = asked_labels es bytes
other_labels es _ = no_labels
