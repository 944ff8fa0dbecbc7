-- What holds of what is said to those who keep documents: the laws that functions of `src/laws.rt`
-- ensure.
use Rattle.std.specs.Prelude.{◌≡◌, ◌⊎◌, ◌∷◌, [], ℕ, true, false, List, Some, Ok}
use Rattle.registry_documents.specs.Fronts.{shown_text}
use Rattle.registry_documents.specs.Revisions.{revision}
use Rattle.registry_laws_history.specs.Answers.{maintainer_names, packument_in, revised_packument}
use Rattle.registry_names.specs.Texts.{Text}
use Rattle.registry_names.specs.Versions.{VersionParts}
use Rattle.registry_packument.specs.declared.form.PackForm.TheVariants as form
use Rattle.registry_routes.specs.NpmRoutes.{NpmRoute, npm_route_of}
use Rattle.registry_routes.specs.declared.npm_endpoint.NpmEndpoint.TheVariants as by
use Rattle.registry_rules.specs.State.{State}
use Rattle.registry_rules.specs.declared.reply.Reply.TheVariants.{Bytes, Doc}
use Rattle.registry_rules.specs.declared.request.Action.TheVariants.{AbbreviatedPackument, Archive, RevisedPackument}
use Rattle.registry_rules.specs.declared.request.Credential.{Credential}
use Rattle.registry_rules.specs.declared.request.Credential.TheVariants.{Anonymous}
use Rattle.registry_service.specs.HttpAnswers.{Outcome}
use Rattle.registry_service.specs.Turns.{Exchange, exchange}
use Rattle.registry_wire.specs.EntityTags.{is_tag}
use Rattle.registry_wire.specs.MediaRanges.{accepts_abbreviated}
use Rattle.registry_wire.specs.Responses.{no_labels}
use Rattle.registry_wire.specs.declared.labels.Caching.TheVariants.{Checked, Shared}
use Rattle.registry_wire.specs.declared.labels.DocumentForm.TheVariants.{Full, Only}
use Rattle.registry_wire.specs.declared.labels.Labels.{Labels}
use Rattle.registry_wire.specs.declared.wanted.Wanted.{Wanted}
use Rattle.registry_npm.specs.Labels.{abbreviated_labels, archive_caching, content_tag, tag_in}
use Rattle.registry_npm.specs.Laws.{is_npm}
use Rattle.registry_npm.specs.Leading.{is_stop, request}
use Rattle.registry_npm.specs.Npm.{npm}

-- a refusal or a fault says nothing to those who keep documents
abbrev pub RefusalsHaveNoLabels : Type 0
RefusalsHaveNoLabels = (w : Wanted) (es : List Exchange) (o : Outcome) → is_stop o ≡ true → npm.labels w es o ≡ no_labels

-- whoever reads an archive, at this moment
abbrev pub AsksArchive : ℕ → List Exchange → Outcome → Type 0
AsksArchive at es o = (who : Credential) × (p : Text) × (v : VersionParts) × (es ≡ exchange (request at who (Archive p v)) o ∷ [])

-- a packument is read, by the one route for that
abbrev pub ReadsPackument : Wanted → Type 0
ReadsPackument w = (r : NpmRoute) × (npm_route_of w.method w.target ≡ Some r) × (r.endpoint ≡ by.Packument)

-- something is said only of a packument or an archive that is read
abbrev pub OnlyReadsAreLabelled : Type 0
OnlyReadsAreLabelled = (w : Wanted) (at : ℕ) (es : List Exchange) (o : Outcome) → npm.asks w at es o
    → (npm.labels w es o ≡ no_labels) ⊎ ReadsPackument w ⊎ AsksArchive at es o

-- What is shown is what the registry answered to the query for the packument as npm reads it. Where that
-- is the text of a packument and its maintainers, the tag is their revision
pub record IsTagged (at : ℕ) (es : List Exchange) (shown : Text) (labels : Labels) : Type 0 where
  pub who : Credential
  pub name : Text
  pub asked : es ≡ exchange (request at who (RevisedPackument name)) (Ok (Doc shown)) ∷ []
  pub tag : (text : Text) (names : List Text) → shown ≡ shown_text text names → labels.tag ≡ Some (revision text names)
  pub caching : labels.caching ≡ Checked
  pub form : labels.form ≡ Full

abbrev pub TagsAreRevisions : Type 0
TagsAreRevisions = (w : Wanted) (at : ℕ) (es : List Exchange) (shown : Text) (r : NpmRoute)
    → npm_route_of w.method w.target ≡ Some r → r.endpoint ≡ by.Packument → accepts_abbreviated w.accept ≡ false → npm.asks w at es (Ok (Doc shown))
    → IsTagged at es shown (npm.labels w es (Ok (Doc shown)))

-- what is shown of a package has as tag the revision of its packument and its maintainers
abbrev pub ShownAreTagged : Type 0
ShownAreTagged = (S : State) (p : Text) → tag_in (revised_packument S p) ≡ Some (revision (packument_in form.Full S p) (maintainer_names S p))

-- What is shown is the abbreviated packument as the registry answered it, and its labels are those of
-- its text, whoever asks
pub record IsAbbreviated (at : ℕ) (es : List Exchange) (shown : Text) (labels : Labels) : Type 0 where
  pub who : Credential
  pub name : Text
  pub asked : es ≡ exchange (request at who (AbbreviatedPackument name)) (Ok (Doc shown)) ∷ []
  pub labels_of_text : labels ≡ abbreviated_labels shown

-- who accepts the abbreviated packument is shown that
abbrev pub AbbreviatedAreShown : Type 0
AbbreviatedAreShown = (w : Wanted) (at : ℕ) (es : List Exchange) (shown : Text) (r : NpmRoute)
    → npm_route_of w.method w.target ≡ Some r → r.endpoint ≡ by.Packument → accepts_abbreviated w.accept ≡ true → npm.asks w at es (Ok (Doc shown))
    → IsAbbreviated at es shown (npm.labels w es (Ok (Doc shown)))

-- an archive has the tag of its bytes, whoever asks for it and whenever
abbrev pub ArchivesKeepTags : Type 0
ArchivesKeepTags = (w : Wanted) (at : ℕ) (who : Credential) (p : Text) (v : VersionParts) (bytes : List ℕ) → is_npm w ≡ false
    → npm.labels w (exchange (request at who (Archive p v)) (Ok (Bytes bytes)) ∷ []) (Ok (Bytes bytes))
    ≡ record { tag = Some (content_tag bytes); caching = archive_caching who; form = Only }

-- the digest of any bytes may be sent as a tag
abbrev pub ContentTagsAreTags : Type 0
ContentTagsAreTags = (bytes : List ℕ) → is_tag (content_tag bytes) ≡ true

-- what all may share is an archive that was answered to nobody in particular
abbrev pub SharedIsPublic : Type 0
SharedIsPublic = (w : Wanted) (at : ℕ) (es : List Exchange) (o : Outcome) → npm.asks w at es o → (npm.labels w es o).caching ≡ Shared
    → (p : Text) × (v : VersionParts) × (es ≡ exchange (request at Anonymous (Archive p v)) o ∷ [])
