-- What is said to those who keep documents.
use Rattle.std.proofs.Common.{◌≡◌, ◌≢◌, ◌⊎◌, ◌∷◌, ◌∙◌, [], ℕ, Bool, true, false, List, Option, Some, None, Ok, Err, refl, sym, ap, inl, inr, if◌then◌else◌}
use Rattle.std.proofs.lemmas.Bool.{cases_Bool, false≢true}
use Rattle.registry_names.specs.Texts.{Text}
use Rattle.registry_names.specs.Versions.{VersionParts}
use Rattle.registry_names.specs.declared.stop.Stop.{Stop}
use Rattle.registry_names.specs.declared.stop.Stop.TheVariants.{Refused as Refuses, Fault as Faulted}
use Rattle.registry_routes.specs.NpmRoutes.{NpmRoute, npm_route_of}
use Rattle.registry_routes.specs.Routes.{Values}
use Rattle.registry_routes.specs.declared.npm_endpoint.NpmEndpoint.{NpmEndpoint}
use Rattle.registry_routes.specs.declared.npm_endpoint.NpmEndpoint.TheVariants as by
use Rattle.registry_rules.specs.declared.reply.Reply.TheVariants.{Bytes, Count, Created, Doc, Done, Refused}
use Rattle.registry_rules.specs.declared.request.Action.{Action}
use Rattle.registry_rules.specs.declared.request.Action.TheVariants as action
use Rattle.registry_rules.specs.declared.request.Action.TheVariants.{AbbreviatedPackument, Archive, RevisedPackument}
use Rattle.registry_rules.specs.declared.request.Credential.{Credential}
use Rattle.registry_rules.specs.declared.request.Credential.TheVariants.{Anonymous, Operator, Token, User}
use Rattle.registry_rules.specs.declared.request.Request.{Request}
use Rattle.registry_service.specs.HttpAnswers.{Outcome}
use Rattle.registry_service.specs.Readings.{Reading}
use Rattle.registry_service.specs.Turns.{AsksByRoute, Exchange, exchange, stopped}
use Rattle.registry_wire.specs.MediaRanges.{accepts_abbreviated}
use Rattle.registry_wire.specs.Responses.{no_labels}
use Rattle.registry_wire.specs.declared.labels.Caching.TheVariants.{Shared}
use Rattle.registry_wire.specs.declared.labels.Labels.{Labels}
use Rattle.registry_wire.specs.declared.wanted.FieldValue.{FieldValue}
use Rattle.registry_wire.specs.declared.wanted.Wanted.{Wanted}
use Rattle.registry_npm.specs.LabelLaws.{AbbreviatedAreShown, ArchivesKeepTags, AsksArchive, ContentTagsAreTags, IsAbbreviated, IsTagged, OnlyReadsAreLabelled, RefusalsHaveNoLabels, SharedIsPublic, TagsAreRevisions}
use Rattle.registry_npm.specs.Labels.{abbreviated_labels, archive_caching, archive_labels, asked_labels, full_labels, is_packument, of_document, other_labels, own_labels, packument_labels, tag_in}
use Rattle.registry_npm.specs.Laws.{is_npms_by}
use Rattle.registry_npm.specs.Leading.{Leads, asks, ends, is_stop, reading, request}
use Rattle.registry_npm.specs.Npm.{asks_by, is_npms, labels_by, leads}
use Rattle.registry_npm.proofs.CallerFacts.{routed-at}
use Rattle.registry_npm.proofs.TagFacts.{hex-is_tag, shown-tag}

-- ---- refusals

document-stopped : (says : Text → Labels) (o : Outcome) → is_stop o ≡ true → of_document says o ≡ no_labels
document-stopped says (Err fault) h = refl
document-stopped says (Ok (Refused r)) h = refl
document-stopped says (Ok Created) h = absurd (false≢true h)
document-stopped says (Ok Done) h = absurd (false≢true h)
document-stopped says (Ok (Count n)) h = absurd (false≢true h)
document-stopped says (Ok (Doc text)) h = absurd (false≢true h)
document-stopped says (Ok (Bytes bytes)) h = absurd (false≢true h)

either-one : (b : Bool) (x y z : Labels) → x ≡ z → y ≡ z → (if b then x else y) ≡ z
either-one true x y z is too = is
either-one false x y z is too = too

own-stopped : (e : NpmEndpoint) (accept : FieldValue) (o : Outcome) → is_stop o ≡ true → own_labels e accept o ≡ no_labels
own-stopped e accept o h = either-one (is_packument e) _ _ _ (either-one (accepts_abbreviated accept) _ _ _ (document-stopped abbreviated_labels o h) (document-stopped full_labels o h)) refl

-- what isn't in form is a refusal or a fault
pub form-stopped : (accept : FieldValue) (s : Stop) → no_labels ≡ packument_labels accept (stopped s)
form-stopped accept (Refuses r) = sym (either-one (accepts_abbreviated accept) _ _ _ refl refl)
form-stopped accept (Faulted fault) = sym (either-one (accepts_abbreviated accept) _ _ _ refl refl)

other-stopped : (es : List Exchange) (o : Outcome) → is_stop o ≡ true → other_labels es o ≡ no_labels
other-stopped es (Err fault) h = refl
other-stopped es (Ok (Refused r)) h = refl
other-stopped es (Ok Created) h = absurd (false≢true h)
other-stopped es (Ok Done) h = absurd (false≢true h)
other-stopped es (Ok (Count n)) h = absurd (false≢true h)
other-stopped es (Ok (Doc text)) h = absurd (false≢true h)
other-stopped es (Ok (Bytes bytes)) h = absurd (false≢true h)

stopped-by : (r : Option NpmRoute) (w : Wanted) (es : List Exchange) (o : Outcome) → is_stop o ≡ true → labels_by r w es o ≡ no_labels
stopped-by None w es o h = other-stopped es o h
stopped-by (Some r) w es o h = either-one (is_npms r.endpoint w.body) _ _ _ (own-stopped r.endpoint w.accept o h) (other-stopped es o h)

pub refusals_have_no_labels : RefusalsHaveNoLabels
refusals_have_no_labels w es o h = stopped-by (npm_route_of w.method w.target) w es o h

-- ---- packuments

exchange-is : (e : Exchange) (r : Request) (c : Outcome) → e.asked ≡ r → e.outcome ≡ c → e ≡ exchange r c
exchange-is e r c same came = rw (← same, ← came) refl

stopped-no : (s : Stop) (doc : Text) → ◌≢◌ {A = Outcome} (Ok (Doc doc)) (stopped s)
stopped-no (Refuses r) doc is = absurd (cc)
stopped-no (Faulted fault) doc is = absurd (cc)

read-reading : {A B : Type 0} (reads : Reading A) (next : A → Leads) (es : List Exchange) (doc : Text) → ((a : A) → next a es (Ok (Doc doc)) → B) → reading reads next es (Ok (Doc doc)) → B
unfolding reading
read-reading reads next es doc f (inl (a, r, h)) = f a h
read-reading reads next es doc f (inr (s, r, h)) = absurd (stopped-no s doc h.1)

abbrev Tagged : ℕ → List Exchange → Text → Type 0
Tagged at es doc = IsTagged at es doc (full_labels doc)

-- what holds of a packument that is read and its labels
record IsShown (w : Wanted) (at : ℕ) (es : List Exchange) (doc : Text) (labels : Labels) : Type 0 where
  full : accepts_abbreviated w.accept ≡ false → IsTagged at es doc labels
  abbreviated : accepts_abbreviated w.accept ≡ true → IsAbbreviated at es doc labels

-- one query was asked, and its answer is shown
one-asked : (r : Request) (es : List Exchange) (doc : Text) → asks r ends es (Ok (Doc doc)) → es ≡ exchange r (Ok (Doc doc)) ∷ []
unfolding asks
one-asked r [] doc h = absurd h
one-asked r (e ∷ es) doc h = rw (h.1.0, exchange-is e r (Ok (Doc doc)) h.0 (sym h.1.1)) refl

abbreviated-read : (p : Text) (at : ℕ) (who : Credential) (es : List Exchange) (doc : Text) → asks (request at who (AbbreviatedPackument p)) ends es (Ok (Doc doc)) → IsAbbreviated at es doc (abbreviated_labels doc)
abbreviated-read p at who es doc h = record {
  who = who;
  name = p;
  asked = one-asked (request at who (AbbreviatedPackument p)) es doc h;
  labels_of_text = refl;
}

full-read : (p : Text) (at : ℕ) (who : Credential) (es : List Exchange) (doc : Text) → asks (request at who (RevisedPackument p)) ends es (Ok (Doc doc)) → Tagged at es doc
full-read p at who es doc h = record {
  who = who;
  name = p;
  asked = one-asked (request at who (RevisedPackument p)) es doc h;
  tag = λ text names is. ap tag_in is ∙ shown-tag text names;
  caching = refl;
  form = refl;
}

full-shown : (v : Values) (w : Wanted) (at : ℕ) (es : List Exchange) (doc : Text) → accepts_abbreviated w.accept ≡ false → leads by.Packument v w at es (Ok (Doc doc)) → Tagged at es doc
full-shown v w at es doc full h =
    read-reading _ _ es doc (λ p k. read-reading _ _ es doc (λ who l. full-read p at who es doc l) (rw full at k)) h

abbreviated-shown : (v : Values) (w : Wanted) (at : ℕ) (es : List Exchange) (doc : Text) → accepts_abbreviated w.accept ≡ true → leads by.Packument v w at es (Ok (Doc doc)) → IsAbbreviated at es doc (abbreviated_labels doc)
abbreviated-shown v w at es doc accepts h =
    read-reading _ _ es doc (λ p k. read-reading _ _ es doc (λ who l. abbreviated-read p at who es doc l) (rw accepts at k)) h

packument-shown : (v : Values) (w : Wanted) (at : ℕ) (es : List Exchange) (doc : Text) → leads by.Packument v w at es (Ok (Doc doc)) → IsShown w at es doc (packument_labels w.accept (Ok (Doc doc)))
packument-shown v w at es doc h = record {
  full = λ is. rw is (full-shown v w at es doc is h);
  abbreviated = λ is. rw is (abbreviated-shown v w at es doc is h);
}

shown-by : (e : NpmEndpoint) (v : Values) (w : Wanted) (at : ℕ) (es : List Exchange) (doc : Text) → e ≡ by.Packument → asks_by (Some (record { endpoint = e; values = v })) w at es (Ok (Doc doc))
    → IsShown w at es doc (labels_by (Some (record { endpoint = e; values = v })) w es (Ok (Doc doc)))
shown-by e v w at es doc is h = rw is (packument-shown v w at es doc (rw is at h))

shown-found : (x : Option NpmRoute) (r : NpmRoute) (w : Wanted) (at : ℕ) (es : List Exchange) (doc : Text) → x ≡ Some r → r.endpoint ≡ by.Packument → asks_by x w at es (Ok (Doc doc))
    → IsShown w at es doc (labels_by x w es (Ok (Doc doc)))
shown-found None r w at es doc e is h = absurd (cc)
shown-found (Some x) r w at es doc e is h =
    let same : x ≡ r = cc in
    shown-by x.endpoint x.values w at es doc (ap (λ (y : NpmRoute). y.endpoint) same ∙ is) h

pub tags_are_revisions : TagsAreRevisions
tags_are_revisions w at es doc r found is full h = (shown-found (npm_route_of w.method w.target) r w at es doc found is h).full full

pub abbreviated_are_shown : AbbreviatedAreShown
abbreviated_are_shown w at es doc r found is accepts h = (shown-found (npm_route_of w.method w.target) r w at es doc found is h).abbreviated accepts

-- ---- archives

pub kept-by : (r : Option NpmRoute) (w : Wanted) (es : List Exchange) (o : Outcome) → is_npms_by r w.body ≡ false → labels_by r w es o ≡ other_labels es o
kept-by None w es o h = refl
kept-by (Some r) w es o h = ap (λ b. if b then own_labels r.endpoint w.accept o else other_labels es o) h

pub own-by : (r : NpmRoute) (w : Wanted) (es : List Exchange) (o : Outcome) → is_npms r.endpoint w.body ≡ true → labels_by (Some r) w es o ≡ own_labels r.endpoint w.accept o
own-by r w es o h = ap (λ b. if b then own_labels r.endpoint w.accept o else other_labels es o) h

pub archives_keep_tags : ArchivesKeepTags
archives_keep_tags w at who p v bytes h =
    kept-by (npm_route_of w.method w.target) w (exchange (request at who (Archive p v)) (Ok (Bytes bytes)) ∷ []) (Ok (Bytes bytes)) h

pub content_tags_are_tags : ContentTagsAreTags
content_tags_are_tags bytes = hex-is_tag bytes

-- ---- what is shared

shared-who : (who : Credential) → archive_caching who ≡ Shared → who ≡ Anonymous
shared-who Anonymous h = refl
shared-who Operator h = absurd (cc)
shared-who (User u) h = absurd (cc)
shared-who (Token digest) h = absurd (cc)

-- only what is asked for by nobody in particular is shared, and only an archive
abbrev IsPublic : Credential → Action → Type 0
IsPublic who what = (p : Text) × (v : VersionParts) × (who ≡ Anonymous) × (what ≡ action.Archive p v)

shared-archive : (who : Credential) (what : Action) (bytes : List ℕ) → (archive_labels who what bytes).caching ≡ Shared → IsPublic who what
shared-archive who (action.Archive p v) bytes h = (p, v, shared-who who h, refl)
shared-archive who _ bytes h = absurd (cc)

either-unshared : (b : Bool) (x y : Labels) → (x.caching ≡ Shared → ⊥) → (y.caching ≡ Shared → ⊥) → (if b then x else y).caching ≡ Shared → ⊥
either-unshared true x y is too = is
either-unshared false x y is too = too

none-unshared : no_labels.caching ≡ Shared → ⊥
none-unshared h = cc

document-unshared : (says : Text → Labels) (o : Outcome) → ((text : Text) → (says text).caching ≡ Shared → ⊥) → (of_document says o).caching ≡ Shared → ⊥
document-unshared says (Ok (Doc text)) f h = f text h
document-unshared says (Err fault) f h = cc
document-unshared says (Ok (Refused r)) f h = cc
document-unshared says (Ok Created) f h = cc
document-unshared says (Ok Done) f h = cc
document-unshared says (Ok (Count n)) f h = cc
document-unshared says (Ok (Bytes bytes)) f h = cc

own-shared : (e : NpmEndpoint) (accept : FieldValue) (o : Outcome) → (own_labels e accept o).caching ≡ Shared → ⊥
own-shared e accept o = either-unshared (is_packument e) _ _
    (either-unshared (accepts_abbreviated accept) _ _ (document-unshared abbreviated_labels o (λ text h. cc)) (document-unshared full_labels o (λ text h. cc))) none-unshared

-- an exchange that was for an archive, by nobody in particular
abbrev AsksPublicly : List Exchange → Type 0
AsksPublicly [] = ⊥
AsksPublicly (e ∷ es) = IsPublic e.asked.who e.asked.what

asked-shared : (es : List Exchange) (bytes : List ℕ) → (asked_labels es bytes).caching ≡ Shared → AsksPublicly es
asked-shared [] bytes h = cc
asked-shared (e ∷ es) bytes h = shared-archive e.asked.who e.asked.what bytes h

other-shared : (es : List Exchange) (o : Outcome) → (other_labels es o).caching ≡ Shared → AsksPublicly es
other-shared es (Ok (Bytes bytes)) h = asked-shared es bytes h
other-shared es (Ok (Doc text)) h = absurd (cc)
other-shared es (Err fault) h = absurd (cc)
other-shared es (Ok (Refused r)) h = absurd (cc)
other-shared es (Ok Created) h = absurd (cc)
other-shared es (Ok Done) h = absurd (cc)
other-shared es (Ok (Count n)) h = absurd (cc)

abbrev Publicly : ℕ → List Exchange → Outcome → Type 0
Publicly at es o = (p : Text) × (v : VersionParts) × (es ≡ exchange (request at Anonymous (action.Archive p v)) o ∷ [])

request-is : (at : ℕ) (r : Request) (p : Text) (v : VersionParts) → r.at ≡ at → r.who ≡ Anonymous → r.what ≡ action.Archive p v → r ≡ request at Anonymous (action.Archive p v)
request-is at r p v when who what = rw (← when, ← who, ← what) refl

shared-asked : (at : ℕ) (r : Request) (o : Outcome) → r.at ≡ at → IsPublic r.who r.what → Publicly at (exchange r o ∷ []) o
shared-asked at r o when (p, v, who, what) = (p, v, ap (λ (q : Request). exchange q o ∷ []) (request-is at r p v when who what))

shared-routed : (w : Wanted) (at : ℕ) (es : List Exchange) (o : Outcome) → AsksByRoute w at es o → AsksPublicly es → Publicly at es o
shared-routed w at es o (inl (r, is, same)) h =
    let here : IsPublic r.who r.what = rw same at h in
    rw same (shared-asked at r o (routed-at w at r is) here)
shared-routed w at es o (inr (s, is, none, same)) h = absurd (let there : AsksPublicly [] = rw none at h in there)

shared-by : (r : Option NpmRoute) (w : Wanted) (at : ℕ) (es : List Exchange) (o : Outcome) → asks_by r w at es o → (labels_by r w es o).caching ≡ Shared → Publicly at es o
shared-by None w at es o h is = shared-routed w at es o h (other-shared es o is)
shared-by (Some r) w at es o h is = elim (cases_Bool (is_npms r.endpoint w.body)) [
  | inl own ↦ let there : (own_labels r.endpoint w.accept o).caching ≡ Shared = rw own at is in absurd (own-shared r.endpoint w.accept o there)
  | inr other ↦
      let there : (other_labels es o).caching ≡ Shared = rw other at is in
      let asked : AsksByRoute w at es o = rw other at h in
      shared-routed w at es o asked (other-shared es o there)
]

pub shared_is_public : SharedIsPublic
shared_is_public w at es o h is = shared-by (npm_route_of w.method w.target) w at es o h is

-- ---- what is labelled

-- an archive is asked for, by whomever
abbrev IsArchive : Action → Type 0
IsArchive what = (p : Text) × (v : VersionParts) × (what ≡ action.Archive p v)

labelled-archive : (who : Credential) (what : Action) (bytes : List ℕ) → (archive_labels who what bytes ≡ no_labels) ⊎ IsArchive what
labelled-archive who (action.Archive p v) bytes = inr (p, v, refl)
labelled-archive who _ bytes = inl refl

-- the first that was asked for is an archive
abbrev AsksFirst : List Exchange → Type 0
AsksFirst [] = ⊥
AsksFirst (e ∷ es) = IsArchive e.asked.what

asked-labelled : (es : List Exchange) (bytes : List ℕ) → (asked_labels es bytes ≡ no_labels) ⊎ AsksFirst es
asked-labelled [] bytes = inl refl
asked-labelled (e ∷ es) bytes = labelled-archive e.asked.who e.asked.what bytes

other-labelled : (es : List Exchange) (o : Outcome) → (other_labels es o ≡ no_labels) ⊎ AsksFirst es
other-labelled es (Ok (Bytes bytes)) = asked-labelled es bytes
other-labelled es (Ok (Doc text)) = inl refl
other-labelled es (Err fault) = inl refl
other-labelled es (Ok (Refused r)) = inl refl
other-labelled es (Ok Created) = inl refl
other-labelled es (Ok Done) = inl refl
other-labelled es (Ok (Count n)) = inl refl

archive-is : (at : ℕ) (r : Request) (p : Text) (v : VersionParts) → r.at ≡ at → r.what ≡ action.Archive p v → r ≡ request at r.who (action.Archive p v)
archive-is at r p v when what = rw (← when, ← what) refl

archive-asked : (w : Wanted) (at : ℕ) (es : List Exchange) (o : Outcome) → AsksByRoute w at es o → AsksFirst es → AsksArchive at es o
archive-asked w at es o (inl (r, is, same)) h =
    let here : IsArchive r.what = rw same at h in
    (r.who, here.0, here.1, same ∙ ap (λ (q : Request). exchange q o ∷ []) (archive-is at r here.0 here.1 (routed-at w at r is) here.2))
archive-asked w at es o (inr (s, is, none, same)) h = absurd (let there : AsksFirst [] = rw none at h in there)

abbrev Labelled : Wanted → ℕ → List Exchange → Outcome → Option NpmRoute → Type 0
Labelled w at es o x = (labels_by x w es o ≡ no_labels) ⊎ ((r : NpmRoute) × (x ≡ Some r) × (r.endpoint ≡ by.Packument)) ⊎ AsksArchive at es o

other-reads : (w : Wanted) (at : ℕ) (es : List Exchange) (o : Outcome) (labels : Labels) → AsksByRoute w at es o → labels ≡ other_labels es o → (labels ≡ no_labels) ⊎ AsksArchive at es o
other-reads w at es o labels h same = elim (other-labelled es o) [
  | inl none ↦ inl (same ∙ none)
  | inr first ↦ inr (archive-asked w at es o h first)
]

the-packument : (e : NpmEndpoint) → is_packument e ≡ true → e ≡ by.Packument
the-packument by.Packument h = refl
the-packument _ h = absurd (false≢true h)

labelled-own : (r : NpmRoute) (w : Wanted) (at : ℕ) (es : List Exchange) (o : Outcome) → is_npms r.endpoint w.body ≡ true → Labelled w at es o (Some r)
labelled-own r w at es o own = elim (cases_Bool (is_packument r.endpoint)) [
  | inl is ↦ inr (inl (r, refl, the-packument r.endpoint is))
  | inr other ↦ inl (own-by r w es o own ∙ ap (λ b. if b then packument_labels w.accept o else no_labels) other)
]

labelled-by : (x : Option NpmRoute) (w : Wanted) (at : ℕ) (es : List Exchange) (o : Outcome) → asks_by x w at es o → Labelled w at es o x
labelled-by None w at es o h = elim (other-reads w at es o (labels_by None w es o) h refl) [
  | inl none ↦ inl none
  | inr archive ↦ inr (inr archive)
]
labelled-by (Some r) w at es o h = elim (cases_Bool (is_npms r.endpoint w.body)) [
  | inl own ↦ labelled-own r w at es o own
  | inr other ↦
      let asked : AsksByRoute w at es o = rw other at h in
      elim (other-reads w at es o (labels_by (Some r) w es o) asked (kept-by (Some r) w es o other)) [
        | inl none ↦ inl none
        | inr archive ↦ inr (inr archive)
      ]
]

pub only_reads_are_labelled : OnlyReadsAreLabelled
only_reads_are_labelled w at es o h = labelled-by (npm_route_of w.method w.target) w at es o h
