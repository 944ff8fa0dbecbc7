-- In what a document differs from what is there.
use Rattle.std.specs.Prelude.{Bool, true, false, ◌&&◌, ◌||◌, is_some, is_none, if◌then◌else◌, List, [], ◌∷◌, ◌++◌, bytes_eq, codes, flat_map, Option, Some, None, option_map, option_and_then, unwrap_or}
use Rattle.std.specs.List.{list_all, list_any}
use Rattle.serde_json.specs.Data.{Data, Members, no_members, member}
use Rattle.serde_json.specs.Find.{get, as_object, as_str}
use Rattle.registry_names.specs.Texts.{Text}
use Rattle.registry_documents.specs.Documents.{has, names_in, versions_in}
use Rattle.registry_documents.specs.Tags.{are_left}
use Rattle.registry_documents.specs.Values.{all_members, both, keys_in, members_in, same, same_but, same_found, within}
use Rattle.registry_documents.specs.declared.asked.Asked.{Asked}
use Rattle.registry_documents.specs.declared.asked.Asked.TheVariants.{AlreadySo, Deprecation, Withdrawal, OwnerAdd, OwnerRemove}
use Rattle.registry_documents.specs.declared.news.News.{News}
use Rattle.registry_documents.specs.declared.value.Part.TheVariants.{Any, Package, Maintainers, Manifest, Dist}

-- ---- one version

-- the message of a manifest, which is empty where nothing is deprecated; None where it isn't a text
abbrev pub message_of : Data → Option Text
message_of d = unwrap_or (option_map as_str (get (codes "deprecated") d)) (Some [])

-- both are missing, or the same but for the address of the archive
abbrev pub same_dist : Option Data → Option Data → Bool
same_dist None o = is_none o
same_dist (Some d) o = unwrap_or (option_map (λ e. same_but Dist d e || same d e) o) false

-- the manifests are the same but for the message and the address of the archive
abbrev pub same_manifest : Data → Data → Bool
same_manifest d e = same_but Manifest d e && same_dist (get (codes "dist") d) (get (codes "dist") e)

-- the document w says the same of the version v as the document d, but for the message
abbrev pub same_version : Data → Data → Text → Data → Data → Bool
same_version w d v wanted present = same_manifest wanted present && is_some (message_of wanted) && is_some (message_of present)
    && same_found (within (codes "time") v w) (within (codes "time") v d)

-- the document w lacks the version v, or says the same of it
abbrev pub is_same : Data → Data → Text → Data → Bool
is_same w d v present = unwrap_or (option_map (λ wanted. same_version w d v wanted present) (within (codes "versions") v w)) true

-- ---- all versions

-- of the versions of d, each that w has is the same but for its message
abbrev pub are_same : Data → Data → Members → Bool
are_same w d vs = all_members (is_same w d) vs

-- the version v before others, where w lacks it
abbrev pub with_lost : Data → Text → List Text → List Text
with_lost w v vs = if is_some (within (codes "versions") v w) then vs else v ∷ vs

-- the versions that w lacks
abbrev pub lost : Data → Members → List Text
lost w no_members = []
lost w (member v present vs) = with_lost w v (lost w vs)

-- a version with a message that isn't the present one, before others
abbrev pub with_news : Text → Option Text → Option Text → List News → List News
with_news v (Some m) (Some n) ns = if bytes_eq m n then ns else record { version = v; message = m } ∷ ns
with_news v (Some m) None ns = ns
with_news v None o ns = ns

-- the versions to which w gives another message
abbrev pub news : Data → Members → List News
news w no_members = []
news w (member v present vs) = with_news v (option_and_then message_of (within (codes "versions") v w)) (message_of present) (news w vs)

-- w has no version that d lacks
abbrev pub adds_none : Data → Data → Bool
adds_none w d = both (keys_in Any) (versions_in w) (get (codes "versions") d)

-- ---- maintainers

-- the name n before others, where it isn't among these
abbrev pub with_beside : List Text → Text → List Text → List Text
with_beside others n ns = if list_any (λ m. bytes_eq m n) others then ns else n ∷ ns

-- the names that aren't among others
abbrev pub besides : List Text → List Text → List Text
besides others [] = []
besides others (n ∷ ns) = with_beside others n (besides others ns)

abbrev pub is_nobody : List Text → Bool
is_nobody [] = true
is_nobody (n ∷ ns) = false

-- nobody is named who isn't a maintainer, and nobody is left out
abbrev pub same_names : List Text → List Text → Bool
same_names present names = is_nobody (besides present names) && is_nobody (besides names present)

-- what is asked for where these are left out, and nobody is added
abbrev pub owners_less : List Text → Option Asked
owners_less [] = Some AlreadySo
owners_less (u ∷ []) = Some (OwnerRemove u)
owners_less (u ∷ v ∷ us) = None

-- what is asked for where the first are added, and the second are left out
abbrev pub owners_asked : List Text → List Text → Option Asked
owners_asked [] less = owners_less less
owners_asked (u ∷ []) [] = Some (OwnerAdd u)
owners_asked (u ∷ []) (v ∷ less) = None
owners_asked (u ∷ v ∷ more) less = None

-- ---- documents of maintainers

-- all that w says but of the revision and the maintainers, d says too
abbrev pub says_no_other : Data → Data → Bool
says_no_other w d = unwrap_or (option_map (λ ms. members_in Maintainers ms d) (as_object w)) false

-- what w asks for, whose maintainers have these names, where d and these maintainers are there
abbrev pub asked_of_owners : Data → Data → List Text → List Text → Option Asked
asked_of_owners w d present names = if says_no_other w d then owners_asked (besides present names) (besides names present) else None

-- of a document that says nothing but maintainers
abbrev pub is_owners_key : Text → Data → Bool
is_owners_key k d = bytes_eq k (codes "_id") || bytes_eq k (codes "_rev") || bytes_eq k (codes "maintainers")

abbrev pub says_owners_alone : Data → Bool
says_owners_alone w = unwrap_or (option_map (all_members is_owners_key) (as_object w)) false

-- the document's maintainers are those that there are
abbrev pub names_owners : Data → List Text → Bool
names_owners w present = unwrap_or (option_map (same_names present) (names_in w)) false

-- w says that there are the maintainers who are there, and nothing else
abbrev pub repeats_owners : Data → List Text → Bool
repeats_owners w present = has (codes "maintainers") w && says_owners_alone w && names_owners w present

-- ---- documents of whole packages

-- the tags are the same
abbrev pub same_tags : Data → Data → Bool
same_tags w d = same_found (get (codes "dist-tags") w) (get (codes "dist-tags") d)

-- these tags are the others as the withdrawal of the version v leaves them
abbrev pub tags_without : Text → Members → Data → Data → Bool
tags_without v vs ts us = both (λ ms ns. keys_in Any ms us && are_left v vs ns ts) (as_object ts) (as_object us)

abbrev pub has_tags_without : Text → Members → Data → Data → Bool
has_tags_without v vs w d = both (tags_without v vs) (get (codes "dist-tags") w) (get (codes "dist-tags") d)

-- the versions, as a selector says them
abbrev pub union : News → List News → Text
union n ns = n.version ++ flat_map (λ m. codes " || " ++ m.version) ns

-- w gives this message to the version v
abbrev pub is_said : Data → Text → Text → Bool
is_said w m v = unwrap_or (option_map (λ s. bytes_eq s m) (option_and_then message_of (within (codes "versions") v w))) false

-- w gives this message to all versions
abbrev pub all_say : Data → Text → Members → Bool
all_say w m vs = all_members (λ v d. is_said w m v) vs

-- All versions where all are to have the message, some of which may have it already. So the selector
-- stays short where it would name the most versions
abbrev pub selector_of : Bool → News → List News → Text
selector_of all n ns = if all then codes "*" else union n ns

-- what is asked for where these have other messages, and all versions have the first of them, or not
abbrev pub message_asked : Bool → News → List News → Option Asked
message_asked all n ns = if list_all (λ m. bytes_eq m.message n.message) ns then Some (Deprecation (selector_of all n ns) n.message) else None

-- what is asked for where no version is missing, and these have other messages
abbrev pub messages_asked : Data → Data → Members → List News → Option Asked
messages_asked w d vs [] = if same_tags w d then Some AlreadySo else None
messages_asked w d vs (n ∷ ns) = if same_tags w d then message_asked (all_say w n.message vs) n ns else None

-- what is asked for where this version is missing
abbrev pub withdrawal_asked : Data → Data → Members → Text → Option Asked
withdrawal_asked w d vs v = if has_tags_without v vs w d then Some (Withdrawal v) else None

-- what is asked for where the first versions are missing, and the second have other messages
abbrev pub change_asked : Data → Data → Members → List Text → List News → Option Asked
change_asked w d vs [] ns = messages_asked w d vs ns
change_asked w d vs (v ∷ []) [] = withdrawal_asked w d vs v
change_asked w d vs (v ∷ []) (n ∷ ns) = None
change_asked w d vs (v ∷ u ∷ gone) ns = None

-- Beside tags, messages and missing versions w says what d says, and the same maintainers. It needn't
-- repeat when the package was modified, and may say moments of versions that aren't there.
abbrev pub says_the_same : Data → Data → Members → Bool → Bool
says_the_same w d vs maintained = same_but Package w d && same_found (within (codes "time") (codes "created") w) (within (codes "time") (codes "created") d)
    && adds_none w d && are_same w d vs && maintained

-- what w asks for, whose maintainers have these names, where d, of these versions, and these
-- maintainers are there
abbrev pub asked_of_package : Data → Data → Members → List Text → List Text → Option Asked
asked_of_package w d vs present names = if says_the_same w d vs (same_names present names) then change_asked w d vs (lost w vs) (news w vs) else None
