-- What a document may change, in the words of versions, messages and maintainers.
use Rattle.std.specs.Prelude.{◌≡◌, ◌≢◌, ⊤, true, false, ◌⊎◌, List, [], ◌∷◌, Option, Some, None, Ok, Err, codes}
use Rattle.serde_json.specs.Data.{Data, Members, no_members, member}
use Rattle.registry_names.specs.Texts.{Text}
use Rattle.registry_names.specs.declared.refusal.Refusal.TheVariants.{BadBody, Stale}
use Rattle.registry_documents.specs.Differences.{all_say, selector_of, asked_of_owners, asked_of_package, besides, has_tags_without, lost, message_of, news, same_manifest, same_names, same_tags, says_the_same}
use Rattle.registry_documents.specs.Documents.{is_of}
use Rattle.registry_documents.specs.Judging.{asked_in, judged}
use Rattle.registry_documents.specs.Values.{within}
use Rattle.registry_documents.specs.declared.asked.Asked.{Asked}
use Rattle.registry_documents.specs.declared.asked.Asked.TheVariants.{AlreadySo, Deprecation, Withdrawal, OwnerAdd, OwnerRemove}
use Rattle.registry_documents.specs.declared.news.News.{News}

-- ---- revisions

-- A document of another revision asks for nothing: it is accepted where it says what is there, and
-- else refused as stale.
abbrev pub LateAsksNothing : Type 0
LateAsksNothing = (w d : Data) (path : Option Text) (present : List Text) (revision : Text) → is_of revision path w ≡ false
    → ((asked_in w d present ≡ Some AlreadySo) × (judged w path d present revision ≡ Ok AlreadySo))
    ⊎ ((asked_in w d present ≢ Some AlreadySo) × (judged w path d present revision ≡ Err Stale))

-- A document of the present revision is accepted where it asks for something, and else refused as a
-- bad body.
abbrev pub PresentIsHeard : Type 0
PresentIsHeard = (w d : Data) (path : Option Text) (present : List Text) (revision : Text) → is_of revision path w ≡ true
    → ((asked : Asked) → asked_in w d present ≡ Some asked → judged w path d present revision ≡ Ok asked)
    × (asked_in w d present ≡ None → judged w path d present revision ≡ Err BadBody)

-- ---- whole packages

-- each member has this
abbrev pub AllMembers : (Text → Data → Type 0) → Members → Type 0
AllMembers P no_members = ⊤
AllMembers P (member k d ms) = P k d × AllMembers P ms

-- the document w has the version v with the manifest that is there, but for its message
pub record IsKept (w : Data) (v : Text) (present : Data) : Type 0 where
  pub wanted : Data
  pub there : within (codes "versions") v w ≡ Some wanted
  pub same : same_manifest wanted present ≡ true

-- it is kept, with the message that it has
abbrev pub KeepsMessage : Data → Text → Data → Type 0
KeepsMessage w v present = (k : IsKept w v present) × (message_of k.wanted ≡ message_of present)

-- it is kept, with the message that it has or with the new one
abbrev pub HasMessage : Data → Text → Text → Data → Type 0
HasMessage w m v present = (k : IsKept w v present) × ((message_of k.wanted ≡ message_of present) ⊎ (message_of k.wanted ≡ Some m))

-- nothing else differs
pub record IsElseTheSame (w d : Data) (vs : Members) (present names : List Text) : Type 0 where
  pub members : says_the_same w d vs true ≡ true
  pub maintainers : same_names present names ≡ true

-- What differs is one new message for some versions, which the selector lists, or selects with all
-- others where these have it, too; all versions are kept.
pub record IsDeprecation (w d : Data) (vs : Members) (present names : List Text) (selector message : Text) : Type 0 where
  pub first : News
  pub others : List News
  pub are_news : news w vs ≡ first ∷ others
  pub is_selector : selector ≡ selector_of (all_say w first.message vs) first others
  pub is_message : message ≡ first.message
  pub versions : AllMembers (HasMessage w message) vs
  pub tags : same_tags w d ≡ true
  pub other : IsElseTheSame w d vs present names

abbrev pub DeprecationsChangeMessages : Type 0
DeprecationsChangeMessages = (w d : Data) (vs : Members) (present names : List Text) (selector message : Text)
    → asked_of_package w d vs present names ≡ Some (Deprecation selector message) → IsDeprecation w d vs present names selector message

-- the version u is v and missing, or it is kept with its message
abbrev pub IsLostOrKept : Data → Text → Text → Data → Type 0
IsLostOrKept w v u present = ((u ≡ v) × (within (codes "versions") u w ≡ None)) ⊎ KeepsMessage w u present

-- What differs is one version of those that there are, and the tags as its withdrawal leaves them.
pub record IsWithdrawal (w d : Data) (vs : Members) (present names : List Text) (version : Text) : Type 0 where
  pub is_lost : lost w vs ≡ version ∷ []
  pub versions : AllMembers (IsLostOrKept w version) vs
  pub tags : has_tags_without version vs w d ≡ true
  pub other : IsElseTheSame w d vs present names

abbrev pub WithdrawalsTakeOneVersion : Type 0
WithdrawalsTakeOneVersion = (w d : Data) (vs : Members) (present names : List Text) (version : Text)
    → asked_of_package w d vs present names ≡ Some (Withdrawal version) → IsWithdrawal w d vs present names version

-- ---- maintainers

-- One name is more and none is less, or the other way round.
abbrev pub OwnersChangeByOne : Type 0
OwnersChangeByOne = (w d : Data) (present names : List Text) (user : Text)
    → (asked_of_owners w d present names ≡ Some (OwnerAdd user) → (besides present names ≡ user ∷ []) × (besides names present ≡ []))
    × (asked_of_owners w d present names ≡ Some (OwnerRemove user) → (besides present names ≡ []) × (besides names present ≡ user ∷ []))
