-- What a history says of packages, by the last entry that speaks of a thing, and a state for which
-- this holds. No reading uses a definition of what a step makes: each is a recursion over the
-- entries, and an entry that speaks of something else says nothing.
--
-- | Reading           | Given by                               | Ended by                        |
-- |-------------------|----------------------------------------|---------------------------------|
-- | `published`       | a publish                              | nothing                         |
-- | `withdrawn`       | a withdrawal                           | nothing                         |
-- | `recorded`        | a publish; a deprecation that selects  | the version's withdrawal        |
-- |                   | the version changes its message        |                                 |
-- | `last_withdrawal` | a withdrawal of a recorded version     | nothing                         |
-- | `other_tag`       | a publish under it, a set tag          | a removed tag, the withdrawal   |
-- |                   |                                        | of its version                  |
-- | `latest_tag`      | a publish under it, or under any where | nothing: a withdrawal of its    |
-- |                   | there was none; a set tag              | version moves it to the         |
-- |                   |                                        | greatest that lives, if any     |
-- | `status`          | a publish, which may ask for one; a    | nothing                         |
-- |                   | change of access                       |                                 |
use Rattle.std.specs.Prelude.{◌≡◌, ◌↔◌, ℕ, Bool, true, false, not, ◌&&◌, ◌||◌, List, [], ◌∷◌, ◌++◌, map, filter, is_some, is_none, option_map, unwrap_or, Option, Some, None, if◌then◌else◌, IsTrue}
use Rattle.std.specs.List.{list_any}
use Rattle.registry_names.specs.Texts.{Text, is}
use Rattle.registry_names.specs.Keys.{Pair, pair_is}
use Rattle.registry_names.specs.Maps.{at, among}
use Rattle.registry_names.specs.Versions.{text_of_version}
use Rattle.registry_names.specs.declared.status.Status.{Status}
use Rattle.registry_names.specs.declared.status.Status.TheVariants.{Public, Restricted}
use Rattle.registry_names.specs.Names.{scope_of}
use Rattle.registry_names.specs.Tags.{latest}
use Rattle.registry_names.specs.Greatest.{greatest}
use Rattle.registry_names.specs.Precedence.{version_in}
use Rattle.registry_ranges.specs.Selectors.{Condition, set_selects}
use Rattle.registry_rules.specs.State.{State, Release, Withdrawal, is_live}
use Rattle.registry_rules.specs.declared.request.Action.{Action}
use Rattle.registry_rules.specs.declared.request.Action.TheVariants.{SetAccess, Publish, TagSet, TagRemove, Withdraw, WithdrawAll, Deprecate}
use Rattle.registry_laws_history.specs.History.{Entry}

-- what is said first, or else what was said before
abbrev pub or_before : {X : Type 0} → Option X → Option X → Option X
or_before None before = before
or_before (Some x) before = Some x

-- what was there before, unless it is ended
abbrev pub unless_ended : {X : Type 0} → Bool → Option X → Option X
unless_ended ended before = if ended then None else before

-- ---- versions

-- the package and version that a command publishes, in front of others
abbrev pub published_by : Action → List Pair → List Pair
published_by (Publish f) ks = (f.name, text_of_version f.version) ∷ ks
published_by _ ks = ks

-- each package and version ever published
abbrev pub published : List Entry → List Pair
published [] = []
published (e ∷ h) = published_by e.what (published h)

-- the pairs of this package
abbrev pub pairs_under : List Pair → Text → List Pair
pairs_under ks p = filter (λ (k : Pair). is k.0 p) ks

-- The package and version that a command withdraws, in front of others. Where it withdraws all of a
-- package, no version that was published before is left
abbrev pub withdrawn_by : List Pair → Action → List Pair → List Pair
withdrawn_by before (Withdraw p v) ks = (p, text_of_version v) ∷ ks
withdrawn_by before (WithdrawAll p) ks = pairs_under before p ++ ks
withdrawn_by before _ ks = ks

-- each package and version ever withdrawn
abbrev pub withdrawn : List Entry → List Pair
withdrawn [] = []
withdrawn (e ∷ h) = withdrawn_by (published h) e.what (withdrawn h)

-- whether it was published and not withdrawn
abbrev pub remains : List Entry → Pair → Bool
remains h k = among pair_is (published h) k && not (among pair_is (withdrawn h) k)

-- no pair occurs twice
abbrev pub IsOnce : List Pair → Type 0
IsOnce [] = Unit {0}
IsOnce (k ∷ ks) = (among pair_is ks k ≡ false) × IsOnce ks

-- whether the conditions of a selector select the version of this text
abbrev pub chooses : List (List Condition) → Text → Bool
chooses conditions v = unwrap_or (option_map (λ parts. set_selects parts conditions) (version_in v)) false

-- what a command at this moment records of a package's version: what its publish says of it
abbrev pub records : ℕ → Action → Pair → Option Release
records now (Publish f) k = if pair_is (f.name, text_of_version f.version) k
    then Some (record { at = now; manifest = f.manifest; archive = f.archive; message = [] }) else None
records now _ k = None

-- whether a command withdraws the version
abbrev pub withdraws : Action → Pair → Bool
withdraws (Withdraw p v) k = pair_is (p, text_of_version v) k
withdraws (WithdrawAll p) k = is p k.0
withdraws _ k = false

-- a record, if there is one, with this message
abbrev pub noted : Text → Option Release → Option Release
noted message None = None
noted message (Some release) = Some (record release { message = message })

-- What is recorded of a version after a command: a deprecation whose selector selects it changes
-- its message, and nothing else
abbrev pub revised : Action → Pair → Option Release → Option Release
revised (Deprecate p conditions message) k old = if is p k.0 && chooses conditions k.1 then noted message old else old
revised _ k old = old

-- what the last publish of a package's version recorded, with the message of the last deprecation
-- since that selects it, unless it was withdrawn since
abbrev pub recorded : List Entry → Pair → Option Release
recorded [] k = None
recorded (e ∷ h) k = or_before (records e.at e.what k) (unless_ended (withdraws e.what k) (revised e.what k (recorded h k)))

-- ---- withdrawals

-- the moments of a version that was recorded so, where it is withdrawn now
abbrev pub moments_if : Bool → ℕ → Option Release → Option Withdrawal
moments_if here now None = None
moments_if here now (Some release) = if here then Some (record { published = release.at; withdrawn = now }) else None

-- those of a version that this command withdraws, which was recorded so before
abbrev pub withdrawal_by : ℕ → Action → Pair → Option Release → Option Withdrawal
withdrawal_by now (Withdraw p v) k before = moments_if (pair_is (p, text_of_version v) k) now before
withdrawal_by now (WithdrawAll p) k before = moments_if (is p k.0) now before
withdrawal_by now _ k before = None

-- when a version was published and withdrawn
abbrev pub last_withdrawal : List Entry → Pair → Option Withdrawal
last_withdrawal [] k = None
last_withdrawal (e ∷ h) k = or_before (withdrawal_by e.at e.what k (recorded h k)) (last_withdrawal h k)

-- ---- tags

-- whether the version is named
abbrev pub is_named : Text → Option Text → Bool
is_named v None = false
is_named v (Some w) = is v w

-- the live versions of the package, the last published first
abbrev pub remaining : List Entry → Text → List Text
remaining h p = map (λ (k : Pair). k.1) (filter (λ (k : Pair). is k.0 p && remains h k) (published h))

-- the version to which a command sets a tag other than `latest`
abbrev pub sets : Action → Text → Text → Option Text
sets (Publish f) p t = if is f.name p && is f.tag t then Some (text_of_version f.version) else None
sets (TagSet q u v) p t = if is q p && is u t then Some (text_of_version v) else None
sets _ p t = None

-- whether it ends a tag, which named this version: it removes the tag, or withdraws the version, or
-- all of the package
abbrev pub ends : Action → Text → Text → Option Text → Bool
ends (TagRemove q u) p t named = is q p && is u t
ends (Withdraw q v) p t named = is q p && is_named (text_of_version v) named
ends (WithdrawAll q) p t named = is q p
ends _ p t named = false

-- the version to which it sets `latest`, which named this one before
abbrev pub sets_latest : Action → Text → Option Text → Option Text
sets_latest (Publish f) p before = if is f.name p && (is f.tag latest || is_none before) then Some (text_of_version f.version) else None
sets_latest (TagSet q u v) p before = if is q p && is u latest then Some (text_of_version v) else None
sets_latest _ p before = None

-- a tag other than `latest` names the version of the last publish under it, or to which it was set
-- since, unless it was removed since, or that version withdrawn
abbrev pub other_tag : List Entry → Text → Text → Option Text
other_tag [] p t = None
other_tag (e ∷ h) p t = or_before (sets e.what p t) (unless_ended (ends e.what p t (other_tag h p t)) (other_tag h p t))

-- whether a command withdraws the version that `latest` named, or all of the package
abbrev pub takes_latest : Action → Text → Option Text → Bool
takes_latest (Withdraw q v) p before = is q p && is_named (text_of_version v) before
takes_latest (WithdrawAll q) p before = is q p
takes_latest _ p before = false

-- `latest` names the version of the last publish under `latest`, or under any tag where there was
-- none, or to which it was set since; or, where that was withdrawn since, the greatest that was
-- live then
abbrev pub latest_tag : List Entry → Text → Option Text
latest_tag [] p = None
latest_tag (e ∷ h) p = or_before (sets_latest e.what p (latest_tag h p)) (if takes_latest e.what p (latest_tag h p) then greatest (remaining (e ∷ h) p) else latest_tag h p)

abbrev pub tag : List Entry → Text → Text → Option Text
tag h p t = if is t latest then latest_tag h p else other_tag h p t

-- ---- statuses

-- the status that a command asks for, of this package
abbrev pub asked_status : Action → Text → Option Status
asked_status (SetAccess q status) p = if is q p then Some status else None
asked_status (Publish f) p = if is f.name p then f.access else None
asked_status _ p = None

-- the status that was asked for last
abbrev pub last_asked : List Entry → Text → Option Status
last_asked [] p = None
last_asked (e ∷ h) p = or_before (asked_status e.what p) (last_asked h p)

-- whether a version of the package was ever published
abbrev pub was_published : List Entry → Text → Bool
was_published h p = list_any (λ k. is k.0 p) (published h)

-- a package has the status that was asked for last. Where none ever was, it is restricted where its
-- name has a scope, and public otherwise
abbrev pub status : List Entry → Text → Option Status
status h p = if was_published h p
    then or_before (last_asked h p) (Some (if is_some (scope_of p) then Restricted else Public)) else None

-- ---- a state of which the history speaks

-- The versions ever published are exactly the live and the withdrawn ones, none was published
-- twice, and none is both.
pub record HasVersions (h : List Entry) (S : State) : Type 0 where
  pub once : IsOnce (published h)
  pub live : (k : Pair) → is_some (at S.live k) ≡ remains h k
  pub spent : (k : Pair) → is_some (at S.spent k) ≡ among pair_is (withdrawn h) k
  pub together : (k : Pair) → (is_some (at S.live k) || is_some (at S.spent k)) ≡ among pair_is (published h) k
  pub apart : (k : Pair) → (is_some (at S.live k) && is_some (at S.spent k)) ≡ false

-- Each live version is what its publish recorded: its manifest, its archive and its moment, with
-- the message of its last deprecation. Each withdrawn one has the moments of its publish and of its
-- withdrawal.
pub record HasRecords (h : List Entry) (S : State) : Type 0 where
  pub records : (k : Pair) → at S.live k ≡ recorded h k
  pub withdrawals : (k : Pair) → at S.spent k ≡ last_withdrawal h k

-- The tags are the history's, and name live versions; `latest` exists exactly where a version
-- lives.
pub record HasTags (h : List Entry) (S : State) : Type 0 where
  pub tags : (p t : Text) → at S.tags (p, t) ≡ tag h p t
  pub named : (p t v : Text) → at S.tags (p, t) ≡ Some v → is_live S p v ≡ true
  pub stands : (p : Text) → IsTrue (is_some (at S.tags (p, latest))) ↔ ((v : Text) × IsTrue (is_live S p v))

-- The statuses are the history's, and a package without a scope is public.
pub record HasStatuses (h : List Entry) (S : State) : Type 0 where
  pub statuses : (p : Text) → at S.access.statuses p ≡ status h p
  pub unscoped : (p : Text) → scope_of p ≡ None → is_some (at S.access.statuses p) ≡ true → at S.access.statuses p ≡ Some Public
