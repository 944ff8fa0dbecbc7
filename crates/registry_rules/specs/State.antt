-- What the registry holds: finite maps under names, and nothing of how they are kept.
use Rattle.std.specs.Prelude.{ℕ, Bool, true, false, not, ◌&&◌, List, [], ◌∷◌, filter, codes, is_some, Option, Some, None}
use Rattle.registry_names.specs.Tags.{latest}
use Rattle.std.specs.List.{list_any}
use Rattle.registry_names.specs.Texts.{Text, is}
use Rattle.registry_names.specs.Maps.{PairMap, empty, at, entries, keys, of}
use Rattle.registry_names.specs.Versions.{text_of_version}
use Rattle.registry_access.specs.Access.{Access}
use Rattle.registry_access.specs.Callers.{is_maintainer, role_of}
use Rattle.registry_access.specs.Levels.{is_owner}
use Rattle.registry_access.specs.declared.caller.Caller.{Caller}
use Rattle.registry_access.specs.declared.role.Role.{Role}
use Rattle.registry_rules.specs.declared.request.Asked.{Asked}
use Rattle.registry_rules.specs.declared.request.Asked.TheVariants.{Exact, Latest}

-- a version that was published and not withdrawn
pub record Release : Type 0 where
  -- when it was published, in seconds
  pub at : ℕ
  pub manifest : Text
  pub archive : List ℕ
  -- of its deprecation; empty where it isn't deprecated
  pub message : Text

-- a version that was withdrawn: when it was published, and when withdrawn, in seconds
pub record Withdrawal : Type 0 where
  pub published : ℕ
  pub withdrawn : ℕ

pub record State : Type 0 where
  pub access : Access
  -- under package and version
  pub live : PairMap Release
  -- under package and version
  pub spent : PairMap Withdrawal
  -- the version that a tag names, under package and tag
  pub tags : PairMap Text

abbrev pub no_access : Access
no_access = record { users = empty; tokens = empty; organisations = empty; roles = empty; teams = empty; team_members = empty; grants = empty; statuses = empty; maintainers = empty }

-- the team that each organisation has
abbrev pub developers : Text
developers = codes "developers"

-- a registry of which nothing was asked yet
abbrev pub nothing : State
nothing = record { access = no_access; live = empty; spent = empty; tags = empty }

-- ---- what is asked of it

abbrev pub is_empty : {X : Type 0} → List X → Bool
is_empty [] = true
is_empty (x ∷ xs) = false

-- the user is there
abbrev pub has_user : State → Text → Bool
has_user S u = is_some (at S.access.users u)

-- the user is a member of the organisation
abbrev pub is_member : State → Text → Text → Bool
is_member S o u = is_some (at S.access.roles (o, u))

-- the organisation has the team
abbrev pub has_team : State → Text → Text → Bool
has_team S o t = is_some (at S.access.teams (o, t))

-- the user is in the team
abbrev pub is_in_team : State → Text → Text → Text → Bool
is_in_team S o t u = is_some (at S.access.team_members (o, (t, u)))

-- the team is granted something on the package
abbrev pub has_grant : State → Text → Text → Text → Bool
has_grant S o t p = is_some (at S.access.grants (o, (t, p)))

-- the package was published, now or once
abbrev pub is_published : State → Text → Bool
is_published S p = is_some (at S.access.statuses p)

-- the user is a maintainer of the package
abbrev pub has_maintainer : State → Text → Text → Bool
has_maintainer S p u = is_some (at S.access.maintainers (p, u))

-- another user than this is a maintainer of the package
abbrev pub has_other_maintainer : State → Text → Text → Bool
has_other_maintainer S p u = list_any (λ (e : Text × Unit {0}). not (is e.0 u)) (of S.access.maintainers p)

-- another member of the organisation than the user is an owner
abbrev pub has_other_owner : State → Text → Text → Bool
has_other_owner S o u = list_any (λ (e : Text × Role). not (is e.0 u) && is_owner (Some e.1)) (of S.access.roles o)

-- they are the only owner of the organisation
abbrev pub is_last_owner : State → Text → Text → Bool
is_last_owner S o u = is_owner (at S.access.roles (o, u)) && not (has_other_owner S o u)

-- Whether a package of this scope is a caller's own: they are a member of its organisation, or
-- maintain it where it has no scope
abbrev pub is_own : Access → Caller → Text → Option Text → Bool
is_own A who p None = is_maintainer A who p
is_own A who p (Some o) = is_some (role_of A who o)

-- there is a token with this digest
abbrev pub has_token : State → Text → Bool
has_token S digest = is_some (at S.access.tokens digest)

-- the digests of the user's tokens, in byte order
abbrev pub tokens_of : State → Text → List Text
tokens_of S u = keys (filter (λ (e : Text × Text). is e.1 u) (entries S.access.tokens))

-- the version lives
abbrev pub is_live : State → Text → Text → Bool
is_live S p v = is_some (at S.live (p, v))

-- the version was withdrawn
abbrev pub is_spent : State → Text → Text → Bool
is_spent S p v = is_some (at S.spent (p, v))

-- a version of the package lives
abbrev pub has_live : State → Text → Bool
has_live S p = not (is_empty (of S.live p))

-- the tag exists
abbrev pub stands : State → Text → Text → Bool
stands S p t = is_some (at S.tags (p, t))

-- the version that is asked for: this one, or the one that `latest` names, if it exists
abbrev pub asked_version : State → Text → Asked → Option Text
asked_version S p (Exact v) = Some (text_of_version v)
asked_version S p Latest = at S.tags (p, latest)

-- there is such a version, and it lives
abbrev pub lives : State → Text → Option Text → Bool
lives S p None = false
lives S p (Some v) = is_live S p v
