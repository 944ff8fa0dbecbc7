-- What holds of all that the registry comes to hold, from nothing on: of each entry of each map,
-- and of its key.
use Rattle.std.specs.Prelude.{◌≡◌, ◌≤◌, false, length, Some, None, IsSome, IsTrue}
use Rattle.registry_names.specs.Idents.{is_ident}
use Rattle.registry_names.specs.Maps.{at}
use Rattle.registry_names.specs.Messages.{is_message}
use Rattle.registry_names.specs.Moments.{last_second}
use Rattle.registry_names.specs.Names.{IsName}
use Rattle.registry_names.specs.Tags.{is_tag, latest}
use Rattle.registry_names.specs.Texts.{Text}
use Rattle.registry_names.specs.Versions.{VersionParts, IsVersion, IsVersionOf}
use Rattle.registry_access.specs.Access.{Access}
use Rattle.registry_access.specs.Hiding.{UnscopedArePublic}
use Rattle.registry_names.specs.Names.{scope_of}
use Rattle.registry_access.specs.declared.role.Role.TheVariants.{Owner}
use Rattle.registry_publish.specs.Form.{IsManifestText}
use Rattle.registry_rules.specs.State.{State, Release, Withdrawal, developers, is_live}

-- ---- packages

-- the release may be under this package and version
pub record IsReleaseOf (p v : Text) (release : Release) : Type 0 where
  pub name : IsName p
  pub version : VersionParts
  pub is_version : IsVersionOf v version
  pub manifest : IsManifestText p version release.manifest
  pub at : release.at ≤ last_second
  pub message : IsTrue (is_message release.message)

-- The withdrawal may be under this package and version, which was published and doesn't live
pub record IsWithdrawalOf (S : State) (p v : Text) (withdrawal : Withdrawal) : Type 0 where
  pub name : IsName p
  pub version : IsVersion v
  pub published : withdrawal.published ≤ last_second
  pub withdrawn : withdrawal.withdrawn ≤ last_second
  pub status : IsSome (at S.access.statuses p)
  pub gone : is_live S p v ≡ false

-- the tag may be under this package, and names this version, which lives
pub record IsTagOf (S : State) (p t v : Text) : Type 0 where
  pub name : IsName p
  pub tag : IsTrue (is_tag t)
  pub live : IsTrue (is_live S p v)

-- ---- who is there, and what they may do

-- each name is in form, and a digest has 32 bytes
pub record IsSpelled (A : Access) : Type 0 where
  pub users : (u : Text) → IsSome (at A.users u) → IsTrue (is_ident u)
  pub tokens : (digest : Text) → IsSome (at A.tokens digest) → length digest ≡ 32
  pub organisations : (o : Text) → IsSome (at A.organisations o) → IsTrue (is_ident o)
  pub teams : (o t : Text) → IsSome (at A.teams (o, t)) → IsTrue (is_ident t)
  pub statuses : (p : Text) → IsSome (at A.statuses p) → IsName p

-- the team may be granted something on the package, which is of its organisation's scope
pub record IsGrant (A : Access) (o t p : Text) : Type 0 where
  pub team : IsSome (at A.teams (o, t))
  pub status : IsSome (at A.statuses p)
  pub scope : scope_of p ≡ Some o

-- references hold, and what each organisation and each package needs is there
pub record IsSound (A : Access) : Type 0 where
  -- a token is a user's
  pub tokens : (digest u : Text) → at A.tokens digest ≡ Some u → IsSome (at A.users u)
  -- a member is a user, and their organisation is there
  pub roles : (o u : Text) → IsSome (at A.roles (o, u)) → IsSome (at A.organisations o) × IsSome (at A.users u)
  -- an organisation has an owner, and its first team
  pub owners : (o : Text) → IsSome (at A.organisations o) → (u : Text) × (at A.roles (o, u) ≡ Some Owner)
  pub first_teams : (o : Text) → IsSome (at A.organisations o) → IsSome (at A.teams (o, developers))
  pub teams : (o t : Text) → IsSome (at A.teams (o, t)) → IsSome (at A.organisations o)
  -- a user who is in a team is a member of its organisation
  pub team_members : (o t u : Text) → IsSome (at A.team_members (o, (t, u))) → IsSome (at A.teams (o, t)) × IsSome (at A.roles (o, u))
  pub grants : (o t p : Text) → IsSome (at A.grants (o, (t, p))) → IsGrant A o t p
  -- a maintainer is a user, and their package was published
  pub maintainers : (p u : Text) → IsSome (at A.maintainers (p, u)) → IsSome (at A.statuses p) × IsSome (at A.users u)
  -- a package without a scope is public, and has a maintainer
  pub unscoped : UnscopedArePublic A
  pub maintained : (p : Text) → IsSome (at A.statuses p) → scope_of p ≡ None → (u : Text) × IsSome (at A.maintainers (p, u))

-- ---- all of it

pub record IsKept (S : State) : Type 0 where
  pub live : (p v : Text) (release : Release) → at S.live (p, v) ≡ Some release → IsReleaseOf p v release
  pub spent : (p v : Text) (withdrawal : Withdrawal) → at S.spent (p, v) ≡ Some withdrawal → IsWithdrawalOf S p v withdrawal
  pub tags : (p t v : Text) → at S.tags (p, t) ≡ Some v → IsTagOf S p t v
  -- a package with a live version has a status and a tag `latest`
  pub status : (p v : Text) → IsTrue (is_live S p v) → IsSome (at S.access.statuses p)
  pub latest : (p v : Text) → IsTrue (is_live S p v) → IsSome (at S.tags (p, latest))
  pub spelled : IsSpelled S.access
  pub sound : IsSound S.access
