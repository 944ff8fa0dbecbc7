-- What a history says of users, of what they are members of, and of what they may do, by the last
-- entry that speaks of it, and a state for which this holds. No reading uses a definition of what a
-- step makes: each is a recursion over the entries, and an entry that speaks of something else says
-- nothing.
--
-- | Reading       | Given by                                       | Ended by                    |
-- |---------------|------------------------------------------------|-----------------------------|
-- | `user_added`  | a new user                                     | nothing                     |
-- | `token_user`  | a new token                                    | its end, the end of all     |
-- |               |                                                | tokens of the user          |
-- | `created`     | a new organisation                             | nothing                     |
-- | `role`        | a new organisation to its first owner, a role  | the user's removal from the |
-- |               | that is given                                  | organisation                |
-- | `team_exists` | a new team; a new organisation, for            | its destruction             |
-- |               | `developers`                                   |                             |
-- | `in_team`     | an addition to the team; a new organisation    | a removal from the team or  |
-- |               | and a first role in it, for `developers`       | from the organisation, the  |
-- |               |                                                | team's destruction          |
-- | `last_grant`  | a grant; the first publish of a scope's        | a revocation, the team's    |
-- |               | package, for `developers`                      | destruction                 |
-- | `maintains`   | an addition of the maintainer; the first       | the maintainer's removal    |
-- |               | publish of a package without a scope           |                             |
use Rattle.std.specs.Prelude.{◌≡◌, Bool, false, not, ◌&&◌, ◌||◌, List, [], ◌∷◌, is_some, is_none, Option, Some, None, if◌then◌else◌}
use Rattle.registry_names.specs.Texts.{Text, is}
use Rattle.registry_names.specs.Maps.{at}
use Rattle.registry_names.specs.Names.{scope_of}
use Rattle.registry_access.specs.Access.{Access}
use Rattle.registry_access.specs.Policy.{is_theirs}
use Rattle.registry_access.specs.declared.caller.Caller.{Caller}
use Rattle.registry_access.specs.declared.caller.Caller.TheVariants.{User}
use Rattle.registry_access.specs.declared.grant.Grant.{Grant}
use Rattle.registry_access.specs.declared.grant.Grant.TheVariants.{ReadWrite}
use Rattle.registry_access.specs.declared.role.Role.{Role}
use Rattle.registry_access.specs.declared.role.Role.TheVariants.{Owner}
use Rattle.registry_rules.specs.State.{developers}
use Rattle.registry_rules.specs.declared.request.Action.{Action}
use Rattle.registry_rules.specs.declared.request.Action.TheVariants as command
use Rattle.registry_rules.specs.declared.request.Action.TheVariants.{UserAdd, TokenAdd, TokenRemove, TokensRemove, OrgCreate, OrgSet, OrgRemove, TeamCreate, TeamDestroy, TeamAdd, TeamRemove, Revoke, OwnerAdd, OwnerRemove, Publish}
use Rattle.registry_laws_history.specs.History.{Entry}
use Rattle.registry_laws_history.specs.Readings.{or_before, unless_ended, was_published}

-- ---- users and organisations, which never go, and tokens

-- whether a command adds this user
abbrev pub adds_user : Action → Text → Bool
adds_user (UserAdd v) u = is v u
adds_user _ u = false

-- whether the user was ever added
abbrev pub user_added : List Entry → Text → Bool
user_added [] u = false
user_added (e ∷ h) u = adds_user e.what u || user_added h u

-- the user to whom a command gives the token of this digest
abbrev pub gives_token : Action → Text → Option Text
gives_token (TokenAdd u d) digest = if is d digest then Some u else None
gives_token _ digest = None

-- whether a command ends the token of this digest, which was somebody's before, or nobody's
abbrev pub ends_token : Action → Option Text → Text → Bool
ends_token (TokenRemove d) before digest = is d digest
ends_token (TokensRemove u) before digest = is_theirs before u
ends_token _ before digest = false

-- the user to whom the token of this digest was given last, unless it was ended since
abbrev pub token_user : List Entry → Text → Option Text
token_user [] digest = None
token_user (e ∷ h) digest = or_before (gives_token e.what digest) (unless_ended (ends_token e.what (token_user h digest) digest) (token_user h digest))

-- whether a command creates this organisation
abbrev pub creates : Action → Text → Bool
creates (OrgCreate q u) o = is q o
creates _ o = false

-- whether the organisation was ever created
abbrev pub created : List Entry → Text → Bool
created [] o = false
created (e ∷ h) o = creates e.what o || created h o

-- ---- roles

-- The role that a command gives a user in an organisation: the user it is created with is its owner
abbrev pub gives_role : Action → Text → Text → Option Role
gives_role (OrgCreate q v) o u = if is q o && is v u then Some Owner else None
gives_role (OrgSet q v r) o u = if is q o && is v u then Some r else None
gives_role _ o u = None

-- whether it takes the user out of the organisation
abbrev pub removes : Action → Text → Text → Bool
removes (OrgRemove q v) o u = is q o && is v u
removes _ o u = false

-- a user has the role that they were given last, unless they were removed since
abbrev pub role : List Entry → Text → Text → Option Role
role [] o u = None
role (e ∷ h) o u = or_before (gives_role e.what o u) (unless_ended (removes e.what o u) (role h o u))

-- ---- teams

-- whether a command creates this team: each organisation is created with its first one
abbrev pub creates_team : Action → Text → Text → Bool
creates_team (OrgCreate q u) o t = is q o && is developers t
creates_team (TeamCreate q s) o t = is q o && is s t
creates_team _ o t = false

-- whether it destroys the team
abbrev pub destroys : Action → Text → Text → Bool
destroys (TeamDestroy q s) o t = is q o && is s t
destroys _ o t = false

-- a team exists if it was created, unless it was destroyed since
abbrev pub team_exists : List Entry → Text → Text → Bool
team_exists [] o t = false
team_exists (e ∷ h) o t = creates_team e.what o t || (not (destroys e.what o t) && team_exists h o t)

-- Whether a command brings a user into a team: the owner with whom an organisation is created, and
-- a user who is given a role in it and had none before, come into the first one
abbrev pub joins : Action → Option Role → Text → Text → Text → Bool
joins (OrgCreate q v) before o t u = is q o && (is developers t && is v u)
joins (OrgSet q v r) before o t u = is q o && (is developers t && is v u) && is_none before
joins (TeamAdd q s v) before o t u = is q o && (is s t && is v u)
joins _ before o t u = false

-- whether it takes the user out of the team: out of it alone, or out of the organisation, or the
-- team is destroyed
abbrev pub leaves : Action → Text → Text → Text → Bool
leaves (TeamRemove q s v) o t u = is q o && (is s t && is v u)
leaves (OrgRemove q v) o t u = is q o && is v u
leaves (TeamDestroy q s) o t u = is q o && is s t
leaves _ o t u = false

-- a user is in a team if a command brought them into it, unless one took them out since
abbrev pub in_team : List Entry → Text → Text → Text → Bool
in_team [] o t u = false
in_team (e ∷ h) o t u = joins e.what (role h o u) o t u || (not (leaves e.what o t u) && in_team h o t u)

-- ---- grants

-- whether the package's scope, if it has one, is the organisation's
abbrev pub is_of : Text → Option Text → Bool
is_of o None = false
is_of o (Some q) = is q o

-- What a command grants a team on a package, which was published before or wasn't: the first
-- publish of a scope's package grants the first team all
abbrev pub gives_grant : Action → Bool → Text → Text → Text → Option Grant
gives_grant (command.Grant q s r grant) before o t p = if is q o && (is s t && is r p) then Some grant else None
gives_grant (Publish f) before o t p = if is_of o (scope_of f.name) && (is developers t && is f.name p) && not before then Some ReadWrite else None
gives_grant _ before o t p = None

-- whether it ends what the team is granted on the package: that is revoked, or the team is
-- destroyed
abbrev pub ends_grant : Action → Text → Text → Text → Bool
ends_grant (Revoke q s r) o t p = is q o && (is s t && is r p)
ends_grant (TeamDestroy q s) o t p = is q o && is s t
ends_grant _ o t p = false

-- a team has on a package what it was granted last, unless that was ended since
abbrev pub last_grant : List Entry → Text → Text → Text → Option Grant
last_grant [] o t p = None
last_grant (e ∷ h) o t p = or_before (gives_grant e.what (was_published h p) o t p) (unless_ended (ends_grant e.what o t p) (last_grant h o t p))

-- ---- maintainers

-- whether the caller is this user
abbrev pub is_caller : Caller → Text → Bool
is_caller (User v) u = is v u
is_caller _ u = false

-- Whether a command of this caller makes a user a maintainer of a package, which was published
-- before or wasn't: the first publish of a package without a scope makes its publisher one
abbrev pub makes_maintainer : Caller → Action → Bool → Text → Text → Bool
makes_maintainer who (OwnerAdd q v) before p u = is q p && is v u
makes_maintainer who (Publish f) before p u = is_none (scope_of f.name) && (is f.name p && is_caller who u) && not before
makes_maintainer who _ before p u = false

-- whether it ends that
abbrev pub ends_maintainer : Action → Text → Text → Bool
ends_maintainer (OwnerRemove q v) p u = is q p && is v u
ends_maintainer _ p u = false

-- a user is a maintainer if a command made them one, unless one ended that since
abbrev pub maintains : List Entry → Text → Text → Bool
maintains [] p u = false
maintains (e ∷ h) p u = makes_maintainer e.who e.what (was_published h p) p u || (not (ends_maintainer e.what p u) && maintains h p u)

-- ---- a state of which the history speaks

-- Users, tokens, organisations, roles, teams, members of teams, grants and maintainers are the
-- history's.
pub record HasAccess (h : List Entry) (A : Access) : Type 0 where
  pub users : (u : Text) → is_some (at A.users u) ≡ user_added h u
  pub tokens : (digest : Text) → at A.tokens digest ≡ token_user h digest
  pub organisations : (o : Text) → is_some (at A.organisations o) ≡ created h o
  pub roles : (o u : Text) → at A.roles (o, u) ≡ role h o u
  pub teams : (o t : Text) → is_some (at A.teams (o, t)) ≡ team_exists h o t
  pub team_members : (o t u : Text) → is_some (at A.team_members (o, (t, u))) ≡ in_team h o t u
  pub grants : (o t p : Text) → at A.grants (o, (t, p)) ≡ last_grant h o t p
  pub maintainers : (p u : Text) → is_some (at A.maintainers (p, u)) ≡ maintains h p u
