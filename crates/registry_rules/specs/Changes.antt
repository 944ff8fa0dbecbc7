-- Changes: each is one operation on what the registry holds, and says all that it does.
use Rattle.std.specs.Prelude.{ℕ, List, [], ◌∷◌}
use Rattle.registry_names.specs.Texts.{Text}
use Rattle.registry_names.specs.Versions.{text_of_version}
use Rattle.registry_names.specs.declared.status.Status.{Status}
use Rattle.registry_access.specs.declared.grant.Grant.{Grant}
use Rattle.registry_access.specs.declared.role.Role.{Role}
use Rattle.registry_publish.specs.Form.{FormParts}
use Rattle.registry_rules.specs.Actions.{version_of}
use Rattle.registry_rules.specs.Operations.{with_user, with_token, without_token, with_organisation, with_role, without_member, with_team, without_team, with_team_member, without_team_member, with_grant, without_grant, with_maintainer, without_maintainer, with_status, with_version, retired, with_message, with_tag, without_tag}
use Rattle.registry_rules.specs.State.{State, Release}
use Rattle.registry_rules.specs.declared.change.Change as declared
use Rattle.registry_rules.specs.declared.change.Change.TheVariants as change

-- a change as values; the program's borrows them
pub data Change : Type 0 where
  AddUser : (user : Text) → Change
  -- the digest of a token, and its user
  AddToken : (digest user : Text) → Change
  DropToken : (digest : Text) → Change
  AddOrg : (organisation : Text) → Change
  -- an organisation, a user, and their role in it
  PutMember : (organisation user : Text) (role : Role) → Change
  DropMember : (organisation user : Text) → Change
  AddTeam : (organisation team : Text) → Change
  PutTeamMember : (organisation team user : Text) → Change
  DropTeamMember : (organisation team user : Text) → Change
  DropTeam : (organisation team : Text) → Change
  -- a team of an organisation, a package, and what the team is granted on it
  PutGrant : (organisation team name : Text) (grant : Grant) → Change
  DropGrant : (organisation team name : Text) → Change
  -- a package, and its maintainer
  PutOwner : (name user : Text) → Change
  DropOwner : (name user : Text) → Change
  -- a package, and its status
  PutStatus : (name : Text) (status : Status) → Change
  -- the form that is published, and when, in seconds
  AddVersion : (form : FormParts) (at : ℕ) → Change
  -- a version, and when it was published and is withdrawn, in seconds
  RetireVersion : (name version : Text) (published withdrawn : ℕ) → Change
  -- a version, and the message of its deprecation
  PutDeprecation : (name version message : Text) → Change
  -- a package, a tag, and the version that it is to name
  PutTag : (name tag version : Text) → Change
  DropTag : (name tag : Text) → Change

-- what is published, at this moment and not deprecated
abbrev pub release_of : FormParts → ℕ → Release
release_of f now = record { at = now; manifest = f.manifest; archive = f.archive; message = [] }

-- What a change puts is there, in place of what was there, if anything was
abbrev pub made : State → Change → State
made S (AddUser u) = with_user S u
made S (AddToken digest u) = with_token S digest u
made S (DropToken digest) = without_token S digest
made S (AddOrg o) = with_organisation S o
made S (PutMember o u role) = with_role S o u role
made S (DropMember o u) = without_member S o u
made S (AddTeam o t) = with_team S o t
made S (PutTeamMember o t u) = with_team_member S o t u
made S (DropTeamMember o t u) = without_team_member S o t u
made S (DropTeam o t) = without_team S o t
made S (PutGrant o t p grant) = with_grant S o t p grant
made S (DropGrant o t p) = without_grant S o t p
made S (PutOwner p u) = with_maintainer S p u
made S (DropOwner p u) = without_maintainer S p u
made S (PutStatus p status) = with_status S p status
made S (AddVersion f now) = with_version S f.name (version_of f) (release_of f now)
made S (RetireVersion p v published withdrawn) = retired S p v published withdrawn
made S (PutDeprecation p v message) = with_message S p v message
made S (PutTag p t v) = with_tag S p t v
made S (DropTag p t) = without_tag S p t

-- changes, made in their order
abbrev pub all_made : State → List Change → State
all_made S [] = S
all_made S (c ∷ cs) = all_made (made S c) cs

-- the values of a change of the program
abbrev pub change_of : declared.Change → Change
change_of (change.AddUser u) = AddUser u.now
change_of (change.AddToken digest u) = AddToken digest.now u.now
change_of (change.DropToken digest) = DropToken digest.now
change_of (change.AddOrg o) = AddOrg o.now
change_of (change.PutMember o u role) = PutMember o.now u.now role
change_of (change.DropMember o u) = DropMember o.now u.now
change_of (change.AddTeam o t) = AddTeam o.now t.now
change_of (change.PutTeamMember o t u) = PutTeamMember o.now t.now u.now
change_of (change.DropTeamMember o t u) = DropTeamMember o.now t.now u.now
change_of (change.DropTeam o t) = DropTeam o.now t.now
change_of (change.PutGrant o t p grant) = PutGrant o.now t.now p.now grant
change_of (change.DropGrant o t p) = DropGrant o.now t.now p.now
change_of (change.PutOwner p u) = PutOwner p.now u.now
change_of (change.DropOwner p u) = DropOwner p.now u.now
change_of (change.PutStatus p status) = PutStatus p.now status
change_of (change.AddVersion f now) = AddVersion f.now now.now
change_of (change.RetireVersion p v published withdrawn) = RetireVersion p.now (text_of_version v.now) published.now withdrawn.now
change_of (change.PutDeprecation p v message) = PutDeprecation p.now (text_of_version v.now) message.now
change_of (change.PutTag p t v) = PutTag p.now t.now (text_of_version v.now)
change_of (change.DropTag p t) = DropTag p.now t.now
