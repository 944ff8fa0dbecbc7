-- What a change makes of what is stored.
use Rattle.std.specs.Prelude.{◌≡◌, ℕ, pos, true, false, List, [], ◌∷◌, None, Some, is_some}
use Rattle.registry_names.specs.Texts.{Text}
use Rattle.std.specs.declared.cmp.Ordering.{Ordering}
use Rattle.registry_names.specs.Maps.{MapBy, at, put, erase}
use Rattle.registry_publish.specs.Form.{FormParts}
use Rattle.registry_rules.specs.Actions.{version_of}
use Rattle.registry_rules.specs.Changes.{Change, AddUser, AddToken, DropToken, AddOrg, PutMember, DropMember, AddTeam, PutTeamMember, DropTeamMember, DropTeam, PutGrant, DropGrant, PutOwner, DropOwner, PutStatus, AddVersion, RetireVersion, PutDeprecation, PutTag, DropTag}
use Rattle.registry_tables.specs.Archives.{archive_number, with_archive}
use Rattle.registry_tables.specs.Contents.{Contents, LiveVersion}
use Rattle.registry_tables.specs.Needs.{with_needs}
use Rattle.registry_tables.specs.Numbers.{grant_number, role_number, status_number}
use Rattle.registry_tables.specs.Teams.{without_member, without_team}
use Rattle.registry_tables.specs.Withdrawals.{version_retired, with_message}

-- nothing is under the key
abbrev pub IsFree : {K X : Type 0} {cmp : K → K → Ordering} → MapBy cmp X → K → Type 0
IsFree m k = at m k ≡ None

-- the row of a version that is published at this moment and not deprecated: its archive is
-- elsewhere
abbrev pub row_of : FormParts → ℕ → LiveVersion
row_of f now = record { published = pos now; manifest = f.manifest; archive = []; message = [] }

-- the version of a form has its archive, which is stored
abbrev pub with_archive_of : FormParts → Contents → Contents
with_archive_of f c = record (with_archive f.integrity f.archive c) {
  held = put c.held (f.name, version_of f) (archive_number f.integrity f.archive c);
}

-- the version of a form, published at this moment, with its archive and its needs
abbrev pub version_put : FormParts → ℕ → Contents → Contents
version_put f now c = record (with_archive f.integrity f.archive c) {
  versions = put c.versions (f.name, version_of f) (row_of f now);
  held = put c.held (f.name, version_of f) (archive_number f.integrity f.archive c);
  need_ranges = with_needs c.need_ranges f.name (version_of f) f.needs;
}

abbrev pub stored_by : Change → Contents → Contents
stored_by (AddUser u) c = record c { users = put c.users u tt }
stored_by (AddToken digest u) c = record c { tokens = put c.tokens digest u }
stored_by (DropToken digest) c = record c { tokens = erase c.tokens digest }
stored_by (AddOrg o) c = record c { organisations = put c.organisations o tt }
stored_by (PutMember o u role) c = record c { members = put c.members (o, u) (role_number role) }
stored_by (DropMember o u) c = without_member o u c
stored_by (AddTeam o t) c = record c { teams = put c.teams (o, t) tt }
stored_by (PutTeamMember o t u) c = record c { team_members = put c.team_members (o, (t, u)) tt }
stored_by (DropTeamMember o t u) c = record c { team_members = erase c.team_members (o, (t, u)) }
stored_by (DropTeam o t) c = without_team o t c
stored_by (PutGrant o t p grant) c = record c { grants = put c.grants (o, (t, p)) (grant_number grant) }
stored_by (DropGrant o t p) c = record c { grants = erase c.grants (o, (t, p)) }
stored_by (PutOwner p u) c = record c { owners = put c.owners (p, u) tt }
stored_by (DropOwner p u) c = record c { owners = erase c.owners (p, u) }
stored_by (PutStatus p status) c = record c { packages = put c.packages p (status_number status) }
stored_by (AddVersion f now) c = version_put f now c
stored_by (RetireVersion p v published withdrawn) c = version_retired p v published withdrawn c
stored_by (PutDeprecation p v message) c = record c { versions = with_message c.versions (p, v) message }
stored_by (PutTag p t v) c = record c { tags = put c.tags (p, t) v }
stored_by (DropTag p t) c = record c { tags = erase c.tags (p, t) }

-- changes, made in their order
abbrev pub all_stored : List Change → Contents → Contents
all_stored [] c = c
all_stored (change ∷ changes) c = all_stored changes (stored_by change c)

-- ---- what a change asks of what is stored

-- of a version's publication: the version neither lives nor was withdrawn, and its package has a
-- status
pub record IsNew (f : FormParts) (c : Contents) : Type 0 where
  pub not_live : at c.versions (f.name, version_of f) ≡ None
  pub not_spent : is_some (at c.spent (f.name, version_of f)) ≡ false
  pub has_status : is_some (at c.packages f.name) ≡ true

-- no tag of the package names the version
abbrev pub IsUntagged : Text → Text → Contents → Type 0
IsUntagged p v c = (t : Text) → ¬ (at c.tags (p, t) ≡ Some v)

-- of a withdrawal: the version lives, it wasn't withdrawn before, and no tag names it
pub record MayRetire (p v : Text) (c : Contents) : Type 0 where
  pub lives : is_some (at c.versions (p, v)) ≡ true
  pub not_spent : IsFree c.spent (p, v)
  pub untagged : IsUntagged p v c

-- What must hold of what is stored for the change to be answered. A new row has a key under which
-- nothing is. A role, a grant, a status and a tag take the place of what is there. These changes and
-- all others ask for nothing, except those of versions
abbrev pub Asks : Change → Contents → Type 0
Asks (AddUser u) c = IsFree c.users u
Asks (AddToken digest u) c = IsFree c.tokens digest
Asks (DropToken digest) c = Unit {0}
Asks (AddOrg o) c = IsFree c.organisations o
Asks (PutMember o u role) c = Unit {0}
Asks (DropMember o u) c = Unit {0}
Asks (AddTeam o t) c = IsFree c.teams (o, t)
Asks (PutTeamMember o t u) c = IsFree c.team_members (o, (t, u))
Asks (DropTeamMember o t u) c = Unit {0}
Asks (DropTeam o t) c = Unit {0}
Asks (PutGrant o t p grant) c = Unit {0}
Asks (DropGrant o t p) c = Unit {0}
Asks (PutOwner p u) c = IsFree c.owners (p, u)
Asks (DropOwner p u) c = Unit {0}
Asks (PutStatus p status) c = Unit {0}
Asks (AddVersion f now) c = IsNew f c
Asks (RetireVersion p v published withdrawn) c = MayRetire p v c
Asks (PutDeprecation p v message) c = Unit {0}
Asks (PutTag p t v) c = Unit {0}
Asks (DropTag p t) c = Unit {0}
