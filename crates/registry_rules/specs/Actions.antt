-- What an action is. A case that names its actions says so of these, and the last case of all
-- others.
use Rattle.std.specs.Prelude.{Bool, true, false, ◌&&◌}
use Rattle.registry_names.specs.Texts.{Text, is}
use Rattle.registry_names.specs.Versions.{text_of_version}
use Rattle.registry_publish.specs.Form.{FormParts}
use Rattle.registry_rules.specs.declared.request.Action.{Action}
use Rattle.registry_rules.specs.declared.request.Action.TheVariants.{UserAdd, TokenAdd, TokenRemove, TokensRemove, OrgCreate, OrgSet, OrgRemove, TeamCreate, TeamDestroy, TeamAdd, TeamRemove, Grant, Revoke, SetAccess, OwnerAdd, OwnerRemove, Publish, TagSet, TagRemove, Withdraw, WithdrawAll, Deprecate}

-- whether it may change the registry
abbrev pub is_command : Action → Bool
is_command (UserAdd u) = true
is_command (TokenAdd u digest) = true
is_command (TokenRemove digest) = true
is_command (TokensRemove u) = true
is_command (OrgCreate o u) = true
is_command (OrgSet o u role) = true
is_command (OrgRemove o u) = true
is_command (TeamCreate o t) = true
is_command (TeamDestroy o t) = true
is_command (TeamAdd o t u) = true
is_command (TeamRemove o t u) = true
is_command (Grant o t p grant) = true
is_command (Revoke o t p) = true
is_command (SetAccess p status) = true
is_command (OwnerAdd p u) = true
is_command (OwnerRemove p u) = true
is_command (Publish f) = true
is_command (TagSet p t v) = true
is_command (TagRemove p t) = true
is_command (Withdraw p v) = true
is_command (WithdrawAll p) = true
is_command (Deprecate p selector message) = true
is_command _ = false

-- the text of the version that a form publishes
abbrev pub version_of : FormParts → Text
version_of f = text_of_version f.version

-- whether it is a command about this package
abbrev pub names_package : Action → Text → Bool
names_package (Grant o t q grant) p = is q p
names_package (Revoke o t q) p = is q p
names_package (SetAccess q status) p = is q p
names_package (OwnerAdd q u) p = is q p
names_package (OwnerRemove q u) p = is q p
names_package (Publish f) p = is f.name p
names_package (TagSet q t v) p = is q p
names_package (TagRemove q t) p = is q p
names_package (Withdraw q v) p = is q p
names_package (WithdrawAll q) p = is q p
names_package (Deprecate q selector message) p = is q p
names_package _ p = false

-- whether it is the command that ends this team
abbrev pub ends_team : Action → Text → Text → Bool
ends_team (TeamDestroy o t) p s = is o p && is t s
ends_team _ p s = false
