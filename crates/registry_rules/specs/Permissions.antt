-- What the policy says to a caller who asks for an action: the rule that allows it, or why they are
-- refused. One equation an action
use Rattle.std.specs.Prelude.{is_some}
use Rattle.registry_names.specs.Maps.{at}
use Rattle.registry_names.specs.Names.{scope_of}
use Rattle.registry_names.specs.declared.refusal.Rule.TheVariants.{A5}
use Rattle.registry_access.specs.Access.{Access}
use Rattle.registry_access.specs.Callers.{is_user, role_of}
use Rattle.registry_access.specs.Policy.{Verdict, by_rule, for_known, may_operate, may_end_token, may_manage_members, may_manage_teams, may_see_organisation, may_publish, may_write, may_manage_maintainers, may_read}
use Rattle.registry_access.specs.Positions.{has_organisation, position_in}
use Rattle.registry_access.specs.declared.caller.Caller.{Caller}
use Rattle.registry_rules.specs.declared.request.Action.{Action}
use Rattle.registry_rules.specs.declared.request.Action.TheVariants.{UserAdd, TokenAdd, TokenRemove, TokensRemove, OrgCreate, OrgSet, OrgRemove, TeamCreate, TeamDestroy, TeamAdd, TeamRemove, Grant, Revoke, SetAccess, OwnerAdd, OwnerRemove, Publish, TagSet, TagRemove, Withdraw, WithdrawAll, Deprecate, Packument, AbbreviatedPackument, RevisedPackument, VersionDoc, Archive, Tags, Members, Teams, TeamMembers, TeamPackages, WhoAmI, Maintainers, OrgPackages, MyPackages, Users, Organisations, Packages}

-- A5: any user
abbrev pub may_be_named : Caller → Verdict
may_be_named who = for_known who (by_rule A5 (is_user who))

abbrev pub permission : Access → Caller → Action → Verdict
permission A who (UserAdd u) = may_operate who
permission A who (TokenAdd u digest) = may_operate who
permission A who (TokenRemove digest) = may_end_token who (at A.tokens digest)
permission A who (TokensRemove u) = may_operate who
permission A who (OrgCreate o u) = may_operate who
permission A who (OrgSet o u role) = may_manage_members who (has_organisation A o) (role_of A who o)
permission A who (OrgRemove o u) = may_manage_members who (has_organisation A o) (role_of A who o)
permission A who (TeamCreate o t) = may_manage_teams who (has_organisation A o) (role_of A who o)
permission A who (TeamDestroy o t) = may_manage_teams who (has_organisation A o) (role_of A who o)
permission A who (TeamAdd o t u) = may_manage_teams who (has_organisation A o) (role_of A who o)
permission A who (TeamRemove o t u) = may_manage_teams who (has_organisation A o) (role_of A who o)
permission A who (Grant o t p grant) = may_manage_teams who (has_organisation A o) (role_of A who o)
permission A who (Revoke o t p) = may_manage_teams who (has_organisation A o) (role_of A who o)
permission A who (SetAccess p status) = may_write who (position_in A who p)
permission A who (OwnerAdd p u) = may_manage_maintainers who (position_in A who p)
permission A who (OwnerRemove p u) = may_manage_maintainers who (position_in A who p)
permission A who (Publish f) = may_publish who (is_some (scope_of f.name)) (position_in A who f.name)
permission A who (TagSet p t v) = may_write who (position_in A who p)
permission A who (TagRemove p t) = may_write who (position_in A who p)
permission A who (Withdraw p v) = may_write who (position_in A who p)
permission A who (WithdrawAll p) = may_write who (position_in A who p)
permission A who (Deprecate p selector message) = may_write who (position_in A who p)
permission A who (Packument p) = may_read (position_in A who p)
permission A who (AbbreviatedPackument p) = may_read (position_in A who p)
permission A who (RevisedPackument p) = may_read (position_in A who p)
permission A who (VersionDoc p asked) = may_read (position_in A who p)
permission A who (Archive p v) = may_read (position_in A who p)
permission A who (Tags p) = may_read (position_in A who p)
permission A who (Members o) = may_see_organisation who (has_organisation A o) (role_of A who o)
permission A who (Teams o) = may_see_organisation who (has_organisation A o) (role_of A who o)
permission A who (TeamMembers o t) = may_see_organisation who (has_organisation A o) (role_of A who o)
permission A who (TeamPackages o t) = may_see_organisation who (has_organisation A o) (role_of A who o)
permission A who WhoAmI = may_be_named who
permission A who (Maintainers p) = may_read (position_in A who p)
permission A who (OrgPackages o) = may_see_organisation who (has_organisation A o) (role_of A who o)
permission A who MyPackages = may_be_named who
permission A who Users = may_operate who
permission A who Organisations = may_operate who
permission A who Packages = may_operate who
