-- The policy: for each thing that can be asked for, the rule that allows it, or the first of
-- NoCaller, NotFound and Denied that refuses it.
use Rattle.std.specs.Prelude.{Bool, false, is_some, Option, Some, None, Result, Ok, Err, if◌then◌else◌}
use Rattle.registry_names.specs.Names.{scope_of}
use Rattle.registry_names.specs.Texts.{Text, is}
use Rattle.registry_names.specs.declared.refusal.Rule.{Rule}
use Rattle.registry_names.specs.declared.refusal.Rule.TheVariants.{A1, A2, A3, A4, A5, A6, A7, A8, A9, A10}
use Rattle.registry_names.specs.declared.refusal.Refusal.{Refusal}
use Rattle.registry_names.specs.declared.refusal.Refusal.TheVariants.{NoCaller, NotFound, Denied}
use Rattle.registry_access.specs.Access.{Access}
use Rattle.registry_access.specs.Callers.{is_operator, is_user, role_of}
use Rattle.registry_access.specs.Levels.{reads, writes, is_owner, is_owner_or_admin}
use Rattle.registry_access.specs.Positions.{has_organisation, level_at, position_in}
use Rattle.registry_access.specs.declared.role.Role.{Role}
use Rattle.registry_access.specs.declared.caller.Caller.{Caller}
use Rattle.registry_access.specs.declared.caller.Caller.TheVariants.{Operator, User, Anonymous}
use Rattle.registry_access.specs.declared.position.Position.{Position}
use Rattle.registry_access.specs.declared.ask.Ask.{Ask}
use Rattle.registry_access.specs.declared.ask.Ask.TheVariants.{Operate, OrgMembers, OrgTeams, Publish, Write, Owners, Read, OrgRead}

abbrev pub Verdict : Type 0
Verdict = Result Rule Refusal

-- NoCaller, which comes first
abbrev pub for_known : Caller → Verdict → Verdict
for_known Operator next = next
for_known (User u) next = next
for_known Anonymous next = Err NoCaller

-- NotFound, which comes second
abbrev pub where_found : Bool → Verdict → Verdict
where_found there next = if there then next else Err NotFound

-- the rule, or Denied by it, which comes last
abbrev pub by_rule : Rule → Bool → Verdict
by_rule rule holds = if holds then Ok rule else Err (Denied rule)

-- A1: the operator
abbrev pub may_operate : Caller → Verdict
may_operate caller = for_known caller (by_rule A1 (is_operator caller))

-- ---- of a token, by whose it is, if it is there

-- it is there, and this user's
abbrev pub is_theirs : Option Text → Text → Bool
is_theirs None u = false
is_theirs (Some whose) u = is whose u

-- A1: the operator, whether it is there or not. A10: the user whose token it is. To another user it
-- is as one that isn't there
abbrev pub may_end_token : Caller → Option Text → Verdict
may_end_token Operator whose = Ok A1
may_end_token (User u) whose = where_found (is_theirs whose u) (Ok A10)
may_end_token Anonymous whose = Err NoCaller

-- ---- of an organisation that may be there, and in which the caller may have a role

-- A2: an owner
abbrev pub may_manage_members : Caller → Bool → Option Role → Verdict
may_manage_members caller there role = for_known caller (where_found there (by_rule A2 (is_owner role)))

-- A3: an owner or an admin
abbrev pub may_manage_teams : Caller → Bool → Option Role → Verdict
may_manage_teams caller there role = for_known caller (where_found there (by_rule A3 (is_owner_or_admin role)))

-- A9: a member
abbrev pub may_see_organisation : Caller → Bool → Option Role → Verdict
may_see_organisation caller there role = for_known caller (where_found there (by_rule A9 (is_some role)))

-- ---- of a package

-- A8: a caller who reads it
abbrev pub may_read : Position → Verdict
may_read position = where_found (reads (level_at position)) (Ok A8)

-- A6: a caller who writes it
abbrev pub may_write : Caller → Position → Verdict
may_write caller position = for_known caller (where_found (reads (level_at position)) (by_rule A6 (writes (level_at position))))

-- A7: a maintainer
abbrev pub may_manage_maintainers : Caller → Position → Verdict
may_manage_maintainers caller position = for_known caller (where_found (reads (level_at position)) (by_rule A7 position.maintainer))

-- a name without a scope. A5, for its first version: any user. A6, for a further one: a caller who
-- writes it
abbrev pub may_publish_unscoped : Caller → Position → Verdict
may_publish_unscoped caller position =
    for_known caller (if is_some position.status then by_rule A6 (writes (level_at position)) else by_rule A5 (is_user caller))

-- a name with a scope. A4, for its first version: a member. A6, for a further one: a member who
-- writes it
abbrev pub may_publish_scoped : Caller → Position → Verdict
may_publish_scoped caller position =
    for_known caller (where_found position.organisation (if is_some position.role
    then (if is_some position.status then by_rule A6 (writes (level_at position)) else Ok A4)
    else Err (Denied A4)))

abbrev pub may_publish : Caller → Bool → Position → Verdict
may_publish caller scoped position = if scoped then may_publish_scoped caller position else may_publish_unscoped caller position

-- what an ask about a package comes to, by what the caller is to it. An ask about no package finds
-- nothing
abbrev pub allowed_at : Caller → Ask → Position → Verdict
allowed_at caller (Publish p) position = may_publish caller (is_some (scope_of p.now)) position
allowed_at caller (Write p) position = may_write caller position
allowed_at caller (Owners p) position = may_manage_maintainers caller position
allowed_at caller (Read p) position = may_read position
allowed_at caller _ position = Err NotFound

-- what an ask comes to in a state
abbrev pub allowed_in : Access → Caller → Ask → Verdict
allowed_in S caller Operate = may_operate caller
allowed_in S caller (OrgMembers o) = may_manage_members caller (has_organisation S o.now) (role_of S caller o.now)
allowed_in S caller (OrgTeams o) = may_manage_teams caller (has_organisation S o.now) (role_of S caller o.now)
allowed_in S caller (Publish p) = may_publish caller (is_some (scope_of p.now)) (position_in S caller p.now)
allowed_in S caller (Write p) = may_write caller (position_in S caller p.now)
allowed_in S caller (Owners p) = may_manage_maintainers caller (position_in S caller p.now)
allowed_in S caller (Read p) = may_read (position_in S caller p.now)
allowed_in S caller (OrgRead o) = may_see_organisation caller (has_organisation S o.now) (role_of S caller o.now)
