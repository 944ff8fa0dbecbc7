use Rattle.registry_npm.proofs.following.by_route.Goals as goal

pub returns-in-OrgSet : goal.returns-in-OrgSet
returns-in-OrgSet g c = rw (c.in-OrgSet.is, c.of-in-OrgSet.ensures) c.org_set.ensures

pub returns-in-FileDrop : goal.returns-in-FileDrop
returns-in-FileDrop g c = rw c.in-FileDrop.is c.other.ensures

pub returns-in-ScopedFileDrop : goal.returns-in-ScopedFileDrop
returns-in-ScopedFileDrop g c = rw c.in-ScopedFileDrop.is c.other-in-ScopedFileDrop.ensures

pub returns-in-SetAccess : goal.returns-in-SetAccess
returns-in-SetAccess g c = rw (c.in-SetAccess.is, c.of-in-SetAccess.ensures) c.command.ensures

pub returns-in-OrgPackages : goal.returns-in-OrgPackages
returns-in-OrgPackages g c = rw c.in-OrgPackages.is c.other-in-OrgPackages.ensures

pub returns-in-Members : goal.returns-in-Members
returns-in-Members g c = rw c.in-Members.is c.other-in-Members.ensures

pub returns-in-OrgRemove : goal.returns-in-OrgRemove
returns-in-OrgRemove g c = rw (c.in-OrgRemove.is, c.of-in-OrgRemove.ensures) c.command-in-OrgRemove.ensures

pub returns-in-TeamCreate : goal.returns-in-TeamCreate
returns-in-TeamCreate g c = rw (c.in-TeamCreate.is, c.of-in-TeamCreate.ensures) c.command-in-TeamCreate.ensures

pub returns-in-TeamMembers : goal.returns-in-TeamMembers
returns-in-TeamMembers g c = rw c.in-TeamMembers.is c.other-in-TeamMembers.ensures

pub returns-in-TeamAdd : goal.returns-in-TeamAdd
returns-in-TeamAdd g c = rw (c.in-TeamAdd.is, c.of-in-TeamAdd.ensures) c.command-in-TeamAdd.ensures

pub returns-in-TeamRemove : goal.returns-in-TeamRemove
returns-in-TeamRemove g c = rw (c.in-TeamRemove.is, c.of-in-TeamRemove.ensures) c.command-in-TeamRemove.ensures

pub returns-in-TeamPackages : goal.returns-in-TeamPackages
returns-in-TeamPackages g c = rw c.in-TeamPackages.is c.other-in-TeamPackages.ensures

pub returns-in-Grant : goal.returns-in-Grant
returns-in-Grant g c = rw (c.in-Grant.is, c.of-in-Grant.ensures) c.command-in-Grant.ensures

pub returns-in-Revoke : goal.returns-in-Revoke
returns-in-Revoke g c = rw (c.in-Revoke.is, c.of-in-Revoke.ensures) c.command-in-Revoke.ensures

pub returns-in-Logout : goal.returns-in-Logout
returns-in-Logout g c = rw c.in-Logout.is c.other-in-Logout.ensures
