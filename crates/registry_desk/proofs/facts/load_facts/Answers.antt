use Rattle.registry_desk.proofs.EarlyFacts.{asked_either, asked_for}
use Rattle.registry_desk.proofs.facts.load_facts.Goals as goal

pub returns-in-UserAdd : goal.returns-in-UserAdd
returns-in-UserAdd g c = asked_for c.facts_for_user_add.result c.args.request.now.at c.args.caller.now c.in-UserAdd.is c.facts_for_user_add.ensures (λ y d told sound. told c.args.caller.now c.args.request.now.at)

pub returns-in-TokenAdd : goal.returns-in-TokenAdd
returns-in-TokenAdd g c = asked_for c.facts_for_token_add.result c.args.request.now.at c.args.caller.now c.in-TokenAdd.is c.facts_for_token_add.ensures (λ y d told sound. told c.args.caller.now c.args.request.now.at)

pub returns-in-TokenRemove : goal.returns-in-TokenRemove
returns-in-TokenRemove g c = asked_for c.facts_for_token_remove.result c.args.request.now.at c.args.caller.now c.in-TokenRemove.is c.facts_for_token_remove.ensures (λ y d told sound. told c.args.caller.now c.args.request.now.at)

pub returns-in-TokensRemove : goal.returns-in-TokensRemove
returns-in-TokensRemove g c = asked_for c.facts_for_tokens_remove.result c.args.request.now.at c.args.caller.now c.in-TokensRemove.is c.facts_for_tokens_remove.ensures (λ y d told sound. told c.args.request.now.at)

pub returns-in-OrgCreate : goal.returns-in-OrgCreate
returns-in-OrgCreate g c = asked_for c.facts_for_org_create.result c.args.request.now.at c.args.caller.now c.in-OrgCreate.is c.facts_for_org_create.ensures (λ y d told sound. told c.args.caller.now c.args.request.now.at)

pub returns-in-OrgSet : goal.returns-in-OrgSet
returns-in-OrgSet g c = asked_for c.facts_about_member.result c.args.request.now.at c.args.caller.now c.in-OrgSet.is c.facts_about_member.ensures (λ y d told sound. told.0 c.in-OrgSet.role c.args.request.now.at)

pub returns-in-OrgRemove : goal.returns-in-OrgRemove
returns-in-OrgRemove g c = asked_for c.facts_about_member-in-OrgRemove.result c.args.request.now.at c.args.caller.now c.in-OrgRemove.is c.facts_about_member-in-OrgRemove.ensures (λ y d told sound. told.1 c.args.request.now.at)

pub returns-in-TeamCreate : goal.returns-in-TeamCreate
returns-in-TeamCreate g c = asked_for c.facts_about_team.result c.args.request.now.at c.args.caller.now c.in-TeamCreate.is c.facts_about_team.ensures (λ y d told sound. told.0 c.args.request.now.at)

pub returns-in-TeamDestroy : goal.returns-in-TeamDestroy
returns-in-TeamDestroy g c = asked_for c.facts_about_team-in-TeamDestroy.result c.args.request.now.at c.args.caller.now c.in-TeamDestroy.is c.facts_about_team-in-TeamDestroy.ensures (λ y d told sound. told.1.0 c.args.request.now.at)

pub returns-in-TeamAdd : goal.returns-in-TeamAdd
returns-in-TeamAdd g c = asked_for c.facts_about_team_member.result c.args.request.now.at c.args.caller.now c.in-TeamAdd.is c.facts_about_team_member.ensures (λ y d told sound. told.0 c.args.request.now.at)

pub returns-in-TeamRemove : goal.returns-in-TeamRemove
returns-in-TeamRemove g c = asked_for c.facts_about_team_member-in-TeamRemove.result c.args.request.now.at c.args.caller.now c.in-TeamRemove.is c.facts_about_team_member-in-TeamRemove.ensures (λ y d told sound. told.1 c.args.request.now.at)

pub returns-in-Grant : goal.returns-in-Grant
returns-in-Grant g c = asked_for c.facts_about_grant.result c.args.request.now.at c.args.caller.now c.in-Grant.is c.facts_about_grant.ensures (λ y d told sound. told.0 c.in-Grant.grant c.args.request.now.at)

pub returns-in-Revoke : goal.returns-in-Revoke
returns-in-Revoke g c = asked_for c.facts_about_grant-in-Revoke.result c.args.request.now.at c.args.caller.now c.in-Revoke.is c.facts_about_grant-in-Revoke.ensures (λ y d told sound. told.1 c.args.request.now.at)

pub returns-in-SetAccess : goal.returns-in-SetAccess
returns-in-SetAccess g c = asked_for c.facts_for_set_access.result c.args.request.now.at c.args.caller.now c.in-SetAccess.is c.facts_for_set_access.ensures (λ y d told sound. told c.in-SetAccess.status sound c.args.request.now.at)

pub returns-in-OwnerAdd : goal.returns-in-OwnerAdd
returns-in-OwnerAdd g c = asked_for c.facts_for_owner_add.result c.args.request.now.at c.args.caller.now c.in-OwnerAdd.is c.facts_for_owner_add.ensures (λ y d told sound. told sound c.args.request.now.at)

pub returns-in-OwnerRemove : goal.returns-in-OwnerRemove
returns-in-OwnerRemove g c = asked_for c.facts_for_owner_remove.result c.args.request.now.at c.args.caller.now c.in-OwnerRemove.is c.facts_for_owner_remove.ensures (λ y d told sound. told sound c.args.request.now.at)

pub returns-in-Publish : goal.returns-in-Publish
returns-in-Publish g c = asked_for c.facts_for_publish.result c.args.request.now.at c.args.caller.now c.in-Publish.is c.facts_for_publish.ensures (λ y d told sound. told sound c.args.request.now.at)

pub returns-in-TagSet : goal.returns-in-TagSet
returns-in-TagSet g c = asked_for c.facts_for_tag_set.result c.args.request.now.at c.args.caller.now c.in-TagSet.is c.facts_for_tag_set.ensures (λ y d told sound. told c.in-TagSet.tag sound c.args.request.now.at)

pub returns-in-TagRemove : goal.returns-in-TagRemove
returns-in-TagRemove g c = asked_for c.facts_for_tag_remove.result c.args.request.now.at c.args.caller.now c.in-TagRemove.is c.facts_for_tag_remove.ensures (λ y d told sound. told sound c.args.request.now.at)

pub returns-in-Withdraw : goal.returns-in-Withdraw
returns-in-Withdraw g c = asked_for c.facts_for_withdraw.result c.args.request.now.at c.args.caller.now c.in-Withdraw.is c.facts_for_withdraw.ensures (λ y d told sound. told sound)

pub returns-in-WithdrawAll : goal.returns-in-WithdrawAll
returns-in-WithdrawAll g c = asked_for c.facts_for_withdraw_all.result c.args.request.now.at c.args.caller.now c.in-WithdrawAll.is c.facts_for_withdraw_all.ensures (λ y d told sound. told sound)

pub returns-in-Deprecate : goal.returns-in-Deprecate
returns-in-Deprecate g c = asked_for c.facts_for_deprecate.result c.args.request.now.at c.args.caller.now c.in-Deprecate.is c.facts_for_deprecate.ensures (λ y d told sound. told c.in-Deprecate.selector c.in-Deprecate.message sound c.args.request.now.at)

pub returns-in-Tags : goal.returns-in-Tags
returns-in-Tags g c = asked_for c.facts_about_package.result c.args.request.now.at c.args.caller.now c.in-Tags.is c.facts_about_package.ensures (λ y d told sound. told sound c.args.request.now.at)

pub returns-in-VersionDoc : goal.returns-in-VersionDoc
returns-in-VersionDoc g c = asked_for c.facts_about_document.result c.args.request.now.at c.args.caller.now c.in-VersionDoc.is c.facts_about_document.ensures (λ y d told sound. told sound c.args.request.now.at)

pub returns-in-Archive : goal.returns-in-Archive
returns-in-Archive g c = asked_for c.facts_about_archive.result c.args.request.now.at c.args.caller.now c.in-Archive.is c.facts_about_archive.ensures (λ y d told sound. told sound c.args.request.now.at)

pub returns-in-Members : goal.returns-in-Members
returns-in-Members g c = asked_either c.facts_about_organisation-in-Members.result c.args.request.now.at c.args.caller.now c.in-Members.is c.facts_about_organisation-in-Members.ensures (λ y d told sound. told.0 c.args.request.now.at) (λ y d told sound. told.1.0 c.args.request.now.at)

pub returns-in-TeamMembers : goal.returns-in-TeamMembers
returns-in-TeamMembers g c = asked_either c.facts_about_team-in-TeamMembers.result c.args.request.now.at c.args.caller.now c.in-TeamMembers.is c.facts_about_team-in-TeamMembers.ensures (λ y d told sound. told.1.1.0 c.args.request.now.at) (λ y d told sound. told.1.1.1 c.args.request.now.at)

pub returns-in-Maintainers : goal.returns-in-Maintainers
returns-in-Maintainers g c = asked_for c.facts_for_maintainers.result c.args.request.now.at c.args.caller.now c.in-Maintainers.is c.facts_for_maintainers.ensures (λ y d told sound. told sound c.args.request.now.at)

pub returns-in-WhoAmI : goal.returns-in-WhoAmI
returns-in-WhoAmI g c = asked_either c.facts_of_caller-in-WhoAmI.result c.args.request.now.at c.args.caller.now c.in-WhoAmI.is c.facts_of_caller-in-WhoAmI.ensures (λ y d told sound. (told c.args.caller.now).0 c.args.request.now.at) (λ y d told sound. (told c.args.caller.now).1.1.0 c.args.request.now.at)

pub returns-in-Organisations : goal.returns-in-Organisations
returns-in-Organisations g c = asked_either c.facts_of_caller-in-Organisations.result c.args.request.now.at c.args.caller.now c.in-Organisations.is c.facts_of_caller-in-Organisations.ensures (λ y d told sound. (told c.args.caller.now).1.1.1.0 c.args.request.now.at) (λ y d told sound. (told c.args.caller.now).1.1.1.1 c.args.request.now.at)

pub returns-in-OrgPackages : goal.returns-in-OrgPackages
returns-in-OrgPackages g c = asked_for c.facts_about_organisation.result c.args.request.now.at c.args.caller.now c.in-OrgPackages.is c.facts_about_organisation.ensures (λ y d told sound. told.1.1 c.args.request.now.at)

pub returns-in-MyPackages : goal.returns-in-MyPackages
returns-in-MyPackages g c = asked_for c.facts_of_caller.result c.args.request.now.at c.args.caller.now c.in-MyPackages.is c.facts_of_caller.ensures (λ y d told sound. (told c.args.caller.now).1.0 c.args.request.now.at)
