use Rattle.registry_check.proofs.TextQueryFacts.{archives_texts, grants_texts, held_texts, maintainers_texts, members_texts, meta_texts, need_ranges_texts, needs_texts, organisations_texts, packages_texts, spent_texts, tags_texts, team_members_texts, teams_texts, tokens_texts, users_texts, versions_texts}
use Rattle.registry_check.proofs.texts.TextTable.query.Goals as goal

pub returns-in-Users : goal.returns-in-Users
returns-in-Users c = rw c.in-Users.is users_texts

pub returns-in-Tokens : goal.returns-in-Tokens
returns-in-Tokens c = rw c.in-Tokens.is tokens_texts

pub returns-in-Organisations : goal.returns-in-Organisations
returns-in-Organisations c = rw c.in-Organisations.is organisations_texts

pub returns-in-Members : goal.returns-in-Members
returns-in-Members c = rw c.in-Members.is members_texts

pub returns-in-Teams : goal.returns-in-Teams
returns-in-Teams c = rw c.in-Teams.is teams_texts

pub returns-in-TeamMembers : goal.returns-in-TeamMembers
returns-in-TeamMembers c = rw c.in-TeamMembers.is team_members_texts

pub returns-in-Packages : goal.returns-in-Packages
returns-in-Packages c = rw c.in-Packages.is packages_texts

pub returns-in-Grants : goal.returns-in-Grants
returns-in-Grants c = rw c.in-Grants.is grants_texts

pub returns-in-Maintainers : goal.returns-in-Maintainers
returns-in-Maintainers c = rw c.in-Maintainers.is maintainers_texts

pub returns-in-Versions : goal.returns-in-Versions
returns-in-Versions c = rw c.in-Versions.is versions_texts

pub returns-in-Spent : goal.returns-in-Spent
returns-in-Spent c = rw c.in-Spent.is spent_texts

pub returns-in-Tags : goal.returns-in-Tags
returns-in-Tags c = rw c.in-Tags.is tags_texts

pub returns-in-Needs : goal.returns-in-Needs
returns-in-Needs c = rw c.in-Needs.is needs_texts

pub returns-in-Meta : goal.returns-in-Meta
returns-in-Meta c = rw c.in-Meta.is meta_texts

pub returns-in-Held : goal.returns-in-Held
returns-in-Held c = rw c.in-Held.is held_texts

pub returns-in-Archives : goal.returns-in-Archives
returns-in-Archives c = rw c.in-Archives.is archives_texts

pub returns-in-NeedRanges : goal.returns-in-NeedRanges
returns-in-NeedRanges c = rw c.in-NeedRanges.is need_ranges_texts
