-- What the queries of texts mean.
use Rattle.std.proofs.Common.{[], ◌∷◌, codes, refl}
use Rattle.sqlite.specs.Listing.{understood}
use Rattle.sqlite_tied.specs.Compute.{everything}
use Rattle.registry_check.specs.Readable.{ListsTexts}
use Rattle.registry_check.specs.declared.texts.TextTable.TheVariants.{Users, Tokens, Organisations, Members, Teams, TeamMembers, Packages, Grants, Maintainers, Versions, Spent, Tags, Needs, Meta, Held, Archives, NeedRanges}

pub users_texts : ListsTexts Users (codes "SELECT rowid, name FROM users ORDER BY rowid")
unfolding understood everything
users_texts = (codes "rowid" ∷ codes "name" ∷ [], (((refl, (refl, refl)), refl)))

pub tokens_texts : ListsTexts Tokens (codes "SELECT rowid, user FROM tokens ORDER BY rowid")
unfolding understood everything
tokens_texts = (codes "rowid" ∷ codes "user" ∷ [], (((refl, (refl, refl)), refl)))

pub organisations_texts : ListsTexts Organisations (codes "SELECT rowid, name FROM orgs ORDER BY rowid")
unfolding understood everything
organisations_texts = (codes "rowid" ∷ codes "name" ∷ [], (((refl, (refl, refl)), refl)))

pub members_texts : ListsTexts Members (codes "SELECT rowid, org, user FROM members ORDER BY rowid")
unfolding understood everything
members_texts = (codes "rowid" ∷ codes "org" ∷ codes "user" ∷ [], (((refl, (refl, refl)), refl)))

pub teams_texts : ListsTexts Teams (codes "SELECT rowid, org, team FROM teams ORDER BY rowid")
unfolding understood everything
teams_texts = (codes "rowid" ∷ codes "org" ∷ codes "team" ∷ [], (((refl, (refl, refl)), refl)))

pub team_members_texts : ListsTexts TeamMembers (codes "SELECT rowid, org, team, user FROM team_members ORDER BY rowid")
unfolding understood everything
team_members_texts = (codes "rowid" ∷ codes "org" ∷ codes "team" ∷ codes "user" ∷ [], (((refl, (refl, refl)), refl)))

pub packages_texts : ListsTexts Packages (codes "SELECT rowid, name FROM packages ORDER BY rowid")
unfolding understood everything
packages_texts = (codes "rowid" ∷ codes "name" ∷ [], (((refl, (refl, refl)), refl)))

pub grants_texts : ListsTexts Grants (codes "SELECT rowid, org, team, package FROM grants ORDER BY rowid")
unfolding understood everything
grants_texts = (codes "rowid" ∷ codes "org" ∷ codes "team" ∷ codes "package" ∷ [], (((refl, (refl, refl)), refl)))

pub maintainers_texts : ListsTexts Maintainers (codes "SELECT rowid, package, user FROM owners ORDER BY rowid")
unfolding understood everything
maintainers_texts = (codes "rowid" ∷ codes "package" ∷ codes "user" ∷ [], (((refl, (refl, refl)), refl)))

pub versions_texts : ListsTexts Versions (codes "SELECT rowid, package, version, manifest, deprecated FROM versions ORDER BY rowid")
unfolding understood everything
versions_texts = (codes "rowid" ∷ codes "package" ∷ codes "version" ∷ codes "manifest" ∷ codes "deprecated" ∷ [], (((refl, (refl, refl)), refl)))

pub spent_texts : ListsTexts Spent (codes "SELECT rowid, package, version FROM spent ORDER BY rowid")
unfolding understood everything
spent_texts = (codes "rowid" ∷ codes "package" ∷ codes "version" ∷ [], (((refl, (refl, refl)), refl)))

pub tags_texts : ListsTexts Tags (codes "SELECT rowid, package, tag, version FROM tags ORDER BY rowid")
unfolding understood everything
tags_texts = (codes "rowid" ∷ codes "package" ∷ codes "tag" ∷ codes "version" ∷ [], (((refl, (refl, refl)), refl)))

pub needs_texts : ListsTexts Needs (codes "SELECT rowid, package, version, target FROM needs ORDER BY rowid")
unfolding understood everything
needs_texts = (codes "rowid" ∷ codes "package" ∷ codes "version" ∷ codes "target" ∷ [], (((refl, (refl, refl)), refl)))

pub meta_texts : ListsTexts Meta (codes "SELECT rowid, name FROM meta ORDER BY rowid")
unfolding understood everything
meta_texts = (codes "rowid" ∷ codes "name" ∷ [], (((refl, (refl, refl)), refl)))

pub held_texts : ListsTexts Held (codes "SELECT rowid, package, version FROM held ORDER BY rowid")
unfolding understood everything
held_texts = (codes "rowid" ∷ codes "package" ∷ codes "version" ∷ [], (((refl, (refl, refl)), refl)))

pub archives_texts : ListsTexts Archives (codes "SELECT id, integrity FROM archives ORDER BY id")
unfolding understood everything
archives_texts = (codes "id" ∷ codes "integrity" ∷ [], (((refl, (refl, refl)), refl)))

pub need_ranges_texts : ListsTexts NeedRanges (codes "SELECT rowid, package, version, target, range FROM need_ranges ORDER BY rowid")
unfolding understood everything
need_ranges_texts = (codes "rowid" ∷ codes "package" ∷ codes "version" ∷ codes "target" ∷ codes "range" ∷ [], (((refl, (refl, refl)), refl)))
