-- The lists that the registry answers with, as values.
use Rattle.std.specs.Prelude.{ℕ, List, Option, Some, None, codes}
use Rattle.serde_json.specs.Data.{Data, Members, array, member, no_members, number, object, string, unsigned}
use Rattle.serde_json.specs.Written.{compact_text}
use Rattle.registry_access.specs.Spellings.{role_text, grant_text, level_text}
use Rattle.registry_packument.specs.TextValues.{text_items, text_members, value_members}
use Rattle.registry_packument.specs.declared.list.Member.{Member}
use Rattle.registry_packument.specs.declared.list.Granted.{Granted}
use Rattle.registry_packument.specs.declared.list.PackageLevel.{PackageLevel}
use Rattle.registry_packument.specs.declared.list.TokenCount.{TokenCount}
use Rattle.registry_packument.specs.declared.list.Overview.{Overview}
use Rattle.registry_packument.specs.declared.list.List.{List as Answered}
use Rattle.registry_packument.specs.declared.list.List.TheVariants.{Tags, Members as Memberships, Names, Grants, Levels, Username, Users, Packages}
use Rattle.registry_names.specs.Spellings.{status_text}
use Rattle.registry_names.specs.Tags.{latest}
use Rattle.registry_names.specs.declared.dist_tag.DistTag.{DistTag}
use Rattle.registry_names.specs.declared.status.Status.{Status}

-- a tag, and the version that it names
abbrev pub tag_texts : DistTag → List ℕ × List ℕ
tag_texts r = (r.tag, r.version)

-- a user, and what they are
abbrev pub member_texts : Member → List ℕ × List ℕ
member_texts r = (r.user, role_text r.role)

-- a package, and what is granted on it
abbrev pub grant_texts : Granted → List ℕ × List ℕ
grant_texts r = (r.name, grant_text r.grant)

-- a package, and what the caller may do with it
abbrev pub level_texts : PackageLevel → List ℕ × List ℕ
level_texts r = (r.name, level_text r.level)

-- a user, and how many tokens they have
abbrev pub count_member : TokenCount → List ℕ × Data
count_member r = (r.user, number (unsigned r.tokens))

-- the status of a package
abbrev pub status_member : Status → Members
status_member status = member (codes "status") (string (status_text status)) no_members

-- what its `latest` names, if it has one, and then its status
abbrev pub overview_members : Option (List ℕ) → Status → Members
overview_members None status = status_member status
overview_members (Some version) status = member latest (string version) (status_member status)

-- a package, and what is shown of it
abbrev pub overview_member : Overview → List ℕ × Data
overview_member r = (r.name, object (overview_members r.latest r.status))

-- the name of a user
abbrev pub username_member : List ℕ → Members
username_member name = member (codes "username") (string name) no_members

-- tags to versions, users to roles, packages to grants or to levels, users to numbers, packages to
-- what is shown of them, a user's name, or an array of names
abbrev pub list_value : Answered → Data
list_value (Tags rows) = object (text_members tag_texts rows.items)
list_value (Memberships rows) = object (text_members member_texts rows.items)
list_value (Names names) = array (text_items names.items)
list_value (Grants rows) = object (text_members grant_texts rows.items)
list_value (Levels rows) = object (text_members level_texts rows.items)
list_value (Username name) = object (username_member name)
list_value (Users rows) = object (value_members count_member rows.items)
list_value (Packages rows) = object (value_members overview_member rows.items)

-- the text of tags, each with its version
abbrev pub tags_text : List DistTag → List ℕ
tags_text rows = compact_text (object (text_members tag_texts rows))

-- the text of members, each with their role
abbrev pub members_text : List Member → List ℕ
members_text rows = compact_text (object (text_members member_texts rows))

-- the text of names
abbrev pub names_text : List (List ℕ) → List ℕ
names_text names = compact_text (array (text_items names))

-- the text of packages, each with what is granted on it
abbrev pub grants_text : List Granted → List ℕ
grants_text rows = compact_text (object (text_members grant_texts rows))

-- the text of packages, each with what the caller may do with it
abbrev pub levels_text : List PackageLevel → List ℕ
levels_text rows = compact_text (object (text_members level_texts rows))

-- the text of a user's name
abbrev pub username_text : List ℕ → List ℕ
username_text name = compact_text (object (username_member name))

-- the text of users, each with how many tokens they have
abbrev pub counts_text : List TokenCount → List ℕ
counts_text rows = compact_text (object (value_members count_member rows))

-- the text of packages, each with what is shown of it
abbrev pub overviews_text : List Overview → List ℕ
overviews_text rows = compact_text (object (value_members overview_member rows))
